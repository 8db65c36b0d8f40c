use Rattle.std.proofs.Common.{length}
use Rattle.cases.proofs.run_lines.Given as goal

abbrev pub decreases-loop-line : goal.decreases-loop-line
decreases-loop-line g l = length l.left
