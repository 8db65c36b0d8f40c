use Rattle.std.proofs.Common.{length}
use Rattle.cases.proofs.run_files.Given as goal

abbrev pub decreases-loop-name : goal.decreases-loop-name
decreases-loop-name g l = length l.left
