use Rattle.std.proofs.Common.{sym}
use Rattle.lines.proofs.LineLaws.{empty_line}
use Rattle.lines.proofs.line.read_line.Goals as goal

pub returns-in_default : goal.returns-in_default
returns-in_default c = sym (empty_line _ _ c.in_default.ensures.cases)
