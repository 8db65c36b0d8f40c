use Rattle.std.proofs.Common.{arith, rules}
use Rattle.scaling.proofs.StoredFigures.{line_right, no_line, not_half, other_percents}
use Rattle.scaling.proofs.stored.stored_line.Goals as goal

pub returns-then-haircut-eq-HALF_PERCENT : goal.returns-then-haircut-eq-HALF_PERCENT
returns-then-haircut-eq-HALF_PERCENT c = line_right _ 1 _ _ (omega arith) c.if-haircut-eq-HALF_PERCENT.true c.stored_figures-table.ensures

pub returns-then-percents-haircut : goal.returns-then-percents-haircut
returns-then-percents-haircut c = no_line _ (not_half _ c.if-percents-haircut.true c.if-haircut-eq-HALF_PERCENT.false)

pub returns-in_default : goal.returns-in_default
returns-in_default c = no_line _ (other_percents _ c.if-percents-haircut.false (search rules))
