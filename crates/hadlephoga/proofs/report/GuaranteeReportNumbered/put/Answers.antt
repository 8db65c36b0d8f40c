-- `hadlephoga::report::GuaranteeReport::put`: the portion stands behind the outcome's numbers. Assumes nothing.
use Rattle.std.proofs.Common.{arith}
use Rattle.base.proofs.Writing.{placed_joined}
use Rattle.hadlephoga.proofs.report.GuaranteeReportNumbered.put.Goals as goal

pub returns : goal.returns
returns c = placed_joined c.args.at _ _ _ _ _ _ _ (omega (arith, c.requires)) (rw c.outcome_numbers.ensures at c.put_numbers-next.ensures) c.put_number.ensures
