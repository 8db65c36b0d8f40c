use Rattle.std.proofs.Common.{arith}
use Rattle.result.proofs.Digits.{count_by_power}
use Rattle.result.proofs.number.digit_count.Goals as goal

pub returns : goal.returns
returns c =
    let e = c.ilog10.ensures in
    count_by_power c.ilog10.result c.args.n e.bound (omega arith) (omega arith)
