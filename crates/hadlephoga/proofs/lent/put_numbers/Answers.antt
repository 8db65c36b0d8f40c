-- `hadlephoga::lent::put_numbers`: the numbers in their places, and nothing behind them. Assumes nothing.
use Rattle.std.proofs.Common.{arith, refl, ◌≡◌, ◌+◌, ◌-◌, length, append_assoc}
use Rattle.std.proofs.Math.Seq.{drop-drop}
use Rattle.base.specs.Writing.{placed_at}
use Rattle.hadlephoga.proofs.lent.put_numbers.Goals as goal

pub returns : goal.returns
unfolding placed_at
returns c =
    let a = c.args in
    let k : a.at + length a.numbers.now - a.at ≡ length a.numbers.now = omega arith in
    record { ends = refl; holds = rw (c.copy_from_slice.ensures.after, k, append_assoc, drop-drop (length a.numbers.now) a.at a.list.now) }
