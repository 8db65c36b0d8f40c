-- `book::results::put_answer`: four numbers in their places, and nothing behind them. Assumes nothing.
use Rattle.std.proofs.Common.{arith, ◌≡◌, ◌+◌, ◌-◌, append_assoc}
use Rattle.std.proofs.Math.Seq.{drop-drop}
use Rattle.book.proofs.results.put_answer.Goals as goal

pub returns : goal.returns
returns c =
    let k : c.args.at + 4 - c.args.at ≡ 4 = omega arith in
    rw (c.copy_from_slice.ensures.after, k, c.numbers-numbers.ensures, append_assoc, drop-drop 4 c.args.at c.args.results.now)
