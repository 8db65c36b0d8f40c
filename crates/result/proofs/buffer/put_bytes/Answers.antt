use Rattle.std.proofs.Common.{arith, refl, ◌≡◌, ◌+◌, ◌-◌, length, append_assoc}
use Rattle.std.proofs.Math.Seq.{drop-drop}
use Rattle.base.specs.Writing.{placed_at}
use Rattle.result.proofs.buffer.put_bytes.Goals as goal

pub returns : goal.returns
unfolding placed_at
returns c =
    let a = c.args in
    let k : a.at + length a.bytes.now - a.at ≡ length a.bytes.now = omega arith in
    record { ends = refl; holds = rw (c.copy_from_slice.ensures.after, k, append_assoc, drop-drop (length a.bytes.now) a.at a.out.now) }
