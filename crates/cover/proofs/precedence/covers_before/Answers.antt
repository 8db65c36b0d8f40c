use Rattle.std.proofs.Common.{◌≤◌, refl, arith, ◌∙◌}
use native.Mathlib.Nat.{le_trans}
use Rattle.base.specs.Sum.{sum_of}
use Rattle.cover.proofs.Ahead.{none, ahead_le, ahead_more, ahead_all}
use Rattle.cover.proofs.Limits.{small_at}
use Rattle.cover.proofs.precedence.covers_before.Goals as goal

pub loop-i-init : goal.loop-i-init
unfolding sum_of
loop-i-init c = (omega arith, refl)

pub overflow_add-sum : goal.overflow_add-sum
overflow_add-sum c =
    let counted : c.ahead-sum.result ≤ 1000000000000 =
    rw c.ahead-sum.ensures (le_trans (ahead_le _ _ _) (small_at c.args.protections.now c.loop-i.i none (omega arith) c.requires.within_limits_value).0) in
    omega (arith, counted, c.loop-i.invariant.0)

pub loop-i-preserved : goal.loop-i-preserved
loop-i-preserved c =
    let a = c.args in
    let counted : c.ahead-sum.result ≤ 1000000000000 =
    rw c.ahead-sum.ensures (le_trans (ahead_le _ _ _) (small_at a.protections.now c.loop-i.i none (omega arith) c.requires.within_limits_value).0) in (
      omega (arith, counted, c.loop-i.invariant.0),
      ahead_more a.weight a.protections.now a.place c.loop-i.i none c.loop-i.sum c.ahead-sum.result (omega arith) c.ahead-sum.ensures c.loop-i.invariant.1,
    )

pub returns : goal.returns
returns c = c.loop-i.invariant.1 ∙ ahead_all c.args.weight c.args.protections.now c.args.place c.loop-i.i (omega arith)
