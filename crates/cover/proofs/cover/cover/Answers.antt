use Rattle.std.proofs.Common.{refl, arith}
use native.Mathlib.Nat.{le_trans, mul-le-mul}
use Rattle.cover.proofs.Ahead.{none}
use Rattle.cover.proofs.Covering.{covering_none, covering_more, covering_all, portion_left, left_le, sum_le, next_piece}
use Rattle.cover.proofs.Limits.{small_at}
use Rattle.cover.proofs.cover.cover.Goals as goal

pub loop-i-init : goal.loop-i-init
loop-i-init c = covering_none _ _

-- first what the loop keeps: the portions as they are, and their sum unrounded
pub loop-i-preserved : goal.loop-i-preserved
loop-i-preserved c =
    let next = next_piece c.args.exposure c.args.protections.now c.loop-i.i _ _ (omega arith) c.covers_before-before.ensures c.portion-covered.ensures in
    covering_more c.loop-i.invariant next (omega arith) (omega arith)

pub overflow_sub-uncovered : goal.overflow_sub-uncovered
overflow_sub-uncovered c =
    portion_left c.loop-i.invariant (next_piece c.args.exposure c.args.protections.now c.loop-i.i _ _ (omega arith) c.covers_before-before.ensures c.portion-covered.ensures) (omega arith)

pub overflow_mul-weighted_sum : goal.overflow_mul-weighted_sum
overflow_mul-weighted_sum c = omega (arith, mul-le-mul (le_trans (overflow_sub-uncovered c) (le_trans (left_le c.loop-i.invariant) c.requires.exposure_bound)) (small_at c.args.protections.now c.loop-i.i none (omega arith) c.requires.within_limits_value).1)

pub overflow_add-weighted_sum : goal.overflow_add-weighted_sum
overflow_add-weighted_sum c = omega (arith, sum_le (loop-i-preserved c) c.requires.exposure_bound c.requires.within_limits_value)

pub overflow_add-weighted_sum-2 : goal.overflow_add-weighted_sum-2
overflow_add-weighted_sum-2 c =
    omega (
      arith,
      mul-le-mul (le_trans (left_le c.loop-i.invariant) c.requires.exposure_bound) c.requires.weight_bound,
      sum_le c.loop-i.invariant c.requires.exposure_bound c.requires.within_limits_value,
    )

pub returns : goal.returns
returns c = covering_all c.loop-i.invariant c.args.weight _ (omega arith) refl
