use mathlib.Core.Path.{◌≡◌, sym, ap, subst, ◌∙◌}
use mathlib.Core.Bool.{true, false}
use native.Mathlib.Omega.{arith}
use lib.IntN.{ℤ, pos, nat_abs, ◌+ℤ◌}
use lib.Signed.{lt_z, quot_z}
use mir.Syntax.{w64}
use mir.Val.{SFits, to_z, of_z}
use Rattle.signed.specs.Signed.{ceiling}
use Rattle.signed.proofs.Ceiling.{ceiling_negative, ceiling_positive, ceiling_fits}
use Rattle.signed.proofs.Machine.{back, not_negative, pos_fits}
use Rattle.signed.proofs.rounded_up.Goals as goal

pub returns-then-x-lt0 : goal.returns-then-x-lt0
returns-then-x-lt0 c =
    let bits = back c.args.x c.ranges.x in
    let down : quot_z (to_z w64 (of_z w64 c.args.x)) (pos 1000000) ≡ ceiling c.args.x 1000000 =
    ap (λ z. quot_z z (pos 1000000)) bits ∙ ceiling_negative _ (subst (λ (z : ℤ). lt_z z (pos 0) ≡ true) bits c.if-x-lt0.true) in
    back _ (subst (SFits w64) (sym down) (ceiling_fits _ c.requires)) ∙ down

pub returns : goal.returns
returns c =
    let x = c.args.x in
    let bits = back x c.ranges.x in
    let at_least_zero = subst (λ (z : ℤ). lt_z z (pos 0) ≡ false) bits c.if-x-lt0.false in
    let sum : to_z w64 (of_z w64 x) +ℤ pos 999999 ≡ x +ℤ pos 999999 = ap (λ z. z +ℤ pos 999999) bits in
    let fits : SFits w64 (pos (nat_abs x) +ℤ pos 999999) = pos_fits _ (omega (arith, c.requires)) in
    let sum_fits : SFits w64 (to_z w64 (of_z w64 x) +ℤ pos 999999) = subst (SFits w64) (sym (sum ∙ ap (λ z. z +ℤ pos 999999) (not_negative x at_least_zero))) fits in
    let up : quot_z (to_z w64 (of_z w64 (to_z w64 (of_z w64 x) +ℤ pos 999999))) (pos 1000000) ≡ ceiling x 1000000 =
    ap (λ z. quot_z z (pos 1000000)) (back _ sum_fits ∙ sum) ∙ ceiling_positive _ at_least_zero in
    back _ (subst (SFits w64) (sym up) (ceiling_fits _ c.requires)) ∙ up
