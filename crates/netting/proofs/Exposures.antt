-- The exposure by its parts, and its range. Assumes nothing.
use Prim.Native.Nat.{ℕ, ◌+◌, ◌*◌, ◌-◌, ◌≤◌, min}
use mathlib.Core.Path.{◌≡◌, refl, sym, ap, ap₂, ◌∙◌}
use mathlib.Core.Bool.{true, false}
use mathlib.Core.List.{List}
use native.Mathlib.Nat.{not-suc-le-zero}
use native.Mathlib.Omega.{arith}
use lib.IntN.{ℤ, pos, negsuc, nat_abs, ◌+ℤ◌, ◌*ℤ◌}
use lib.Signed.{lt_z}
use borrow.Author.Tests.{ltb-true}
use Rattle.base.specs.Rounding.{round_up}
use Rattle.base.specs.Sum.{sum_of}
use Rattle.base.proofs.Choice.{never}
use Rattle.base.proofs.Sum.{sum_add, sum_eq}
use Rattle.signed.specs.Signed.{◌less◌, at_least_zero}
use Rattle.netting.specs.Groups.{member}
use Rattle.netting.specs.Nets.{lent, received, only, net}
use Rattle.netting.specs.Exposure.{security_add_on, currency_add_on, exposure, exposure_of, net_exposure}
use Rattle.netting.specs.Haircuts.{currency_haircut_over, security_haircut}
use Rattle.netting.specs.Limits.{Fitting}
use Rattle.netting.specs.Positions.{amount_of}
use Rattle.netting.specs.declared.terms.SetTerms.{SetTerms}
use Rattle.netting.specs.declared.group.Group.{Group}
use Rattle.netting.specs.declared.position.Position.{Position}
use Rattle.signed.proofs.Less.{less_abs, less_same, less_zero}
use Rattle.signed.proofs.Machine.{added, times}
use Rattle.signed.proofs.Ceiling.{ceiling_less}
use Rattle.netting.proofs.Sides.{sides, only_in}
use Rattle.netting.proofs.HaircutBounds.{currency_low}
use Rattle.netting.proofs.Figures.{security_small, currency_small}

-- all positions: lent less received
pub whole_net : (ps : List Position) → net (member Group.All) ps ≡ sum_of lent ps less sum_of received ps
unfolding net
whole_net ps =
    ap₂ ◌less◌ (sum_eq (only (member Group.All) lent) lent (λ p. only_in (member Group.All) lent p refl) ps)
    (sum_eq (only (member Group.All) received) received (λ p. only_in (member Group.All) received p refl) ps)

-- so the exposure is that net in millionths, and the add-ons
pub exposure_signed : (cut : Position → ℕ) (settlement fx : ℕ) (ps : List Position) →
    exposure cut settlement fx ps ≡ net (member Group.All) ps *ℤ pos 1000000 +ℤ pos (security_add_on cut ps + currency_add_on settlement fx ps)
unfolding exposure
exposure_signed cut settlement fx ps =
    sym (added _ _ _ _ _ _ (times _ _ _ 1000000 (whole_net ps)) (sym (less_zero (security_add_on cut ps + currency_add_on settlement fx ps))) ∙ less_same _ _ _ _ (omega arith))

pub both_sides : (ps : List Position) → sum_of lent ps + sum_of received ps ≡ sum_of amount_of ps
both_sides ps = omega (arith, sum_add lent received ps, sum_eq (λ p. lent p + received p) amount_of sides ps)

-- E* in natural numbers
pub net_exposure_is : (cut : Position → ℕ) (settlement fx : ℕ) (ps : List Position) →
    net_exposure cut settlement fx ps
    ≡ min (sum_of lent ps) (round_up (sum_of lent ps * 1000000 + security_add_on cut ps + currency_add_on settlement fx ps - sum_of received ps * 1000000) 1000000)
unfolding net_exposure exposure
net_exposure_is cut settlement fx ps =
    ap (λ x. min (sum_of lent ps) x) (ceiling_less (sum_of lent ps * 1000000 + security_add_on cut ps + currency_add_on settlement fx ps) (sum_of received ps * 1000000))

module _ {t : SetTerms} {ps : List Position} (f : Fitting t ps) where
  pub exposure_small : nat_abs (exposure_of t ps) ≤ 4000000000000000000
  unfolding exposure_of exposure
  exposure_small =
      omega (
        arith,
        less_abs (sum_of lent ps * 1000000 + security_add_on (security_haircut t) ps + currency_add_on t.settlement (currency_haircut_over t) ps) (sum_of received ps * 1000000),
        security_small f,
        currency_small f (currency_haircut_over t) (currency_low t f.few_days),
        both_sides ps,
        f.amounts,
      )

-- not below 0
pub below_zero : (z : ℤ) → lt_z z (pos 0) ≡ true → at_least_zero z ≡ 0
unfolding at_least_zero
below_zero (pos n) t = absurd (not-suc-le-zero (ltb-true n 0 t))
below_zero (negsuc n) t = refl

pub above_zero : (z : ℤ) → lt_z z (pos 0) ≡ false → nat_abs z ≡ at_least_zero z
unfolding at_least_zero
above_zero (pos n) t = refl
above_zero (negsuc n) t = absurd (never refl t)
