-- A larger guarantee or swap, or a swap whose condition is now met, hedges no less. 02: L1. Assumes nothing.
use Rattle.std.proofs.Common.{if◌then◌else◌}
use Prim.Native.Nat.{ℕ, ◌≤◌}
use mathlib.Core.Path.{◌≡◌, refl, ap}
use mathlib.Core.Bool.{Bool, true, false}
use mathlib.Core.Logic.{◌⊎◌, inl, inr, ⊎_elim}
use lib.Dec.{eqb}
use native.Mathlib.Nat.{le_trans}
use borrow.Author.Tests.{eq-eqb}
use Rattle.base.proofs.Choice.{never}
use Rattle.valuation.specs.Restructuring.{partially_recognised}
use Rattle.valuation.proofs.PartialRecognition.{partial_le, partial_mono}
use Rattle.deal.specs.Instruments.{swap_without_restructuring}
use Rattle.deal.specs.declared.terms.Terms.{Terms}
use Rattle.deal.specs.declared.guarantee.Guarantee.{Guarantee}
use Rattle.relief.specs.Guarantees.{hedged_amount}
use Rattle.relief_laws.proofs.NoWorse.{SameOrNowMet}

-- both cut, the one alone, or neither: none where the other's is not
cut_alike : (a a' deal : ℕ) → a ≤ a' → (cut cut' : Bool) → (cut' ≡ cut) ⊎ ((cut ≡ true) × (cut' ≡ false)) →
    (if cut then partially_recognised a deal else a) ≤ (if cut' then partially_recognised a' deal else a')
cut_alike a a' deal h true true either = partial_mono a a' deal h
cut_alike a a' deal h true false either = le_trans (partial_le a deal) h
cut_alike a a' deal h false false either = h
cut_alike a a' deal h false true (inl e) = absurd (never refl e)
cut_alike a a' deal h false true (inr e) = absurd (never e.0 refl)

-- under deals of the same amount
pub hedged_no_less : (t t' : Terms) (g g' : Guarantee) → t'.amount ≡ t.amount → g.amount ≤ g'.amount → SameOrNowMet g.instrument g'.instrument →
    hedged_amount t g ≤ hedged_amount t' g'
unfolding hedged_amount
hedged_no_less t t' g g' same h instrument =
    rw same
    (cut_alike g.amount g'.amount t.amount h (eqb g.instrument swap_without_restructuring) (eqb g'.instrument swap_without_restructuring)
    (⊎_elim (λ e. inl (ap (λ i. eqb i swap_without_restructuring) e)) (λ m. inr (eq-eqb _ _ m.0, rw m.1 refl)) instrument))
