-- Grounds that are not met before stay unmet where nothing got worse. Assumes nothing.
use Prim.Native.Nat.{ℕ, ◌≤◌}
use mathlib.Core.Path.{◌≡◌, refl}
use mathlib.Core.Bool.{Bool, true, false}
use mathlib.Core.Logic.{⊎_elim}
use native.Mathlib.Omega.{arith}
use lib.Dec.{leb, ltb, eqb}
use borrow.Author.Tests.{eqb-true, eq-eqb, lt-ltb, ltb-true, le-leb, leb-true}
use Rattle.base.proofs.Choice.{never}
use Rattle.base.proofs.Every.{both}
use Rattle.base.proofs.Tests.{and_true}
use Rattle.tables.specs.Classes.{other_entity}
use Rattle.deal.specs.declared.terms.Terms.{Terms}
use Rattle.deal.specs.declared.guarantee.Guarantee.{Guarantee}
use Rattle.relief.specs.Maturity.{short_original, short_residual}
use Rattle.relief.specs.Guarantees.{is_unrated_entity}
use Rattle.relief_laws.proofs.NoWorse.{SameOrBetter}

-- a test that is met after only if it was met before
pub stays_unmet : (before after : Bool) → (after ≡ true → before ≡ true) → before ≡ false → after ≡ false
stays_unmet before true h e = absurd (never (h refl) e)
stays_unmet before false h e = refl

-- a condition that was met
pub condition_stays : {x x' : ℕ} → x ≤ x' → eqb x 0 ≡ false → eqb x' 0 ≡ false
condition_stays {x} {x'} h = stays_unmet (eqb x 0) (eqb x' 0) (λ e. eq-eqb x 0 (omega (arith, eqb-true x' 0 e)))

-- no maturity mismatch of a short original or residual term
module _ (t t' : Terms) {r r' : ℕ} (same : t'.residual ≡ t.residual) (hr : r ≤ r') where
  pub original_stays : {o o' : ℕ} → o ≤ o' → short_original t r o ≡ false → short_original t' r' o' ≡ false
  unfolding short_original
  original_stays {o} {o'} ho =
      stays_unmet (short_original t r o) (short_original t' r' o') (λ e.
      let b = both (ltb r' t'.residual) (ltb o' 360) e in
      and_true _ _ (lt-ltb r t.residual (omega (arith, ltb-true r' t'.residual b.0))) (lt-ltb o 360 (omega (arith, ltb-true o' 360 b.1))))

  pub residual_stays : short_residual t r ≡ false → short_residual t' r' ≡ false
  unfolding short_residual
  residual_stays =
      stays_unmet (short_residual t r) (short_residual t' r') (λ e.
      let b = both (ltb r' t'.residual) (leb r' 90) e in
      and_true _ _ (lt-ltb r t.residual (omega (arith, ltb-true r' t'.residual b.0))) (le-leb r 90 (omega (arith, leb-true r' 90 b.1))))

-- a provider that is not an unrated other entity
pub rated_stays : (g g' : Guarantee) → g'.provider.class ≡ g.provider.class → SameOrBetter g.provider.step g'.provider.step →
    is_unrated_entity g ≡ false → is_unrated_entity g' ≡ false
rated_stays g g' same step =
    stays_unmet (is_unrated_entity g) (is_unrated_entity g') (λ e.
    let b = both (eqb g'.provider.class other_entity) (eqb g'.provider.step 0) e in
    let class = eqb-true g'.provider.class other_entity b.0 in
    let zero = eqb-true g'.provider.step 0 b.1 in
    and_true _ _ (eq-eqb g.provider.class other_entity (omega arith))
    (⊎_elim (λ s. eq-eqb g.provider.step 0 (omega arith)) (λ better. absurd (omega (arith, better.0))) step))

-- a provider's weight below the counterparty's
pub weight_stays : {W W' w w' : ℕ} → W' ≡ W → w' ≤ w → leb W w ≡ false → leb W' w' ≡ false
weight_stays {W} {W'} {w} {w'} e h = stays_unmet (leb W w) (leb W' w') (λ m. le-leb W w (omega (arith, leb-true W' w' m)))
