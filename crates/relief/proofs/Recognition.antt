-- Every ground leaves an item out, and has its number, for every table. Assumes nothing.
use Prim.Native.Nat.{ℕ}
use mathlib.Core.Path.{◌≡◌, refl, sym, ap, ◌∙◌}
use lib.Dec.{eqb}
use borrow.Author.Tests.{eqb-true}
use Rattle.base.proofs.Choice.{either}
use Rattle.tables.specs.Table.{Table}
use Rattle.valuation.specs.declared.protection.Valuation.{Valuation}
use Rattle.deal.specs.declared.terms.Terms.{Terms}
use Rattle.deal.specs.declared.collateral.Collateral.{Collateral}
use Rattle.deal.specs.declared.guarantee.Guarantee.{Guarantee}
use Rattle.relief.specs.Grounds.{ground_number, ground_with}
use Rattle.relief.specs.ByNumber.{Place, place_of, place_with}
use Rattle.relief.specs.Outcomes.{outcome_valuation, outcome_ground, outcome_for}
use Rattle.relief.specs.Collateral.{collateral_valuation, collateral_grounds, collateral_ground, collateral_outcome}
use Rattle.relief.specs.Guarantees.{guarantee_valuation, guarantee_grounds, guarantee_ground, guarantee_outcome}
use Rattle.relief.proofs.Outcomes.{LeaveOut, place_given}

-- what holds of one test, and of the later ones
infixr 4 ◌also◌
abbrev pub ◌also◌ : {A B : Type 0} → A → B → A × B
a also b = (a, b)

-- a place has the ground it is given
place_ground : (ground' amount : ℕ) (v : Valuation) → (place_with ground' amount v).ground' ≡ ground'
unfolding place_with
place_ground ground' amount v = either (λ (p : Place). p.ground' ≡ ground') (eqb ground' 0) (λ e. sym (eqb-true ground' 0 e)) (λ e. refl)

module _ (table : Table) (t : Terms) where
  pub collateral_leaves : (a : ℕ) (v : Valuation) (c : Collateral) → LeaveOut a v (collateral_grounds table t c)
  unfolding collateral_grounds outcome_for outcome_valuation ground_number ground_with
  collateral_leaves a v c = record {
    worthless = refl also refl also refl also refl also refl also refl also tt;
    known = refl also refl also refl also refl also refl also refl also tt;
  }

  pub guarantee_leaves : (a : ℕ) (v : Valuation) (g : Guarantee) → LeaveOut a v (guarantee_grounds table t g)
  unfolding guarantee_grounds outcome_for outcome_valuation ground_number ground_with
  guarantee_leaves a v g = record {
    worthless = refl also refl also refl also refl also refl also refl also refl also tt;
    known = refl also refl also refl also refl also refl also refl also refl also tt;
  }

  -- an outcome by the paper's numbers
  pub collateral_place : (c : Collateral) → place_of (collateral_outcome table t c) ≡ place_with (collateral_ground table t c) c.amount (collateral_valuation table t c)
  unfolding collateral_outcome collateral_ground
  collateral_place c = place_given c.amount (collateral_valuation table t c) (collateral_grounds table t c) (collateral_leaves _ _ c)

  pub guarantee_place : (g : Guarantee) → place_of (guarantee_outcome table t g) ≡ place_with (guarantee_ground table t g) g.amount (guarantee_valuation t g)
  unfolding guarantee_outcome guarantee_ground
  guarantee_place g = place_given g.amount (guarantee_valuation t g) (guarantee_grounds table t g) (guarantee_leaves _ _ g)

  -- and its ground
  pub collateral_number : (c : Collateral) → outcome_ground (collateral_outcome table t c) ≡ collateral_ground table t c
  collateral_number c = ap (λ p. p.ground') (collateral_place c) ∙ place_ground _ _ _

  pub guarantee_number : (g : Guarantee) → outcome_ground (guarantee_outcome table t g) ≡ guarantee_ground table t g
  guarantee_number g = ap (λ p. p.ground') (guarantee_place g) ∙ place_ground _ _ _
