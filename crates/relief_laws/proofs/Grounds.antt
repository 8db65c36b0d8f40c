-- Each ground exactly where it is due, for every table. Assumes nothing.
use mathlib.Core.Path.{◌≡◌, refl, sym, subst}
use mathlib.Core.Bool.{true, false, not}
use lib.Dec.{eqb}
use Rattle.base.proofs.FirstMet.{exact}
use Rattle.base.specs.FirstMet.{ExactFor}
use Rattle.tables.specs.Table.{Table}
use Rattle.deal.specs.declared.terms.Terms.{Terms}
use Rattle.deal.specs.declared.collateral.Collateral.{Collateral}
use Rattle.deal.specs.declared.guarantee.Guarantee.{Guarantee}
use Rattle.relief.specs.Outcomes.{outcome_ground}
use Rattle.relief.specs.Collateral.{collateral_ground, collateral_grounds, collateral_outcome}
use Rattle.relief.specs.Guarantees.{guarantee_ground, guarantee_grounds, guarantee_outcome}
use Rattle.relief.proofs.Recognition.{collateral_number, guarantee_number}

module _ (table : Table) (t : Terms) where
  -- EACH GROUND OF COLLATERAL EXACTLY WHERE IT IS DUE
  pub collateral_ground_lem : (c : Collateral) → ExactFor (outcome_ground (collateral_outcome table t c)) (collateral_grounds table t c)
  unfolding collateral_ground collateral_grounds
  collateral_ground_lem c = subst (λ n. ExactFor n (collateral_grounds table t c)) (sym (collateral_number table t c)) (exact (collateral_grounds table t c) refl)

  -- AND OF GUARANTEES
  pub guarantee_ground_lem : (g : Guarantee) → ExactFor (outcome_ground (guarantee_outcome table t g)) (guarantee_grounds table t g)
  unfolding guarantee_ground guarantee_grounds
  guarantee_ground_lem g = subst (λ n. ExactFor n (guarantee_grounds table t g)) (sym (guarantee_number table t g)) (exact (guarantee_grounds table t g) refl)

  -- as it reads for one number: 24 exactly if the goods are not eligible and neither 21, 22 nor 23 applies
  abbrev TwentyFour : Collateral → Type 0
  TwentyFour c =
      (eqb c.lawful 0 ≡ false)
      × ((eqb c.unrelated 0 ≡ false)
      × ((eqb c.not_in_rating 0 ≡ false)
      × (not (table.eligible c.asset.goods c.asset.step c.listed) ≡ true)))

  pub collateral_24 : (c : Collateral) →
      (outcome_ground (collateral_outcome table t c) ≡ 24 → TwentyFour c) × (TwentyFour c → outcome_ground (collateral_outcome table t c) ≡ 24)
  unfolding collateral_grounds
  collateral_24 c = (collateral_ground_lem c).0 24 refl
