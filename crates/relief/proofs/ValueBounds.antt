-- Bounds, for sums and products to fit. Assumes nothing.
use Prim.Native.Nat.{◌*◌, ◌≤◌}
use mathlib.Core.Path.{◌≡◌}
use mathlib.Core.Bool.{true}
use mathlib.Core.List.{List, map}
use native.Mathlib.Nat.{le_trans, mul-le-mul_right}
use native.Mathlib.Omega.{arith}
use lib.Dec.{eqb}
use borrow.Author.Tests.{eqb-true, le-leb}
use Rattle.base.specs.All.{all_pass}
use Rattle.base.proofs.All.{all_map, all_implied}
use Rattle.base.proofs.Tests.{and_true}
use Rattle.tables.specs.Table.{Table}
use Rattle.tables.proofs.EditionBounds.{counterparty_low as counterparty_light, lent_low, provider_low as provider_light}
use Rattle.scaling.proofs.Scaled.{scaled_bound}
use Rattle.scaling.proofs.Periods.{period_bound}
use Rattle.valuation.specs.Valuation.{valuation_of}
use Rattle.valuation.proofs.Values.{recognised_le}
use Rattle.cover.specs.Cover.{weighted_sum}
use Rattle.cover.specs.Limits.{within_limits}
use Rattle.cover.proofs.Bounds.{weighted_low}
use Rattle.cover.proofs.Limits.{each_small}
use Rattle.deal.specs.Editions.{table_for}
use Rattle.deal.specs.Guarantees.{guarantee_refusal}
use Rattle.deal.specs.Views.{View}
use Rattle.deal.proofs.Plain.{PlainTerms, PlainGuarantee, plain_guarantee}
use Rattle.deal.specs.declared.terms.Terms.{Terms}
use Rattle.deal.specs.declared.collateral.Collateral.{Collateral}
use Rattle.deal.specs.declared.guarantee.Guarantee.{Guarantee}
use Rattle.relief.specs.Outcomes.{outcome_value}
use Rattle.relief.specs.Weights.{counterparty_weight_of, provider_weight_of}
use Rattle.relief.specs.Collateral.{collateral_valuation, collateral_grounds, collateral_ground, collateral_outcome}
use Rattle.relief.specs.Guarantees.{hedged_amount, guarantee_valuation, guarantee_grounds, guarantee_ground, guarantee_outcome, protection_of}
use Rattle.relief.specs.Exposure.{exposure_after, scaled_lent_haircut, pieces_of}
use Rattle.relief.proofs.Hedged.{hedged_le}
use Rattle.relief.proofs.Outcomes.{value_bound}
use Rattle.relief.proofs.Recognition.{collateral_leaves, guarantee_leaves}

-- "never above the deal's amount"
pub exposure_bound : (table : Table) (v : View) → exposure_after table v ≤ v.terms.amount
unfolding exposure_after
exposure_bound table v = omega arith

-- no item is worth more than its amount, whatever the table
module _ (table : Table) (t : Terms) where
  pub collateral_le : (c : Collateral) → outcome_value (collateral_outcome table t c) ≤ c.amount
  unfolding collateral_outcome collateral_ground collateral_valuation valuation_of
  collateral_le c = value_bound c.amount _ (collateral_grounds table t c) c.amount (collateral_leaves table t _ _ c) (recognised_le c.amount _ _ _)

  pub guarantee_le : (g : Guarantee) → outcome_value (guarantee_outcome table t g) ≤ g.amount
  unfolding guarantee_outcome guarantee_ground guarantee_valuation valuation_of
  guarantee_le g =
      value_bound g.amount _ (guarantee_grounds table t g) g.amount (guarantee_leaves table t _ _ g) (le_trans (recognised_le (hedged_amount t g) _ _ _) (hedged_le t g))

-- the goods lent
pub scaled_lent_haircut_bound : (t : Terms) → PlainTerms t → scaled_lent_haircut (table_for t) t ≤ 10000000
unfolding scaled_lent_haircut table_for
scaled_lent_haircut_bound t p =
    let h : (table_for t).lent_haircut t.lent.goods t.lent.step t.lent.life ≤ 1000000 = omega (arith, lent_low t.edition t.lent.goods t.lent.step t.lent.life) in
    scaled_bound h (omega (arith, period_bound t.kind t.interval, p.interval))

-- the parties' weights, to 150
pub counterparty_low : (t : Terms) → PlainTerms t → counterparty_weight_of (table_for t) t ≤ 1000
unfolding table_for
counterparty_low t p = omega (arith, counterparty_light t.edition t.counterparty.class t.counterparty.step t.counterparty.sovereign_step p.class.1 p.step p.sovereign_step)

provider_low : (t : Terms) (g : Guarantee) → PlainGuarantee g → provider_weight_of (table_for t) g ≤ 1000
unfolding table_for
provider_low t g p = omega (arith, provider_light t.edition g.provider.class g.provider.step g.provider.sovereign_step p.class.1 p.step p.sovereign_step)

-- what covers: values to the limit of an amount, and these weights
pub pieces_small : (t : Terms) (gs : List Guarantee) → all_pass gs (λ g. eqb (guarantee_refusal g) 0) ≡ true → all_pass (map (protection_of (table_for t) t) gs) within_limits ≡ true
unfolding within_limits
pieces_small t gs e =
    rw (all_map (protection_of (table_for t) t) within_limits gs) (all_implied (λ g. eqb (guarantee_refusal g) 0) (λ g. within_limits (protection_of (table_for t) t g)) one gs e)
  where
    one : (g : Guarantee) → eqb (guarantee_refusal g) 0 ≡ true → within_limits (protection_of (table_for t) t g) ≡ true
    one g q =
        let p = plain_guarantee g (eqb-true _ 0 q) in
        and_true _ _ (le-leb _ _ (le_trans (guarantee_le (table_for t) t g) p.amount)) (le-leb _ _ (provider_low t g p))

-- so the weighted sum of a deal fits
pub sum_low : (v : View) → PlainTerms v.terms → all_pass v.guarantees (λ g. eqb (guarantee_refusal g) 0) ≡ true →
    let table = table_for v.terms in
    weighted_sum (counterparty_weight_of table v.terms) (exposure_after table v) (pieces_of table v) ≤ 1000000000000 * 1000
sum_low v p e =
    let table = table_for v.terms in
    le_trans (weighted_low 1000 (exposure_after table v) (pieces_of table v) (each_small (pieces_of table v) (pieces_small v.terms v.guarantees e)) _ (counterparty_low v.terms p))
    (mul-le-mul_right 1000 (le_trans (exposure_bound table v) p.amount))
