-- The exposure after collateral and the weighted amount of a deal. 01: From items to the weighted amount, 3 to 5
use Rattle.std.specs.Prelude.{ℕ, ◌-◌, min, List, map}
use Rattle.base.specs.Sum.{sum_of}
use Rattle.tables.specs.Table.{Table}
use Rattle.scaling.specs.Period.{holding_period}
use Rattle.scaling.specs.Scaling.{scaled}
use Rattle.valuation.specs.Exposure.{volatility_adjusted_exposure, risk_weighted_amount}
use Rattle.cover.specs.Cover.{weighted_sum}
use Rattle.cover.specs.declared.protection.Protection.{Protection}
use Rattle.deal.specs.Views.{View}
use Rattle.deal.specs.declared.terms.Terms.{Terms}
use Rattle.deal.specs.declared.collateral.Collateral.{Collateral}
use Rattle.relief.specs.Outcomes.{outcome_value}
use Rattle.relief.specs.Weights.{counterparty_weight_of}
use Rattle.relief.specs.Collateral.{collateral_outcome}
use Rattle.relief.specs.Guarantees.{protection_of}

-- the lent goods' haircut, over the deal's own period
unfoldable pub scaled_lent_haircut : Table → Terms → ℕ
scaled_lent_haircut table t = scaled (table.lent_haircut t.lent.goods t.lent.step t.lent.life) (holding_period t.kind t.interval)

-- "The exposure is raised by the lent goods' haircut, rounded up". CRE22.40, E · (1 + He)
unfoldable pub adjusted_exposure_of : Table → Terms → ℕ
adjusted_exposure_of table t = volatility_adjusted_exposure t.amount (scaled_lent_haircut table t)

-- "all collateral values"
unfoldable pub collateral_total : Table → Terms → List Collateral → ℕ
collateral_total table t cs = sum_of (λ c. outcome_value (collateral_outcome table t c)) cs

-- "E* is that less all collateral values, not below 0, and never above the deal's amount (22.4 decides over 22.40)" (the library's
-- difference is never below 0)
unfoldable pub exposure_after : Table → View → ℕ
exposure_after table v = min v.terms.amount (adjusted_exposure_of table v.terms - collateral_total table v.terms v.collateral)

-- what there is to cover it: guarantees and swaps in order of adding, with value 0 where they are left out. In which order they cover is said in
-- cover/specs/Cover
abbrev pub pieces_of : Table → View → List Protection
pieces_of table v = map (protection_of table v.terms) v.guarantees

-- "The weighted amount is the sum of portion × weight, divided by 100 once and rounded up"
unfoldable pub risk_weighted_amount_of : Table → View → ℕ
risk_weighted_amount_of table v = risk_weighted_amount (weighted_sum (counterparty_weight_of table v.terms) (exposure_after table v) (pieces_of table v))
