-- Reporting before a report said where an item's value went (02: L2, "Weighted amounts do not change"), and after all requests before that one: an item
-- had its value or its ground alone. This says what relief/specs said. What it is made of is today's definition, whose text has not moved: which records
-- are accepted, the tables, grounds, haircuts, what of a swap is hedged, the value after haircut and maturity (`recognised`), the raised exposure,
-- weights, cover and its rounding
use Rattle.std.specs.Prelude.{ℕ, ◌-◌, min, eqb, if◌then◌else◌}
use mathlib.Core.List.{List, [], map, zip_with}
use Rattle.base.specs.Places.{in_places}
use Rattle.base.specs.Sum.{sum_of}
use Rattle.tables.specs.Table.{Table}
use Rattle.scaling.specs.Period.{guarantee_period}
use Rattle.valuation.specs.Exposure.{risk_weighted_amount}
use Rattle.valuation.specs.Haircuts.{scaled_currency_haircut}
use Rattle.valuation.specs.Protection.{recognised}
use Rattle.cover.specs.Cover.{portions, uncovered, weighted_sum}
use Rattle.cover.specs.declared.protection.Protection.{Protection}
use Rattle.deal.specs.Editions.{table_for}
use Rattle.deal.specs.Lists.{list_limit}
use Rattle.deal.specs.Records.{accepted}
use Rattle.deal.specs.Views.{View, view_of}
use Rattle.std.specs.Prelude.{Result, ⊤, Ok, Err}
use Rattle.deal.specs.declared.refusal.Refusal.{Refusal}
use Rattle.deal.specs.declared.refusal.Refusal.TheVariants.{RecordNotAccepted}
use Rattle.deal.specs.declared.terms.Terms.{Terms}
use Rattle.deal.specs.declared.collateral.Collateral.{Collateral}
use Rattle.deal.specs.declared.guarantee.Guarantee.{Guarantee}
use Rattle.deal.specs.declared.deal.Deal.{Deal}
use Rattle.relief.specs.Collateral.{collateral_ground, combined_haircut_of}
use Rattle.relief.specs.Exposure.{adjusted_exposure_of}
use Rattle.relief.specs.Grounds.{ground_with}
use Rattle.relief.specs.Guarantees.{guarantee_ground, hedged_amount}
use Rattle.relief.specs.Weights.{counterparty_weight_of, provider_weight_of}
use Rattle.relief.specs.declared.ground.Ground.{Ground}
use Rattle.relief.specs.declared.outcome.Outcome.{Outcome}
use Rattle.relief.specs.declared.outcome.Outcome.TheVariants.{Valued, LeftOut}
use Rattle.relief.specs.declared.report.Report.{Report}

-- "either its value or its ground"
pub data OutcomeBefore : Type 0 where
  valued : ℕ → OutcomeBefore
  left_out : Ground → OutcomeBefore

unfoldable pub value_before : OutcomeBefore → ℕ
value_before (valued value) = value
value_before (left_out ground') = 0

unfoldable pub outcome_for_before : ℕ → ℕ → OutcomeBefore
outcome_for_before ground' value = if eqb ground' 0 then valued value else left_out (ground_with ground')

-- Items

unfoldable pub collateral_outcome_before : Table → Terms → Collateral → OutcomeBefore
collateral_outcome_before table t c =
    outcome_for_before (collateral_ground table t c) (recognised c.amount (combined_haircut_of table t c) c.residual t.residual)

unfoldable pub guarantee_outcome_before : Table → Terms → Guarantee → OutcomeBefore
guarantee_outcome_before table t g =
    outcome_for_before (guarantee_ground table t g)
    (recognised (hedged_amount t g) (scaled_currency_haircut g.currency t.currency (guarantee_period t.interval)) g.residual t.residual)

-- Amounts. 01: From items to the weighted amount, 3 to 5

-- "less all collateral values, not below 0, and never above the deal's amount"
unfoldable pub exposure_before : Table → View → ℕ
exposure_before table v =
    min v.terms.amount (adjusted_exposure_of table v.terms - sum_of (λ c. value_before (collateral_outcome_before table v.terms c)) v.collateral)

-- what covers it
abbrev pub pieces_before : Table → View → List Protection
pieces_before table v =
    map (λ g. record { value = value_before (guarantee_outcome_before table v.terms g); weight = provider_weight_of table g }) v.guarantees

-- "the sum of portion × weight, divided by 100 once and rounded up"
unfoldable pub rwa_before : Table → View → ℕ
rwa_before table v = risk_weighted_amount (weighted_sum (counterparty_weight_of table v.terms) (exposure_before table v) (pieces_before table v))

-- Reports. 01: Reporting a deal

pub record GuaranteeReportBefore : Type 0 where
  pub outcome : OutcomeBefore
  pub portion : ℕ

pub record ReportBefore : Type 0 where
  pub answer : Result ⊤ Refusal
  pub exposure : ℕ
  pub collateral : List OutcomeBefore
  pub guarantees : List GuaranteeReportBefore
  pub uncovered : ℕ
  pub rwa : ℕ

-- "Places past a count hold value 0 and portion 0"
abbrev pub no_guarantee_before : GuaranteeReportBefore
no_guarantee_before = record { outcome = valued 0; portion = 0 }

unfoldable pub full_report_before : Table → View → ReportBefore
full_report_before table v = record {
  answer = Ok tt;
  exposure = exposure_before table v;
  collateral = in_places list_limit (valued 0) (map (collateral_outcome_before table v.terms) v.collateral);
  guarantees =
      in_places list_limit no_guarantee_before
      (zip_with (λ g p. record { outcome = guarantee_outcome_before table v.terms g; portion = p }) v.guarantees (portions (exposure_before table v) (pieces_before table v)));
  uncovered = uncovered (exposure_before table v) (pieces_before table v);
  rwa = rwa_before table v;
}

-- "all zeros beside the 40"
abbrev pub refused_report_before : ReportBefore
refused_report_before = record {
  answer = Err RecordNotAccepted;
  exposure = 0;
  collateral = in_places list_limit (valued 0) [];
  guarantees = in_places list_limit no_guarantee_before [];
  uncovered = 0;
  rwa = 0;
}

unfoldable pub report_before : Deal → ReportBefore
report_before d = if accepted d then full_report_before (table_for d.terms) (view_of d) else refused_report_before

-- TODAY'S REPORT WITHOUT WHAT IS NEW IN IT: no losses, and no amount left out

unfoldable pub as_before : Outcome → OutcomeBefore
as_before (Valued valuation) = valued valuation.value
as_before (LeftOut ground' amount) = left_out ground'

abbrev pub report_as_before : Report → ReportBefore
report_as_before r = record {
  answer = r.answer;
  exposure = r.exposure;
  collateral = map (λ c. as_before c.outcome) r.collateral;
  guarantees = map (λ g. record { outcome = as_before g.outcome; portion = g.portion }) r.guarantees;
  uncovered = r.uncovered;
  rwa = r.rwa;
}
