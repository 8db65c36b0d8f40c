-- `relief::report::full_report`: each part is the definition's. Assumes nothing.
use Rattle.std.proofs.Common.{ℕ, List, ◌≡◌, ◌-◌, ◌∙◌, ap, refl, arith, min, length, take, true, Ok}
use lib.ListN.{length-map}
use Rattle.base.specs.Places.{in_places}
use Rattle.base.proofs.Places.{taken}
use Rattle.tables.specs.Table.{Table}
use Rattle.valuation.specs.Exposure.{risk_weighted_amount}
use Rattle.cover.specs.declared.protection.Protection.{Protection}
use Rattle.deal.specs.Editions.{table_for}
use Rattle.deal.specs.Views.{View, accepted_view, view_on}
use Rattle.deal.proofs.Views.{view_fits}
use Rattle.deal.proofs.Plain.{PlainTerms, plain_terms}
use Rattle.relief.specs.Guarantees.{protection_of}
use Rattle.relief.specs.Exposure.{adjusted_exposure_of, collateral_total, exposure_after, pieces_of, risk_weighted_amount_of}
use Rattle.relief.specs.Report.{full_report}
use Rattle.relief.specs.Portions.{no_protection}
use Rattle.relief.proofs.Assembly.{guarantees_assembled, same_report, same_cover}
use Rattle.relief.proofs.ValueBounds.{counterparty_low, exposure_bound, pieces_small, sum_low}
use Rattle.relief.proofs.report.full_report.Goals as goal

module _ (v : View) where
  abbrev table : Table
  table = table_for v.terms

  -- exposure and pieces are the definition's
  exposure-is : {E total : ℕ} → E ≡ min v.terms.amount (adjusted_exposure_of table v.terms - total) → total ≡ collateral_total table v.terms v.collateral → E ≡ exposure_after table v
  unfolding exposure_after
  exposure-is e t = e ∙ ap (λ x. min v.terms.amount (adjusted_exposure_of table v.terms - x)) t

  pieces_are : {ps : List Protection} → ps ≡ in_places 16 no_protection (pieces_of table v) → take (length v.guarantees) ps ≡ pieces_of table v
  pieces_are p = ap (take (length v.guarantees)) p ∙ taken 16 (length v.guarantees) no_protection (pieces_of table v) (length-map v.guarantees (protection_of table v.terms))

  plain : accepted_view v ≡ true → PlainTerms v.terms
  plain e = plain_terms v.terms (view_fits v e).terms

pub value_collateral-pledged-requires : goal.value_collateral-pledged-requires
value_collateral-pledged-requires c = let f = view_fits _ c.requires in (f.collateral_length, f.collateral)

pub value_guarantees-guaranteed-requires-clause-items_value : goal.value_guarantees-guaranteed-requires-clause-items_value
value_guarantees-guaranteed-requires-clause-items_value c = let f = view_fits _ c.requires in (f.guarantee_length, f.guarantees)

pub cover-covered-requires-clause-exposure_bound : goal.cover-covered-requires-clause-exposure_bound
cover-covered-requires-clause-exposure_bound c =
    let v = view_on c.args.deal.now.timed.terms c.args.collateral.now c.args.guarantees.now in
    omega (arith, exposure-is v c.exposure_after-exposure.ensures c.value_collateral-pledged.ensures.1, exposure_bound (table_for v.terms) v, (plain v c.requires).amount)

pub cover-covered-requires-clause-weight_bound : goal.cover-covered-requires-clause-weight_bound
cover-covered-requires-clause-weight_bound c = omega (arith, c.weight-weight.ensures, counterparty_low c.args.deal.now.timed.terms (plain _ c.requires))

pub cover-covered-requires-clause-within_limits_value : goal.cover-covered-requires-clause-within_limits_value
cover-covered-requires-clause-within_limits_value c =
    let v = view_on c.args.deal.now.timed.terms c.args.collateral.now c.args.guarantees.now in
    rw (pieces_are v c.value_guarantees-guaranteed.ensures.protections_value) (pieces_small v.terms v.guarantees (view_fits v c.requires).guarantees)

pub risk_weighted_amount-requires : goal.risk_weighted_amount-requires
risk_weighted_amount-requires c =
    let v = view_on c.args.deal.now.timed.terms c.args.collateral.now c.args.guarantees.now in
    let exposure = exposure-is v c.exposure_after-exposure.ensures c.value_collateral-pledged.ensures.1 in
    let cover = c.cover-covered.ensures ∙ same_cover c.weight-weight.ensures exposure (pieces_are v c.value_guarantees-guaranteed.ensures.protections_value) in
    omega (arith, ap (λ x. x.weighted_sum) cover, sum_low v (plain v c.requires) (view_fits v c.requires).guarantees)

pub returns : goal.returns
unfolding full_report risk_weighted_amount_of
returns c =
    let v = view_on c.args.deal.now.timed.terms c.args.collateral.now c.args.guarantees.now in
    let exposure = exposure-is v c.exposure_after-exposure.ensures c.value_collateral-pledged.ensures.1 in
    let cover = c.cover-covered.ensures ∙ same_cover c.weight-weight.ensures exposure (pieces_are v c.value_guarantees-guaranteed.ensures.protections_value) in
    same_report (Ok tt)
    exposure
    c.value_collateral-pledged.ensures.0
    (c.with_portions-reports.ensures ∙ guarantees_assembled (table_for v.terms) v (length v.guarantees) refl _ _ c.value_guarantees-guaranteed.ensures.reports_value (ap (λ x. x.portions) cover))
    (ap (λ x. x.uncovered) cover)
    (c.risk_weighted_amount.ensures ∙ ap (λ x. risk_weighted_amount x.weighted_sum) cover)
