-- Any order of the same items: the same figures, and no order is refused where one is accepted. 02: L7. Assumes nothing.
use mathlib.Core.Path.{◌≡◌, refl, sym, ◌∙◌, ap}
use mathlib.Core.Bool.{true}
use native.Mathlib.Omega.{arith}
use Rattle.base.specs.Reordered.{Reordered}
use Rattle.base.proofs.Reordered.{all_reordered, length_reordered, map_reordered, sum_reordered}
use Rattle.tables.specs.Table.{Table}
use Rattle.valuation.specs.Exposure.{risk_weighted_amount}
use Rattle.cover.specs.Cover.{uncovered}
use Rattle.cover_laws.proofs.AnyOrder.{any_order, rest_any_order}
use Rattle.deal.specs.Editions.{table_for}
use Rattle.deal.specs.Records.{accepted}
use Rattle.deal.specs.Views.{View, accepted_view, view_of}
use Rattle.deal.specs.declared.deal.Deal.{Deal}
use Rattle.deal_laws.proofs.Views.{collateral_fits, fits_view, guarantee_fits, view_fits}
use Rattle.relief.specs.Collateral.{collateral_outcome}
use Rattle.relief.specs.Exposure.{collateral_total, exposure_after, pieces_of, risk_weighted_amount_of}
use Rattle.relief.specs.Guarantees.{protection_of}
use Rattle.relief.specs.Outcomes.{outcome_value}
use Rattle.relief.specs.Report.{full_report, report_of, report_under}
use Rattle.relief.specs.Weights.{counterparty_weight_of}
use Rattle.relief.specs.declared.report.Report.{Report}
use Rattle.relief.proofs.Reports.{exposure_of, report_accepted, rwa_of}
use Rattle.entry_order.specs.SameItems.{SameFigures, SameItems}

-- ---- under any table
module _ (table : Table) (v v' : View) (same : SameItems v v') where
  pub exposure_any_order : exposure_after table v ≡ exposure_after table v'
  unfolding exposure_after collateral_total
  exposure_any_order =
      rw (same.terms, sum_reordered (λ c. outcome_value (collateral_outcome table v'.terms c)) same.collateral) refl

  pieces_any_order : Reordered (pieces_of table v) (pieces_of table v')
  pieces_any_order = rw same.terms (map_reordered (protection_of table v'.terms) same.guarantees)

  pub amount_any_order : risk_weighted_amount_of table v ≡ risk_weighted_amount_of table v'
  unfolding risk_weighted_amount_of
  amount_any_order =
      ap risk_weighted_amount
      (rw (exposure_any_order, ap (counterparty_weight_of table) same.terms)
      (any_order (counterparty_weight_of table v'.terms) (exposure_after table v') pieces_any_order))

  pub uncovered_any_order : uncovered (exposure_after table v) (pieces_of table v) ≡ uncovered (exposure_after table v') (pieces_of table v')
  uncovered_any_order = rw exposure_any_order (rest_any_order 0 (exposure_after table v') pieces_any_order)

  -- ---- whether it is accepted
  pub accepted_any_order : accepted_view v ≡ true → accepted_view v' ≡ true
  accepted_any_order a =
      let f = view_fits v a in
      fits_view v' (record {
        terms = rw (sym same.terms) f.terms;
        collateral_length = omega (arith, f.collateral_length, length_reordered same.collateral);
        collateral = all_reordered collateral_fits same.collateral f.collateral;
        guarantee_length = omega (arith, f.guarantee_length, length_reordered same.guarantees);
        guarantees = all_reordered guarantee_fits same.guarantees f.guarantees;
      })

-- ---- reports of two accepted records with the same terms, by their views
module _ (d d' : Deal) (a : accepted d ≡ true) (a' : accepted d' ≡ true) (terms : d.terms ≡ d'.terms) where
  abbrev table : Table
  table = table_for d.terms

  same_table : table_for d'.terms ≡ table
  same_table = ap table_for (sym terms)

  pub figures_by_views : exposure_after table (view_of d) ≡ exposure_after table (view_of d') → risk_weighted_amount_of table (view_of d) ≡ risk_weighted_amount_of table (view_of d') →
      SameFigures d d'
  figures_by_views e w = record {
    exposure = exposure_of table d a ∙ e ∙ sym (ap (λ t. (report_under t d').exposure) same_table ∙ exposure_of table d' a');
    rwa = rwa_of table d a ∙ w ∙ sym (ap (λ t. (report_under t d').rwa) same_table ∙ rwa_of table d' a');
  }

  rest_of : (e : Deal) → accepted e ≡ true → (report_under table e).uncovered ≡ uncovered (exposure_after table (view_of e)) (pieces_of table (view_of e))
  unfolding full_report
  rest_of e b = ap (λ (r : Report). r.uncovered) (report_accepted table e b)

  rest_by_views : uncovered (exposure_after table (view_of d)) (pieces_of table (view_of d)) ≡ uncovered (exposure_after table (view_of d')) (pieces_of table (view_of d')) →
      (report_of d).uncovered ≡ (report_of d').uncovered
  rest_by_views e = rest_of d a ∙ e ∙ sym (ap (λ t. (report_under t d').uncovered) same_table ∙ rest_of d' a')

-- THE LAW: any order of the same accepted items, of two records however they hold them; and the same uncovered rest
module _ (d d' : Deal) (a : accepted d ≡ true) (a' : accepted d' ≡ true) (same : SameItems (view_of d) (view_of d')) where
  pub same_figures : SameFigures d d'
  same_figures =
      figures_by_views d d' a a' same.terms
      (exposure_any_order (table_for d.terms) (view_of d) (view_of d') same)
      (amount_any_order (table_for d.terms) (view_of d) (view_of d') same)

  pub same_rest : (report_of d).uncovered ≡ (report_of d').uncovered
  same_rest = rest_by_views d d' a a' same.terms (uncovered_any_order (table_for d.terms) (view_of d) (view_of d') same)
