-- Each item's outcome in reports of the same items in any order: the places of the one report are those of the other, in some order. 02: L7. Assumes
-- nothing.
use Prim.Native.Nat.{ℕ}
use mathlib.Core.Path.{◌≡◌, refl, sym, ap, ◌∙◌}
use mathlib.Core.Bool.{true}
use mathlib.Core.List.{List, map}
use Rattle.base.specs.Places.{in_places}
use Rattle.base.specs.Reordered.{Reordered}
use Rattle.base.proofs.Placed.{map_zip}
use Rattle.base.proofs.Places.{map_places}
use Rattle.base.proofs.Reordered.{kept_behind, length_reordered, map_reordered}
use Rattle.tables.specs.Table.{Table}
use Rattle.valuation.specs.Valuation.{no_valuation}
use Rattle.deal.specs.Editions.{table_for}
use Rattle.deal.specs.Lists.{list_limit}
use Rattle.deal.specs.Records.{accepted}
use Rattle.deal.specs.Views.{view_of}
use Rattle.deal.specs.declared.deal.Deal.{Deal}
use Rattle.relief.specs.Guarantees.{guarantee_outcome}
use Rattle.relief.specs.Report.{collateral_report, collateral_reports, full_report, guarantee_reports, no_collateral, no_guarantee, report_of, report_under}
use Rattle.relief.specs.declared.outcome.Outcome.TheVariants.{Valued}
use Rattle.relief.proofs.Reports.{portion_each, report_accepted, shares}
use Rattle.entry_order.specs.SameItems.{SameItems}

places_reordered : {A : Type 0} (places : ℕ) (none : A) {xs ys : List A} → Reordered xs ys → Reordered (in_places places none xs) (in_places places none ys)
places_reordered places none r = rw (length_reordered r) (kept_behind _ r)

module _ (table : Table) (d : Deal) (a : accepted d ≡ true) where
  collateral_places_lem : (report_under table d).collateral ≡ in_places list_limit no_collateral (collateral_reports table (view_of d))
  unfolding full_report
  collateral_places_lem = ap (λ r. r.collateral) (report_accepted table d a)

  guarantee_outcomes : map (λ r. r.outcome) (report_under table d).guarantees ≡ in_places list_limit (Valued no_valuation) (map (guarantee_outcome table d.terms) (view_of d).guarantees)
  unfolding full_report
  guarantee_outcomes =
      ap (λ r. map (λ g. g.outcome) r.guarantees) (report_accepted table d a)
      ∙ map_places (λ g. g.outcome) list_limit no_guarantee (guarantee_reports table (view_of d))
      ∙ ap (in_places list_limit (Valued no_valuation)) (map_zip _ _ _ (λ g n. refl) (view_of d).guarantees (shares table (view_of d)) (portion_each table (view_of d)))

module _ (d d' : Deal) (a : accepted d ≡ true) (a' : accepted d' ≡ true) (same : SameItems (view_of d) (view_of d')) where
  abbrev table : Table
  table = table_for d.terms

  same_table : table_for d'.terms ≡ table
  same_table = ap table_for (sym same.terms)

  pub same_collateral_outcomes : Reordered (report_of d).collateral (report_of d').collateral
  same_collateral_outcomes =
      rw (same_table, collateral_places_lem table d a, collateral_places_lem table d' a', same.terms)
      (places_reordered list_limit no_collateral (map_reordered (collateral_report (table_for d'.terms) d'.terms) same.collateral))

  pub same_guarantee_outcomes : Reordered (map (λ r. r.outcome) (report_of d).guarantees) (map (λ r. r.outcome) (report_of d').guarantees)
  same_guarantee_outcomes =
      rw (same_table, guarantee_outcomes table d a, guarantee_outcomes table d' a', same.terms)
      (places_reordered list_limit (Valued no_valuation) (map_reordered (guarantee_outcome (table_for d'.terms) d'.terms) same.guarantees))
