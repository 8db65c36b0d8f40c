-- A report's items by the paper's numbers. Assumes nothing.
use Rattle.std.proofs.Common.{if◌then◌else◌}
use mathlib.Core.Path.{◌≡◌, refl, ap, ◌∙◌}
use mathlib.Core.Bool.{Bool, true, false}
use mathlib.Core.List.{[], map, map-map}
use Rattle.base.specs.Places.{in_places}
use Rattle.base.proofs.Places.{map_places}
use Rattle.base.proofs.Placed.{map_zip}
use Rattle.tables.specs.Table.{Table}
use Rattle.deal.specs.Records.{accepted}
use Rattle.deal.specs.Editions.{table_for}
use Rattle.deal.specs.Lists.{list_limit}
use Rattle.deal.specs.Views.{View, view_of}
use Rattle.deal.specs.declared.deal.Deal.{Deal}
use Rattle.relief.specs.Outcomes.{outcome_ground, outcome_left_out, outcome_valuation}
use Rattle.relief.specs.Collateral.{collateral_ground, collateral_valuation}
use Rattle.relief.specs.Guarantees.{guarantee_ground, guarantee_valuation}
use Rattle.relief.specs.Report.{no_collateral, no_guarantee, collateral_reports, guarantee_reports, full_report, refused_report, report_under, report_of}
use Rattle.relief.specs.ByNumber.{place_of, place_with, no_place, collateral_by_number, guarantees_by_number}
use Rattle.relief.proofs.Recognition.{collateral_place, guarantee_place}
use Rattle.relief.proofs.Reports.{portion_each, shares}

-- the counted ones
module _ (table : Table) (v : View) where
  collateral_counted : map (λ p. place_of p.outcome) (collateral_reports table v) ≡
      map (λ c. place_with (collateral_ground table v.terms c) c.amount (collateral_valuation table v.terms c)) v.collateral
  collateral_counted = map-map _ _ v.collateral ∙ (λ i. map (λ c. collateral_place table v.terms c i) v.collateral)

  guarantees_counted : map (λ p. place_of p.outcome) (guarantee_reports table v) ≡
      map (λ g. place_with (guarantee_ground table v.terms g) g.amount (guarantee_valuation v.terms g)) v.guarantees
  guarantees_counted = map_zip _ _ _ (λ g n. guarantee_place table v.terms g) v.guarantees (shares table v) (portion_each table v)

-- EVERY PLACE OF A REPORT IN THE PAPER'S NUMBERS
module _ (d : Deal) where
  pub collateral_by_number_lem : map (λ p. place_of p.outcome) (report_of d).collateral ≡ collateral_by_number d
  unfolding report_under full_report collateral_by_number outcome_ground outcome_valuation outcome_left_out
  collateral_by_number_lem = go (accepted d)
    where
      go : (b : Bool) → map (λ p. place_of p.outcome) (if b then full_report (table_for d.terms) (view_of d) else refused_report).collateral ≡
          in_places list_limit no_place (if b then map (λ c. place_with (collateral_ground (table_for d.terms) d.terms c) c.amount (collateral_valuation (table_for d.terms) d.terms c)) (view_of d).collateral else [])
      go true = map_places (λ p. place_of p.outcome) list_limit no_collateral (collateral_reports (table_for d.terms) (view_of d)) ∙ ap (in_places list_limit no_place) (collateral_counted (table_for d.terms) (view_of d))
      go false = refl

  pub guarantees_by_number_lem : map (λ p. place_of p.outcome) (report_of d).guarantees ≡ guarantees_by_number d
  unfolding report_under full_report guarantees_by_number outcome_ground outcome_valuation outcome_left_out
  guarantees_by_number_lem = go (accepted d)
    where
      go : (b : Bool) → map (λ p. place_of p.outcome) (if b then full_report (table_for d.terms) (view_of d) else refused_report).guarantees ≡
          in_places list_limit no_place (if b then map (λ g. place_with (guarantee_ground (table_for d.terms) d.terms g) g.amount (guarantee_valuation d.terms g)) (view_of d).guarantees else [])
      go true = map_places (λ p. place_of p.outcome) list_limit no_guarantee (guarantee_reports (table_for d.terms) (view_of d)) ∙ ap (in_places list_limit no_place) (guarantees_counted (table_for d.terms) (view_of d))
      go false = refl
