-- A report without its losses is the report of before them. Assumes nothing.
use Rattle.std.proofs.Common.{if◌then◌else◌}
use Prim.Native.Nat.{ℕ, ◌-◌, min}
use mathlib.Core.Path.{◌≡◌, refl, ap, ◌∙◌}
use mathlib.Core.Bool.{Bool, true, false}
use mathlib.Core.List.{List, [], ◌∷◌, map, map-map, zip_with}
use lib.Dec.{eqb}
use Rattle.base.specs.Places.{in_places}
use Rattle.base.specs.Sum.{sum_of}
use Rattle.base.proofs.Places.{map_places}
use Rattle.tables.specs.Table.{Table}
use Rattle.valuation.specs.Exposure.{risk_weighted_amount}
use Rattle.valuation.specs.Valuation.{valuation_of}
use Rattle.valuation.specs.declared.protection.Valuation.{Valuation}
use Rattle.cover.specs.Cover.{portions, uncovered, weighted_sum}
use Rattle.deal.specs.Editions.{table_for}
use Rattle.deal.specs.Lists.{list_limit}
use Rattle.deal.specs.Records.{accepted}
use Rattle.deal.specs.Views.{View, view_of}
use Rattle.std.specs.Prelude.{Ok}
use Rattle.deal.specs.declared.terms.Terms.{Terms}
use Rattle.deal.specs.declared.collateral.Collateral.{Collateral}
use Rattle.deal.specs.declared.guarantee.Guarantee.{Guarantee}
use Rattle.deal.specs.declared.deal.Deal.{Deal}
use Rattle.relief.specs.Collateral.{collateral_outcome, collateral_valuation}
use Rattle.relief.specs.Exposure.{adjusted_exposure_of, collateral_total, exposure_after, pieces_of, risk_weighted_amount_of}
use Rattle.relief.specs.Grounds.{ground_with}
use Rattle.relief.specs.Guarantees.{guarantee_outcome, guarantee_valuation}
use Rattle.relief.specs.Outcomes.{outcome_for, outcome_valuation, outcome_value}
use Rattle.relief.specs.Report.{collateral_reports, full_report, guarantee_reports, no_collateral, no_guarantee, refused_report, report_of, report_under}
use Rattle.relief.specs.Weights.{counterparty_weight_of, provider_weight_of}
use Rattle.relief.specs.declared.guarantee.GuaranteeReport.{GuaranteeReport}
use Rattle.relief.specs.declared.outcome.Outcome.{Outcome}
use Rattle.relief.specs.declared.outcome.Outcome.TheVariants.{Valued, LeftOut}
use Rattle.earlier.specs.BeforeLosses.{GuaranteeReportBefore, valued, left_out, no_guarantee_before, collateral_outcome_before, exposure_before, full_report_before, guarantee_outcome_before, outcome_for_before, pieces_before, refused_report_before, report_before, report_as_before, rwa_before, value_before, as_before}

abbrev reduced : GuaranteeReport → GuaranteeReportBefore
reduced r = record { outcome = as_before r.outcome; portion = r.portion }

-- An item

value_stays : (o : Outcome) → outcome_value o ≡ value_before (as_before o)
unfolding outcome_valuation value_before as_before
value_stays (Valued v) = refl
value_stays (LeftOut ground' amount) = refl

outcome_stays : (ground' amount : ℕ) (v : Valuation) → as_before (outcome_for ground' amount v) ≡ outcome_for_before ground' v.value
unfolding outcome_for outcome_for_before as_before
outcome_stays ground' amount v = go (eqb ground' 0)
  where
    go : (b : Bool) → as_before (if b then Valued v else LeftOut (ground_with ground') amount) ≡ (if b then valued v.value else left_out (ground_with ground'))
    go true = refl
    go false = refl

module _ (table : Table) (t : Terms) where
  pub collateral_stays : (c : Collateral) → as_before (collateral_outcome table t c) ≡ collateral_outcome_before table t c
  unfolding collateral_outcome collateral_outcome_before collateral_valuation valuation_of
  collateral_stays c = outcome_stays _ c.amount (collateral_valuation table t c)

  pub guarantee_stays : (g : Guarantee) → as_before (guarantee_outcome table t g) ≡ guarantee_outcome_before table t g
  unfolding guarantee_outcome guarantee_outcome_before guarantee_valuation valuation_of
  guarantee_stays g = outcome_stays _ g.amount (guarantee_valuation t g)

  collateral_value : (c : Collateral) → outcome_value (collateral_outcome table t c) ≡ value_before (collateral_outcome_before table t c)
  collateral_value c = value_stays (collateral_outcome table t c) ∙ ap value_before (collateral_stays c)

  guarantee_value : (g : Guarantee) → outcome_value (guarantee_outcome table t g) ≡ value_before (guarantee_outcome_before table t g)
  guarantee_value g = value_stays (guarantee_outcome table t g) ∙ ap value_before (guarantee_stays g)

-- what is read of each of two lists joined item by item
map_joined : {A B C D : Type 0} (f : C → D) (h : A → B → C) (xs : List A) (ys : List B) → map f (zip_with h xs ys) ≡ zip_with (λ a b. f (h a b)) xs ys
unfolding zip_with
map_joined f h [] ys = refl
map_joined f h (x ∷ xs) [] = refl
map_joined {D = D} f h (x ∷ xs) (y ∷ ys) = ap (λ (l : List D). f (h x y) ∷ l) (map_joined f h xs ys)

-- The amounts, which depend on values alone

module _ (table : Table) (v : View) where
  pub exposure_stays : exposure_after table v ≡ exposure_before table v
  unfolding exposure_after exposure_before collateral_total
  exposure_stays = λ i. min v.terms.amount (adjusted_exposure_of table v.terms - sum_of (λ c. collateral_value table v.terms c i) v.collateral)

  pub pieces_stay : pieces_of table v ≡ pieces_before table v
  pieces_stay = λ i. map (λ g. record { value = guarantee_value table v.terms g i; weight = provider_weight_of table g }) v.guarantees

  rwa_stays : risk_weighted_amount_of table v ≡ rwa_before table v
  unfolding risk_weighted_amount_of rwa_before
  rwa_stays = λ i. risk_weighted_amount (weighted_sum (counterparty_weight_of table v.terms) (exposure_stays i) (pieces_stay i))

  -- The items, place by place

  collateral_reported : map (λ r. as_before r.outcome) (in_places list_limit no_collateral (collateral_reports table v))
      ≡ in_places list_limit (valued 0) (map (collateral_outcome_before table v.terms) v.collateral)
  unfolding as_before
  collateral_reported =
      map_places (λ r. as_before r.outcome) list_limit no_collateral (collateral_reports table v)
      ∙ ap (in_places list_limit (valued 0)) (map-map _ _ v.collateral ∙ (λ i. map (λ c. collateral_stays table v.terms c i) v.collateral))

  guarantees_reported : map reduced (in_places list_limit no_guarantee (guarantee_reports table v))
      ≡ in_places list_limit no_guarantee_before
      (zip_with (λ g p. record { outcome = guarantee_outcome_before table v.terms g; portion = p }) v.guarantees (portions (exposure_before table v) (pieces_before table v)))
  unfolding as_before
  guarantees_reported =
      map_places reduced list_limit no_guarantee (guarantee_reports table v)
      ∙ ap (in_places list_limit no_guarantee_before)
      (map_joined reduced _ v.guarantees (portions (exposure_after table v) (pieces_of table v))
      ∙ (λ i. zip_with (λ g p. record { outcome = guarantee_stays table v.terms g i; portion = p }) v.guarantees (portions (exposure_stays i) (pieces_stay i))))

  full_stays : report_as_before (full_report table v) ≡ full_report_before table v
  unfolding full_report full_report_before
  full_stays = λ i. record {
    answer = Ok tt;
    exposure = exposure_stays i;
    collateral = collateral_reported i;
    guarantees = guarantees_reported i;
    uncovered = uncovered (exposure_stays i) (pieces_stay i);
    rwa = rwa_stays i;
  }

-- A REPORT WITHOUT ITS LOSSES IS THE REPORT OF BEFORE, of every record
pub report_stays : (d : Deal) → report_as_before (report_of d) ≡ report_before d
unfolding report_under report_before as_before
report_stays d = go (accepted d)
  where
    go : (b : Bool) →
        report_as_before (if b then full_report (table_for d.terms) (view_of d) else refused_report) ≡ (if b then full_report_before (table_for d.terms) (view_of d) else refused_report_before)
    go true = full_stays (table_for d.terms) (view_of d)
    go false = refl
