-- A deal in which no swap's amount is cut is reported as if every item of its list were a guarantee. Assumes nothing.
use Prim.Native.Nat.{ℕ}
use mathlib.Core.Path.{◌≡◌, refl, ap, ap₂}
use mathlib.Core.Bool.{true, false, not}
use mathlib.Core.List.{List, [], ◌∷◌, map, zip_with}
use lib.Dec.{eqb}
use borrow.Author.Tests.{not-true}
use Rattle.base.specs.All.{all_pass}
use Rattle.base.proofs.Every.{both}
use Rattle.tables.specs.Table.{Table}
use Rattle.deal.specs.Instruments.{swap_without_restructuring}
use Rattle.deal.specs.Views.{View}
use Rattle.deal.specs.declared.terms.Terms.{Terms}
use Rattle.deal.specs.declared.guarantee.Guarantee.{Guarantee}
use Rattle.relief.specs.Exposure.{exposure_after, pieces_of, risk_weighted_amount_of}
use Rattle.relief.specs.Guarantees.{guarantee_ground, guarantee_grounds, guarantee_outcome, guarantee_valuation, protection_of}
use Rattle.relief.specs.Report.{full_report, guarantee_reports}
use Rattle.relief.proofs.Hedged.{hedged_whole}
use Rattle.earlier.specs.BeforeSwaps.{as_guarantee, guarantees_alone}

-- each function of an item that is the same of it as a guarantee, over a list of such items
module _ {B : Type 0} (f : Guarantee → B) (same : (g : Guarantee) → eqb g.instrument swap_without_restructuring ≡ false → f (as_guarantee g) ≡ f g) where
  map_same : (gs : List Guarantee) → all_pass gs (λ g. not (eqb g.instrument swap_without_restructuring)) ≡ true → map f (map as_guarantee gs) ≡ map f gs
  map_same [] e = refl
  map_same (g ∷ gs) e = let b = both (not (eqb g.instrument swap_without_restructuring)) _ e in ap₂ ◌∷◌ (same g (not-true _ b.0)) (map_same gs b.1)

  zip_same : {C : Type 0} (h : B → ℕ → C) (gs : List Guarantee) (ps : List ℕ) → all_pass gs (λ g. not (eqb g.instrument swap_without_restructuring)) ≡ true →
      zip_with (λ g p. h (f g) p) (map as_guarantee gs) ps ≡ zip_with (λ g p. h (f g) p) gs ps
  unfolding zip_with
  zip_same h [] ps e = refl
  zip_same h (g ∷ gs) [] e = refl
  zip_same h (g ∷ gs) (p ∷ ps) e =
      let b = both (not (eqb g.instrument swap_without_restructuring)) _ e in
      ap₂ ◌∷◌ (ap (λ x. h x p) (same g (not-true _ b.0))) (zip_same h gs ps b.1)

module _ (table : Table) (t : Terms) (g : Guarantee) (whole : eqb g.instrument swap_without_restructuring ≡ false) where
  value_same : guarantee_valuation t (as_guarantee g) ≡ guarantee_valuation t g
  unfolding guarantee_valuation
  value_same = rw (hedged_whole t g whole, hedged_whole t (as_guarantee g) refl)

  outcome_same : guarantee_outcome table t (as_guarantee g) ≡ guarantee_outcome table t g
  unfolding guarantee_outcome guarantee_ground guarantee_grounds
  outcome_same = rw value_same

  protection_same : protection_of table t (as_guarantee g) ≡ protection_of table t g
  protection_same = rw outcome_same

module _ (table : Table) (v : View) (none : all_pass v.guarantees (λ g. not (eqb g.instrument swap_without_restructuring)) ≡ true) where
  pieces_same : pieces_of table (guarantees_alone v) ≡ pieces_of table v
  pieces_same = map_same (protection_of table v.terms) (protection_same table v.terms) v.guarantees none

  exposure_same : exposure_after table (guarantees_alone v) ≡ exposure_after table v
  unfolding exposure_after
  exposure_same = refl

  reports_same : guarantee_reports table (guarantees_alone v) ≡ guarantee_reports table v
  reports_same =
      rw (exposure_same, pieces_same)
      (zip_same (guarantee_outcome table v.terms) (outcome_same table v.terms) (λ o p. record { outcome = o; portion = p }) v.guarantees _ none)

  pub reported_alone : full_report table v ≡ full_report table (guarantees_alone v)
  unfolding full_report risk_weighted_amount_of
  reported_alone = rw (reports_same, exposure_same, pieces_same)
