-- The laws of reports, for every table and every record: portions and rest make up the exposure, what is left out covers nothing, and E* is
-- never above the amount. Assumes nothing.
use Prim.Native.Nat.{ℕ, ◌+◌, ◌≤◌, ◌<◌}
use mathlib.Core.Path.{◌≡◌, refl, ap, ◌∙◌}
use mathlib.Core.Bool.{true}
use mathlib.Core.List.{List, []}
use mathlib.Core.Logic.{◌≢◌}
use native.Mathlib.Omega.{arith}
use native.Mathlib.Nat.{not-suc-le-zero}
use lib.ListN.{length, get_or, take, length-map, get_or-map}
use Rattle.base.specs.Sum.{sum_of}
use Rattle.base.proofs.Choice.{either}
use Rattle.base.proofs.Sum.{sum_map}
use Rattle.base.proofs.Places.{length_zip}
use Rattle.base.proofs.Placed.{sum_past, sum_places, sum_zip, zip_at, places_hold}
use Rattle.tables.specs.Table.{Table}
use Rattle.cover.specs.Cover.{portion, covered}
use Rattle.cover.specs.declared.protection.Protection.{Protection}
use Rattle.cover.proofs.Portions.{conserved, covered_at}
use Rattle.cover_laws.proofs.Layers.{zero_covers_zero}
use Rattle.deal.specs.Lists.{list_limit}
use Rattle.deal.specs.Records.{accepted}
use Rattle.deal.specs.Fields.{zero_guarantee}
use Rattle.deal.specs.Views.{View, view_of}
use Rattle.deal.specs.declared.guarantee.Guarantee.{Guarantee}
use Rattle.deal.specs.declared.deal.Deal.{Deal}
use Rattle.relief.specs.declared.guarantee.GuaranteeReport.{GuaranteeReport}
use Rattle.relief.specs.declared.report.Report.{Report}
use Rattle.relief.specs.Outcomes.{outcome_value, outcome_ground}
use Rattle.relief.specs.Guarantees.{guarantee_outcome, protection_of}
use Rattle.relief.specs.Exposure.{exposure_after, pieces_of}
use Rattle.relief.specs.Report.{no_guarantee, guarantee_reports, full_report, refused_report, report_under}
use Rattle.relief.proofs.Reports.{portion_each, shares}
use Rattle.relief.proofs.ValueBounds.{exposure_bound}
use Rattle.relief_laws.proofs.Values.{left_out_nothing}

module _ (table : Table) (d : Deal) where
  -- what holds of the report of accepted deals, and of the refusal, holds of every report
  pub every_report : (P : Report → Type 0) → (accepted d ≡ true → P (full_report table (view_of d))) → P refused_report → P (report_under table d)
  unfolding report_under
  every_report P full refused = either P (accepted d) full (λ e. refused)

  -- E* is never above the deal's amount
  pub reported_exposure_bound : (report_under table d).exposure ≤ d.terms.amount
  unfolding full_report
  reported_exposure_bound = every_report (λ r. r.exposure ≤ d.terms.amount) (λ e. exposure_bound table (view_of d)) (omega arith)

-- Portions

module _ (table : Table) (v : View) where
  abbrev reported : Guarantee → ℕ → GuaranteeReport
  reported g p = record { outcome = guarantee_outcome table v.terms g; portion = p }

  portions_reported : sum_of (λ r. r.portion) (guarantee_reports table v) ≡ sum_of (λ p. p.value) (covered (exposure_after table v) (pieces_of table v))
  portions_reported =
      sum_zip reported (λ r. r.portion) (λ n. n) (λ a b. refl) v.guarantees (shares table v) (portion_each table v)
      ∙ sum_map (λ n. n) (λ p. p.value) (covered (exposure_after table v) (pieces_of table v))

-- THE PORTIONS AND THE REST MAKE UP THE EXPOSURE, IN EVERY REPORT
pub report_conserved : (table : Table) (d : Deal) →
    sum_of (λ r. r.portion) (report_under table d).guarantees + (report_under table d).uncovered ≡ (report_under table d).exposure
unfolding full_report
report_conserved table d =
    every_report table d (λ r. sum_of (λ g. g.portion) r.guarantees + r.uncovered ≡ r.exposure)
    (λ e.
    let v = view_of d in
    omega (
      arith,
      sum_places (λ r. r.portion) list_limit no_guarantee (guarantee_reports table v) refl,
      portions_reported table v,
      conserved (exposure_after table v) (pieces_of table v),
    ))
    (omega (arith, sum_past (λ (r : GuaranteeReport). r.portion) 0 list_limit no_guarantee refl))

-- "A left-out item has value 0 and covers 0"
abbrev pub ZeroIfLeftOut : GuaranteeReport → Type 0
ZeroIfLeftOut r = outcome_ground r.outcome ≢ 0 → (outcome_value r.outcome ≡ 0) × (r.portion ≡ 0)

module _ (table : Table) (v : View) where
  abbrev ps : List Protection
  ps = pieces_of table v

  -- the guarantee at a place, and its piece
  abbrev guarantee_at : ℕ → Guarantee
  guarantee_at i = get_or v.guarantees i zero_guarantee

  abbrev piece_at : ℕ → Protection
  piece_at i = protection_of table v.terms (guarantee_at i)

  portion_at : (i : ℕ) → i < length v.guarantees → get_or (shares table v) i (protection_of table v.terms zero_guarantee).value ≡
      portion (exposure_after table v) ps (take i ps) (piece_at i)
  portion_at i h =
      let E = exposure_after table v in
      let none = protection_of table v.terms zero_guarantee in
      let inside : i < length ps = omega (arith, length-map v.guarantees (protection_of table v.terms)) in
      get_or-map (λ p. p.value) (covered E ps) i none
      ∙ ap (λ p. p.value) (covered_at E ps i none inside)
      ∙ ap (λ p. portion E ps (take i ps) p) (get_or-map (protection_of table v.terms) v.guarantees i zero_guarantee)

  report_at : (i : ℕ) → i < length v.guarantees → get_or (guarantee_reports table v) i no_guarantee ≡
      reported table v (guarantee_at i) (portion (exposure_after table v) ps (take i ps) (piece_at i))
  report_at i h =
      zip_at (reported table v) v.guarantees (shares table v) i zero_guarantee (protection_of table v.terms zero_guarantee).value no_guarantee h
      (omega (arith, portion_each table v))
      ∙ ap (λ n. reported table v (guarantee_at i) n) (portion_at i h)

  left_out_zero : (i : ℕ) → i < length (guarantee_reports table v) → ZeroIfLeftOut (get_or (guarantee_reports table v) i no_guarantee)
  left_out_zero i h =
      let inside : i < length v.guarantees = omega (arith, length_zip (reported table v) v.guarantees (shares table v) (portion_each table v)) in
      rw (report_at i inside) (λ ground'.
      let worthless = ap (λ x. x.value) (left_out_nothing (guarantee_outcome table v.terms (guarantee_at i)) ground') in
      (worthless, zero_covers_zero (exposure_after table v) ps (take i ps) (piece_at i) worthless))

-- WHAT IS LEFT OUT HAS VALUE 0 AND COVERS 0, IN EVERY PLACE OF EVERY REPORT
pub left_out_covers_zero : (table : Table) (d : Deal) (i : ℕ) → ZeroIfLeftOut (get_or (report_under table d).guarantees i no_guarantee)
unfolding full_report outcome_ground
left_out_covers_zero table d i =
    every_report table d (λ r. ZeroIfLeftOut (get_or r.guarantees i no_guarantee))
    (λ e. places_hold ZeroIfLeftOut no_guarantee list_limit (guarantee_reports table (view_of d)) (λ ground'. absurd (ground' refl)) (left_out_zero table (view_of d)) i)
    (places_hold ZeroIfLeftOut no_guarantee list_limit [] (λ ground'. absurd (ground' refl)) (λ j h. absurd (not-suc-le-zero h)) i)
