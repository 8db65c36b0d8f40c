-- Demand 2 is met. Assumes nothing.
use Prim.Native.Nat.{ℕ, ◌+◌, ◌*◌, ◌-◌, ◌/◌, ◌≤◌, ◌<◌, min}
use mathlib.Core.Path.{◌≡◌, refl, sym, ap, ◌∙◌}
use mathlib.Core.Bool.{true, not, ◌&&◌}
use native.Mathlib.Nat.{div-add-mod', mod-lt}
use native.Mathlib.Omega.{arith}
use lib.Dec.{leb, ltb}
use Rattle.tables.specs.Eligibility.{excluded}
use Rattle.tables.specs.Haircuts.{band_of, haircut, lent_haircut}
use Rattle.tables.specs.Table.{Goods}
use Rattle.tables.proofs.Bands.{first_band, haircut_sample, last_band, lent_sample, middle_band, sample}
use Rattle.tables.proofs.Listed.{eligible_as_listed}
use Rattle.tables.proofs.Versions.{eligible_same}
use Rattle.valuation.specs.Exposure.{risk_weighted_amount}
use Rattle.valuation.specs.Protection.{keep_share, mismatched}
use Rattle.cover.specs.Cover.{weighted_sum}
use Rattle.deal.specs.Editions.{table_for}
use Rattle.deal.specs.Records.{accepted}
use Rattle.deal.specs.Views.{view_of}
use Rattle.deal.specs.declared.terms.Terms.{Terms}
use Rattle.deal.specs.declared.deal.Deal.{Deal}
use Rattle.valuation.proofs.PartialRecognition.{partial_is}
use Rattle.relief.specs.Exposure.{adjusted_exposure_of, collateral_total, exposure_after, pieces_of, risk_weighted_amount_of}
use Rattle.relief.specs.Maturity.{short_original, short_residual}
use Rattle.relief.specs.Weights.{counterparty_weight_of}
use Rattle.relief.proofs.ByNumber.{collateral_by_number_lem, guarantees_by_number_lem}
use Rattle.relief.proofs.Reports.{exposure_of, report_accepted, rwa_of}
use Rattle.scaling.proofs.Scaled.{scaled_is}
use Rattle.cover_laws.proofs.Order.{in_rising_order}
use Rattle.deal.specs.Editions.{table_for}
use Rattle.relief.specs.Report.{report_of}
use Rattle.relief_laws.proofs.Grounds.{collateral_ground_lem, guarantee_ground_lem}
use Rattle.relief_laws.proofs.Reports.{left_out_covers_zero, report_conserved, reported_exposure_bound}
use Rattle.relief_laws.proofs.Rounded.{adjusted_exposure_is, risk_weighted_is}
use Rattle.relief_laws.proofs.Values.{adjusted_value_is, left_out_nothing, maturity_adjusted_matched, maturity_adjusted_mismatched}
use Rattle.starred.proofs.Starred.{starred_right}
use Rattle.claims.specs.Demand2.{ByThreeBands, Demand2}

-- a quotient is rounded down
floor : (x d : ℕ) → 0 < d → (x / d * d ≤ x) × (x < (x / d + 1) * d)
floor x d h = omega (arith, div-add-mod' x d, mod-lt x h)

mismatch_rounded : (value cover term : ℕ) → 90 < cover → cover < term →
    let T = min term 1800 in
    let t = min T cover in
    (mismatched value cover term * (T - 90) ≤ value * (t - 90)) × (value * (t - 90) < (mismatched value cover term + 1) * (T - 90))
unfolding mismatched
mismatch_rounded value cover term h k = floor (value * (min (min term 1800) cover - 90)) (min term 1800 - 90) (omega arith)

none_kept : (haircut : ℕ) → 1000000 ≤ haircut → keep_share haircut ≡ 0
unfolding keep_share
none_kept haircut h = omega arith

exposure_made : (d : Deal) → accepted d ≡ true →
    (report_of d).exposure
    ≡ min d.terms.amount (adjusted_exposure_of (table_for d.terms) d.terms - collateral_total (table_for d.terms) d.terms (view_of d).collateral)
unfolding exposure_after
exposure_made d e = exposure_of (table_for d.terms) d e

amount_made : (d : Deal) → accepted d ≡ true →
    (report_of d).rwa
    ≡ risk_weighted_amount (weighted_sum (counterparty_weight_of (table_for d.terms) d.terms) (report_of d).exposure (pieces_of (table_for d.terms) (view_of d)))
unfolding risk_weighted_amount_of
amount_made d e =
    let table = table_for d.terms in
    rwa_of table d e
    ∙ sym (ap (λ E. risk_weighted_amount (weighted_sum (counterparty_weight_of table d.terms) E (pieces_of table (view_of d)))) (exposure_of table d e))

-- a figure that depends on the life by its band
by_bands : (figure : ℕ → ℕ) → ((life : ℕ) → figure (sample (band_of life)) ≡ figure life) → (life : ℕ) → ByThreeBands figure life
by_bands figure e life = (
  λ h. sym (e life) ∙ ap (λ b. figure (sample b)) (first_band life h),
  λ l h. sym (e life) ∙ ap (λ b. figure (sample b)) (middle_band life l h),
  λ l. sym (e life) ∙ ap (λ b. figure (sample b)) (last_band life l),
)

eligibility : (t : Terms) (goods step listed : ℕ) → Goods goods → step ≤ 6 → listed ≤ 1 → (table_for t).eligible goods step listed ≡ not (excluded goods step listed)
unfolding table_for
eligibility t goods step listed g s l = eligible_same t.edition goods step listed ∙ eligible_as_listed goods step listed g s l

original_short : (t : Terms) (residual original : ℕ) → short_original t residual original ≡ (ltb residual t.residual && ltb original 360)
unfolding short_original
original_short t residual original = refl

residual_short : (t : Terms) (residual : ℕ) → short_residual t residual ≡ (ltb residual t.residual && leb residual 90)
unfolding short_residual
residual_short t residual = refl

pub demand_2 : Demand2
demand_2 = record {
  full = λ d e. report_accepted (table_for d.terms) d e;
  collateral_reported = collateral_by_number_lem;
  guarantees_reported = guarantees_by_number_lem;
  exposure = exposure_made;
  weighted = amount_made;
  keep_none = none_kept;
  matched = maturity_adjusted_matched;
  mismatch = maturity_adjusted_mismatched;
  mismatch_down = mismatch_rounded;
  short_original_lem = original_short;
  short_residual_lem = residual_short;
  eligibility = eligibility;
  figures = starred_right;
  bands = λ goods step life. (by_bands (haircut goods step) (haircut_sample goods step) life, by_bands (lent_haircut goods step) (lent_sample goods step) life);
  scaling = scaled_is;
  value_down = adjusted_value_is;
  cut_down = partial_is;
  exposure_up = adjusted_exposure_is;
  weighted_up = risk_weighted_is;
  collateral_ground_lem = λ t c. collateral_ground_lem (table_for t) t c;
  guarantee_ground_lem = λ t g. guarantee_ground_lem (table_for t) t g;
  left_out = left_out_nothing;
  covers_none = λ d place. left_out_covers_zero (table_for d.terms) d place;
  rising_order = in_rising_order;
  conserved = λ d. report_conserved (table_for d.terms) d;
  capped = λ d. reported_exposure_bound (table_for d.terms) d;
}
