-- DEMAND 2. "Every haircut, recognised value, covered portion and risk-weighted amount is the one that chapters CRE20 and CRE22 of the Basel
-- Framework (2019) give, as document 01 reads and rounds them. Protection is left out when one of the listed grounds applies, and in no
-- other event."
--
-- The contract of `relief::report::Report::of` says that the whole report is `report_of`, every number of it; that of
-- `book::answer::answer_book` says that a book's answers are made of those figures. docs/TRACE.md goes from each sentence of document 01 to its
-- definition. The cells of the tables of 2019, the minimum holding periods and the like are read in those definitions and not proved. Under edition 2
-- weights have the floor of 02: L5 (claims/specs/SovereignFloor); under edition 3 figures are those of 02: L9, "demand 2 means it for these
-- members" (claims/specs/Tables2023). What of a swap is hedged is 02: L1 (claims/specs/CreditDerivatives); where the value of an item went is 02: L2 (claims/specs/Losses).
-- What follows is proved of the definitions, for deals of every edition.
use Rattle.std.specs.Prelude.{ℕ, ◌+◌, ◌*◌, ◌-◌, ◌≤◌, ◌<◌, min, ◌≡◌, ◌≢◌, true, not, ◌&&◌, List, map, leb, ltb, get_or}
use Rattle.base.specs.Least.{Least}
use Rattle.base.specs.Sum.{sum_of}
use Rattle.base.specs.FirstMet.{ExactFor}
use Rattle.tables.specs.Eligibility.{excluded}
use Rattle.tables.specs.Haircuts.{haircut, lent_haircut}
use Rattle.tables.specs.Table.{Goods}
use Rattle.scaling.specs.Scaling.{IsScaled, scaled}
use Rattle.valuation.specs.Exposure.{risk_weighted_amount, volatility_adjusted_exposure}
use Rattle.valuation.specs.Protection.{keep_share, maturity_adjusted, mismatched, volatility_adjusted_value}
use Rattle.valuation.specs.Restructuring.{partially_recognised}
use Rattle.valuation.specs.Valuation.{no_valuation}
use Rattle.cover.specs.Cover.{covered, weighted_sum}
use Rattle.cover.specs.declared.protection.Protection.{Protection}
use Rattle.cover_laws.specs.Sorted.{pass, sort}
use Rattle.deal.specs.Editions.{table_for}
use Rattle.deal.specs.Records.{accepted}
use Rattle.deal.specs.Views.{view_of}
use Rattle.deal.specs.declared.terms.Terms.{Terms}
use Rattle.deal.specs.declared.collateral.Collateral.{Collateral}
use Rattle.deal.specs.declared.guarantee.Guarantee.{Guarantee}
use Rattle.deal.specs.declared.deal.Deal.{Deal}
use Rattle.relief.specs.ByNumber.{collateral_by_number, guarantees_by_number, place_of}
use Rattle.relief.specs.Collateral.{collateral_grounds, collateral_outcome}
use Rattle.relief.specs.Exposure.{adjusted_exposure_of, collateral_total, pieces_of}
use Rattle.relief.specs.Guarantees.{guarantee_grounds, guarantee_outcome}
use Rattle.relief.specs.Maturity.{short_original, short_residual}
use Rattle.relief.specs.Outcomes.{outcome_ground, outcome_valuation, outcome_value}
use Rattle.relief.specs.Report.{full_report, no_guarantee, report_of}
use Rattle.relief.specs.Weights.{counterparty_weight_of}
use Rattle.relief.specs.declared.outcome.Outcome.{Outcome}
use Rattle.starred.specs.Figures.{AllRight, starred}

-- a figure at a life is that of the last day of its band, or of the first day of the last
abbrev pub ByThreeBands : (ℕ → ℕ) → ℕ → Type 0
ByThreeBands figure life =
    (life ≤ 360 → figure life ≡ figure 360) × (361 ≤ life → life ≤ 1800 → figure life ≡ figure 1800) × (1801 ≤ life → figure life ≡ figure 1801)

pub record Demand2 : Type 0 where
  -- THE REPORT

  -- of an accepted deal is made of these parts, place by place; what follows is about them
  pub full : (d : Deal) → accepted d ≡ true → report_of d ≡ full_report (table_for d.terms) (view_of d)
  -- for each item either its value or its ground, with its losses or the amount left out, by number, in every place of every report
  pub collateral_reported : (d : Deal) → map (λ r. place_of r.outcome) (report_of d).collateral ≡ collateral_by_number d
  pub guarantees_reported : (d : Deal) → map (λ r. place_of r.outcome) (report_of d).guarantees ≡ guarantees_by_number d
  -- E* is the exposure raised by the lent goods' haircut, less all collateral values, and never above the deal's amount
  pub exposure : (d : Deal) → accepted d ≡ true →
      (report_of d).exposure
      ≡ min d.terms.amount (adjusted_exposure_of (table_for d.terms) d.terms - collateral_total (table_for d.terms) d.terms (view_of d).collateral)
  pub capped : (d : Deal) → (report_of d).exposure ≤ d.terms.amount
  -- the risk-weighted amount is the sum of portion × weight, and of the rest × the counterparty's weight, divided by 100 once, rounded up
  pub weighted : (d : Deal) → accepted d ≡ true →
      (report_of d).rwa
      ≡ risk_weighted_amount (weighted_sum (counterparty_weight_of (table_for d.terms) d.terms) (report_of d).exposure (pieces_of (table_for d.terms) (view_of d)))
  -- the portions and the uncovered rest make up E*
  pub conserved : (d : Deal) → sum_of (λ r. r.portion) (report_of d).guarantees + (report_of d).uncovered ≡ (report_of d).exposure
  -- FIGURES AND ROUNDING

  -- the figures that document 01 marks come out of the definitions
  pub figures : AllRight starred
  -- in the tables of 2019 a security's life counts by three bands, "up to 360", "361 to 1,800", "over 1,800" days, pledged and lent (of 2023:
  -- claims/specs/Tables2023)
  pub bands : (goods step life : ℕ) → ByThreeBands (haircut goods step) life × ByThreeBands (lent_haircut goods step) life
  -- a scaled haircut is the least h with 10 × h × h at or above H × H × n
  pub scaling : (H n : ℕ) → IsScaled H n (scaled H n)
  -- haircuts that reach the whole leave nothing
  pub keep_none : (haircut : ℕ) → 1000000 ≤ haircut → keep_share haircut ≡ 0
  -- a value is rounded down, and down again under a maturity mismatch, which is cover shorter than the deal's residual term ..
  pub value_down : (amount haircut : ℕ) →
      (volatility_adjusted_value amount haircut * 1000000 ≤ amount * keep_share haircut)
      × (amount * keep_share haircut < (volatility_adjusted_value amount haircut + 1) * 1000000)
  pub matched : (value cover term : ℕ) → term ≤ cover → maturity_adjusted value cover term ≡ value
  pub mismatch : (value cover term : ℕ) → cover < term → maturity_adjusted value cover term ≡ mismatched value cover term
  pub mismatch_down : (value cover term : ℕ) → 90 < cover → cover < term →
      let T = min term 1800 in
      let t = min T cover in
      (mismatched value cover term * (T - 90) ≤ value * (t - 90)) × (value * (t - 90) < (mismatched value cover term + 1) * (T - 90))
  -- .. and so is, before both, the amount of a swap without the restructuring condition ..
  pub cut_down : (amount deal_amount : ℕ) →
      (partially_recognised amount deal_amount * 100 ≤ min amount deal_amount * 60)
      × (min amount deal_amount * 60 < (partially_recognised amount deal_amount + 1) * 100)
  -- .. the exposure and the weighted amount are the least that are enough
  pub exposure_up : (amount haircut : ℕ) → Least (λ m. amount * (1000000 + haircut) ≤ m * 1000000) (volatility_adjusted_exposure amount haircut)
  pub weighted_up : (sum : ℕ) → Least (λ m. sum ≤ m * 100) (risk_weighted_amount sum)
  -- COVER

  -- guarantees and swaps cover in a single rising order of weight, equal weights in order of adding: as a stable sort and one pass over it
  pub rising_order : (E : ℕ) (pieces : List Protection) → sort (covered E pieces) ≡ pass E (sort pieces)
  -- GROUNDS

  -- a ground is given exactly where it is due, the first that applies; none exactly where none applies
  pub collateral_ground_lem : (t : Terms) (c : Collateral) →
      ExactFor (outcome_ground (collateral_outcome (table_for t) t c)) (collateral_grounds (table_for t) t c)
  pub guarantee_ground_lem : (t : Terms) (g : Guarantee) →
      ExactFor (outcome_ground (guarantee_outcome (table_for t) t g)) (guarantee_grounds (table_for t) t g)
  -- 25 and 26: cover ends before the deal, and ran for under 360 days from the start, or has 90 or less left
  pub short_original_lem : (t : Terms) (residual original : ℕ) → short_original t residual original ≡ (ltb residual t.residual && ltb original 360)
  pub short_residual_lem : (t : Terms) (residual : ℕ) → short_residual t residual ≡ (ltb residual t.residual && leb residual 90)
  -- 24: goods are eligible by type and step exactly where the paper's list does not exclude them
  pub eligibility : (t : Terms) (goods step listed : ℕ) → Goods goods → step ≤ 6 → listed ≤ 1 →
      (table_for t).eligible goods step listed ≡ not (excluded goods step listed)
  -- what is left out has value 0, and no loss ..
  pub left_out : (o : Outcome) → outcome_ground o ≢ 0 → outcome_valuation o ≡ no_valuation
  -- .. and covers 0, in every place of every report
  pub covers_none : (d : Deal) (place : ℕ) →
      let r = get_or (report_of d).guarantees place no_guarantee in outcome_ground r.outcome ≢ 0 → (outcome_value r.outcome ≡ 0) × (r.portion ≡ 0)
