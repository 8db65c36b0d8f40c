-- WHERE THE VALUE WENT. 02: L2, "Each valued item must report how much the haircut took and how much the maturity step took. A swap without the
-- restructuring condition reports its cut as a third loss. Value and losses add up to the sent amount. A left-out item reports its whole amount as
-- left out and no loss; places past a count hold 0 in all of these. Whoever uses an item's value now gets these figures with it. Weighted amounts do
-- not change."
--
-- The contract of `relief::report::Report::of` says that the whole report is `report_of`. That of `hadlephoga::hadlephoga_report_deal` says what a lent
-- list holds; hadlephoga/proofs/Reported has each figure in its place there. "Whoever uses an item's value ..": a value is made as part of a `Valuation` and of nothing else (valuation/src/protection), an outcome holds and
-- hands on the whole of it, and so do reports and lent lists; only where values are summed, for E*, or cover, is the value taken out of it. That
-- betterments never raise the weighted amount is demand 3 (claims/specs/Demand3), which speaks of weighted amounts alone and stands as it was.
use Rattle.std.specs.Prelude.{ℕ, ◌+◌, ◌*◌, ◌/◌, ◌≤◌, min, ◌≡◌, ◌≢◌, false, List, [], ◌∷◌, map, eqb, take, if◌then◌else◌}
use Rattle.base.specs.Places.{in_places}
use Rattle.tables.specs.Table.{Table}
use Rattle.scaling.specs.Period.{guarantee_period}
use Rattle.valuation.specs.Haircuts.{scaled_currency_haircut}
use Rattle.valuation.specs.Protection.{maturity_adjusted, volatility_adjusted_value}
use Rattle.valuation.specs.Valuation.{no_valuation}
use Rattle.valuation.specs.declared.protection.Valuation.{Valuation}
use Rattle.deal.specs.Editions.{table_for}
use Rattle.deal.specs.Fields.{collateral_in, guarantee_sent, swap_sent, terms_in}
use Rattle.deal.specs.Instruments.{swap_without_restructuring}
use Rattle.deal.specs.Lists.{list_limit}
use Rattle.deal.specs.Records.{accepted, deal_with}
use Rattle.deal.specs.Views.{view_of}
use Rattle.deal.specs.declared.terms.Terms.{Terms}
use Rattle.deal.specs.declared.collateral.Collateral.{Collateral}
use Rattle.deal.specs.declared.guarantee.Guarantee.{Guarantee}
use Rattle.deal.specs.declared.deal.Deal.{Deal}
use Rattle.relief.specs.ByNumber.{Place}
use Rattle.relief.specs.Collateral.{collateral_ground, collateral_outcome, collateral_valuation, combined_haircut_of}
use Rattle.relief.specs.Guarantees.{guarantee_ground, guarantee_outcome, guarantee_valuation, hedged_amount}
use Rattle.relief.specs.Outcomes.{outcome_ground, outcome_left_out, outcome_valuation}
use Rattle.relief.specs.Report.{report_of, report_refusal}
use Rattle.relief.specs.declared.outcome.Outcome.{Outcome}
use Rattle.book.specs.Answers.{refused_at, reported}
use Rattle.earlier.specs.BeforeLosses.{report_before, report_as_before}

-- value, losses and amount left out together
abbrev pub accounted_for : Outcome → ℕ
accounted_for o =
    let v = outcome_valuation o in v.value + v.haircut_loss + v.maturity_loss + v.cut_loss + outcome_left_out o

-- a valued item: its value and losses are its amount, and nothing is left out. One that is left out: all of it is, and there is no value and no loss
abbrev pub AddsUp : Outcome → ℕ → Type 0
AddsUp o amount =
    let v = outcome_valuation o in
    (outcome_ground o ≡ 0 → (v.value + v.haircut_loss + v.maturity_loss + v.cut_loss ≡ amount) × (outcome_left_out o ≡ 0))
    × (outcome_ground o ≢ 0 → (outcome_left_out o ≡ amount) × (v ≡ no_valuation))

-- a place by its ground's number, its valuation and the amount left out: what an outcome says, what a valued item has, and what one that is left out has
abbrev pub as_place : Outcome → Place
as_place o = record { ground' = outcome_ground o; valuation = outcome_valuation o; left_out = outcome_left_out o }

abbrev pub valued : Valuation → Place
valued v = record { ground' = 0; valuation = v; left_out = 0 }

abbrev pub left_out : ℕ → ℕ → Place
left_out ground' amount = record { ground' = ground'; valuation = no_valuation; left_out = amount }

-- each loss is what its step took, of what the step before it left: the cut leaves so much of the amount, these haircuts of that, and the maturity step
-- the value
pub record ByStep (amount uncut haircut cover term : ℕ) (v : Valuation) : Type 0 where
  pub by_cut : v.cut_loss + uncut ≡ amount
  pub by_haircut : v.haircut_loss + volatility_adjusted_value uncut haircut ≡ uncut
  pub by_maturity : v.maturity_loss + v.value ≡ volatility_adjusted_value uncut haircut
  pub value : v.value ≡ maturity_adjusted (volatility_adjusted_value uncut haircut) cover term

-- A loan of 1,000,000 for 1,800 days, revalued daily. A pledge of 1,000,000, by type of goods, currency, days of cover and whether it is lawful; a
-- guarantee of 2,000,000, by the last three; a swap, by its amount, these three and restructuring
abbrev pub loan : Terms
loan = terms_in (1000000 ∷ 3 ∷ 0 ∷ 0 ∷ 978 ∷ 3 ∷ 1 ∷ 1800 ∷ 1 ∷ 0 ∷ 0 ∷ 1 ∷ [])

abbrev pub pledge : ℕ → ℕ → ℕ → ℕ → Collateral
pledge goods currency days lawful = collateral_in (1000000 ∷ goods ∷ 0 ∷ 0 ∷ currency ∷ days ∷ 1800 ∷ lawful ∷ 1 ∷ 1 ∷ 0 ∷ [])

abbrev pub guarantee : ℕ → ℕ → ℕ → Guarantee
guarantee currency days lawful = guarantee_sent (2000000 ∷ 1 ∷ 1 ∷ 0 ∷ currency ∷ days ∷ 1800 ∷ lawful ∷ 1 ∷ 1 ∷ [])

abbrev pub swap : ℕ → ℕ → ℕ → ℕ → ℕ → Guarantee
swap amount currency days lawful restructuring = swap_sent (amount ∷ 1 ∷ 1 ∷ 0 ∷ currency ∷ days ∷ 1800 ∷ lawful ∷ 1 ∷ 1 ∷ restructuring ∷ [])

-- ground; value; losses by haircut, by maturity and by the cut; the amount left out
abbrev pub figures_of : Outcome → List ℕ
figures_of o =
    let v = outcome_valuation o in outcome_ground o ∷ v.value ∷ v.haircut_loss ∷ v.maturity_loss ∷ v.cut_loss ∷ outcome_left_out o ∷ []

pub record Losses : Type 0 where
  -- WEIGHTED AMOUNTS DO NOT CHANGE

  -- every report but for losses and amounts left out is the report of before them: the answer, E*, every value, ground and portion, the rest, the
  -- weighted amount
  pub report_same : (d : Deal) → report_as_before (report_of d) ≡ report_before d
  -- and of a deal that the line with this number opened, a book's answer is made of that (it reads a report nowhere else: book/specs/Answers)
  pub answer_same : (opening : ℕ) (d : Deal) →
      reported opening d
      ≡ (if eqb (report_refusal d) 0 then 0 ∷ (report_before d).exposure ∷ (report_before d).rwa ∷ [] else refused_at (report_refusal d) opening)
  -- VALUE AND LOSSES ADD UP TO THE SENT AMOUNT

  -- in every place of every report, with the amount left out: the sent amounts of an accepted deal's items, in order of adding; 0 in places past a
  -- count, and in all of them beside a 40, so that value, each loss and the amount left out are 0 there
  pub collateral_places_lem : (d : Deal) →
      map (λ r. accounted_for r.outcome) (report_of d).collateral ≡ in_places list_limit 0 (if accepted d then map (λ c. c.amount) (view_of d).collateral else [])
  pub guarantee_places_lem : (d : Deal) →
      map (λ r. accounted_for r.outcome) (report_of d).guarantees ≡ in_places list_limit 0 (if accepted d then map (λ g. g.amount) (view_of d).guarantees else [])
  -- and of each item, whether it is valued or left out
  pub collateral_adds_up : (table : Table) (t : Terms) (c : Collateral) → AddsUp (collateral_outcome table t c) c.amount
  pub guarantee_adds_up : (table : Table) (t : Terms) (g : Guarantee) → AddsUp (guarantee_outcome table t g) g.amount
  -- EACH LOSS IS ITS STEP'S

  -- every place of every report is the item's valuation, or its ground with its whole amount; nothing past a count and beside a 40
  pub collateral_reported : (d : Deal) →
      map (λ r. as_place r.outcome) (report_of d).collateral
      ≡ in_places list_limit (valued no_valuation)
      (if accepted d
      then map (λ c. let ground' = collateral_ground (table_for d.terms) d.terms c in if eqb ground' 0 then valued (collateral_valuation (table_for d.terms) d.terms c) else left_out ground' c.amount) (view_of d).collateral
      else [])
  pub guarantees_reported : (d : Deal) →
      map (λ r. as_place r.outcome) (report_of d).guarantees
      ≡ in_places list_limit (valued no_valuation)
      (if accepted d
      then map (λ g. let ground' = guarantee_ground (table_for d.terms) d.terms g in if eqb ground' 0 then valued (guarantee_valuation d.terms g) else left_out ground' g.amount) (view_of d).guarantees
      else [])
  -- nothing of collateral is cut; of a guarantee or swap, what is not hedged
  pub collateral_steps : (table : Table) (t : Terms) (c : Collateral) →
      ByStep c.amount c.amount (combined_haircut_of table t c) c.residual t.residual (collateral_valuation table t c)
  pub guarantee_steps : (t : Terms) (g : Guarantee) →
      ByStep g.amount (hedged_amount t g) (scaled_currency_haircut g.currency t.currency (guarantee_period t.interval)) g.residual t.residual (guarantee_valuation t g)
  -- only a swap without the restructuring condition has a third loss, and it "includes what is above the deal's amount"
  pub no_cut : (t : Terms) (g : Guarantee) → eqb g.instrument swap_without_restructuring ≡ false → (guarantee_valuation t g).cut_loss ≡ 0
  pub cut : (t : Terms) (g : Guarantee) → g.instrument ≡ swap_without_restructuring →
      (guarantee_valuation t g).cut_loss + min g.amount t.amount * 60 / 100 ≡ g.amount
  -- cover as long as the deal loses nothing by maturity
  pub collateral_matched : (table : Table) (t : Terms) (c : Collateral) → t.residual ≤ c.residual → (collateral_valuation table t c).maturity_loss ≡ 0
  pub guarantee_matched : (t : Terms) (g : Guarantee) → t.residual ≤ g.residual → (guarantee_valuation t g).maturity_loss ≡ 0
  -- BY NUMBER

  -- cash for 900 days of 1,800; in another currency; both; neither; not lawful. Main index equity; for 900 days; in another currency and for 900 days.
  -- A place past the count
  pub collateral_by_number_lem :
      map (λ r. figures_of r.outcome)
      (take 9 (report_of (deal_with loan (pledge 1 978 900 1 ∷ pledge 1 840 1800 1 ∷ pledge 1 840 900 1 ∷ pledge 1 978 1800 1 ∷ pledge 1 978 900 0 ∷ pledge 7 978 1800 1 ∷ pledge 7 978 900 1 ∷ pledge 7 840 900 1 ∷ []) [])).collateral)
      ≡ (0 ∷ 473684 ∷ 0 ∷ 526316 ∷ 0 ∷ 0 ∷ [])
      ∷ (0 ∷ 886862 ∷ 113138 ∷ 0 ∷ 0 ∷ 0 ∷ [])
      ∷ (0 ∷ 420092 ∷ 113138 ∷ 466770 ∷ 0 ∷ 0 ∷ [])
      ∷ (0 ∷ 1000000 ∷ 0 ∷ 0 ∷ 0 ∷ 0 ∷ [])
      ∷ (21 ∷ 0 ∷ 0 ∷ 0 ∷ 0 ∷ 1000000 ∷ [])
      ∷ (0 ∷ 787867 ∷ 212133 ∷ 0 ∷ 0 ∷ 0 ∷ [])
      ∷ (0 ∷ 373200 ∷ 212133 ∷ 414667 ∷ 0 ∷ 0 ∷ [])
      ∷ (0 ∷ 319608 ∷ 325271 ∷ 355121 ∷ 0 ∷ 0 ∷ [])
      ∷ (0 ∷ 0 ∷ 0 ∷ 0 ∷ 0 ∷ 0 ∷ [])
      ∷ []
  -- a swap of 2,000,000, above the deal's amount, without the condition: cut; in another currency; for 900 days; both. In another currency for 900 days
  -- with the condition met, and so a guarantee; a swap below the deal's amount, whose cut is rounded; one that is not lawful. A place past the count
  pub guarantees_by_number_lem :
      map (λ r. figures_of r.outcome)
      (take 9 (report_of (deal_with loan [] (swap 2000000 978 1800 1 0 ∷ swap 2000000 840 1800 1 0 ∷ swap 2000000 978 900 1 0 ∷ swap 2000000 840 900 1 0 ∷ swap 2000000 840 900 1 1 ∷ guarantee 840 900 1 ∷ swap 999999 840 900 1 0 ∷ swap 2000000 978 1800 0 0 ∷ []))).guarantees)
      ≡ (0 ∷ 600000 ∷ 0 ∷ 0 ∷ 1400000 ∷ 0 ∷ [])
      ∷ (0 ∷ 552000 ∷ 48000 ∷ 0 ∷ 1400000 ∷ 0 ∷ [])
      ∷ (0 ∷ 284210 ∷ 0 ∷ 315790 ∷ 1400000 ∷ 0 ∷ [])
      ∷ (0 ∷ 261473 ∷ 48000 ∷ 290527 ∷ 1400000 ∷ 0 ∷ [])
      ∷ (0 ∷ 871578 ∷ 160000 ∷ 968422 ∷ 0 ∷ 0 ∷ [])
      ∷ (0 ∷ 871578 ∷ 160000 ∷ 968422 ∷ 0 ∷ 0 ∷ [])
      ∷ (0 ∷ 261473 ∷ 48000 ∷ 290526 ∷ 400000 ∷ 0 ∷ [])
      ∷ (21 ∷ 0 ∷ 0 ∷ 0 ∷ 0 ∷ 2000000 ∷ [])
      ∷ (0 ∷ 0 ∷ 0 ∷ 0 ∷ 0 ∷ 0 ∷ [])
      ∷ []
