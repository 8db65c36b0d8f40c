-- Where the value went: the theorems that answer claims/specs/Losses. Assumes nothing.
use Rattle.std.proofs.Common.{if◌then◌else◌}
use Prim.Native.Nat.{ℕ, ◌+◌, ◌*◌, ◌/◌, ◌≤◌, min}
use mathlib.Core.Path.{◌≡◌, refl, sym, ap, ◌∙◌}
use mathlib.Core.Bool.{false}
use mathlib.Core.List.{[], ◌∷◌}
use native.Mathlib.Omega.{arith}
use lib.Dec.{eqb}
use Rattle.tables.specs.Table.{Table}
use Rattle.scaling.specs.Period.{guarantee_period}
use Rattle.valuation.specs.Haircuts.{scaled_currency_haircut}
use Rattle.valuation.specs.Protection.{recognised, volatility_adjusted_value}
use Rattle.valuation.specs.Valuation.{valuation_of}
use Rattle.valuation.proofs.Values.{adjusted_value_le, maturity_adjusted_le}
use Rattle.valuation.proofs.Valuations.{value_and_losses}
use Rattle.deal.specs.Instruments.{swap_without_restructuring}
use Rattle.deal.specs.declared.terms.Terms.{Terms}
use Rattle.deal.specs.declared.collateral.Collateral.{Collateral}
use Rattle.deal.specs.declared.guarantee.Guarantee.{Guarantee}
use Rattle.deal.specs.declared.deal.Deal.{Deal}
use Rattle.relief.specs.ByNumber.{collateral_by_number, guarantees_by_number, place_with}
use Rattle.relief.specs.Collateral.{collateral_outcome, collateral_valuation, combined_haircut_of}
use Rattle.relief.specs.Guarantees.{guarantee_outcome, guarantee_valuation, hedged_amount}
use Rattle.relief.specs.Report.{report_refusal}
use Rattle.relief.proofs.AddsUp.{collateral_accounted, collateral_place_adds_up, guarantee_place_adds_up, guarantees_accounted}
use Rattle.relief.proofs.ByNumber.{collateral_by_number_lem, guarantees_by_number_lem}
use Rattle.relief.proofs.Computed.{computed}
use Rattle.relief.proofs.Hedged.{hedged_cut, hedged_le, hedged_whole}
use Rattle.relief_laws.proofs.Values.{maturity_adjusted_matched}
use Rattle.book.specs.Answers.{refused_at, reported}
use Rattle.earlier.specs.BeforeLosses.{ReportBefore, report_before}
use Rattle.earlier.proofs.BeforeLosses.{report_stays}
use Rattle.claims.specs.Losses.{AddsUp, ByStep, Losses}

-- a book's answer to a deal is made of the report of before
answer_stays : (opening : ℕ) (d : Deal) →
    reported opening d ≡ (if eqb (report_refusal d) 0 then 0 ∷ (report_before d).exposure ∷ (report_before d).rwa ∷ [] else refused_at (report_refusal d) opening)
unfolding reported
answer_stays opening d =
    ap (λ (r : ReportBefore). if eqb (report_refusal d) 0 then 0 ∷ r.exposure ∷ r.rwa ∷ [] else refused_at (report_refusal d) opening) (report_stays d)

-- each step's loss

by_steps : (amount uncut haircut cover term : ℕ) → uncut ≤ amount → ByStep amount uncut haircut cover term (valuation_of amount uncut haircut cover term)
unfolding valuation_of recognised
by_steps amount uncut haircut cover term h =
    let adjusted = volatility_adjusted_value uncut haircut in
    let kept = adjusted_value_le uncut haircut in
    let left = maturity_adjusted_le adjusted cover term in
    record { by_cut = omega arith; by_haircut = omega (arith, kept); by_maturity = omega (arith, left); value = refl }

collateral_by_step : (table : Table) (t : Terms) (c : Collateral) →
    ByStep c.amount c.amount (combined_haircut_of table t c) c.residual t.residual (collateral_valuation table t c)
unfolding collateral_valuation
collateral_by_step table t c = by_steps c.amount c.amount _ c.residual t.residual (omega arith)

guarantee_by_step : (t : Terms) (g : Guarantee) →
    ByStep g.amount (hedged_amount t g) (scaled_currency_haircut g.currency t.currency (guarantee_period t.interval)) g.residual t.residual (guarantee_valuation t g)
unfolding guarantee_valuation
guarantee_by_step t g = by_steps g.amount (hedged_amount t g) _ g.residual t.residual (hedged_le t g)

none_cut : (t : Terms) (g : Guarantee) → eqb g.instrument swap_without_restructuring ≡ false → (guarantee_valuation t g).cut_loss ≡ 0
none_cut t g e = omega (arith, (guarantee_by_step t g).by_cut, hedged_whole t g e)

is_cut : (t : Terms) (g : Guarantee) → g.instrument ≡ swap_without_restructuring → (guarantee_valuation t g).cut_loss + min g.amount t.amount * 60 / 100 ≡ g.amount
is_cut t g e = ap (λ x. (guarantee_valuation t g).cut_loss + x) (sym (hedged_cut t g e)) ∙ (guarantee_by_step t g).by_cut

-- cover as long as the deal

matched : (amount uncut haircut cover term : ℕ) → term ≤ cover → (valuation_of amount uncut haircut cover term).maturity_loss ≡ 0
unfolding valuation_of recognised
matched amount uncut haircut cover term h = omega (arith, maturity_adjusted_matched (volatility_adjusted_value uncut haircut) cover term h)

collateral_matched : (table : Table) (t : Terms) (c : Collateral) → t.residual ≤ c.residual → (collateral_valuation table t c).maturity_loss ≡ 0
unfolding collateral_valuation
collateral_matched table t c h = matched c.amount c.amount _ c.residual t.residual h

guarantee_matched : (t : Terms) (g : Guarantee) → t.residual ≤ g.residual → (guarantee_valuation t g).maturity_loss ≡ 0
unfolding guarantee_valuation
guarantee_matched t g h = matched g.amount (hedged_amount t g) _ g.residual t.residual h

-- each item, and each place

module _ (table : Table) (t : Terms) where
  collateral_adds : (c : Collateral) → AddsUp (collateral_outcome table t c) c.amount
  unfolding value_and_losses
  collateral_adds c = collateral_place_adds_up table t c

  guarantee_adds : (g : Guarantee) → AddsUp (guarantee_outcome table t g) g.amount
  unfolding value_and_losses
  guarantee_adds g = guarantee_place_adds_up table t g

pub losses : Losses
unfolding computed value_and_losses collateral_by_number guarantees_by_number place_with
losses = record {
  report_same = report_stays;
  answer_same = answer_stays;
  collateral_places_lem = collateral_accounted;
  guarantee_places_lem = guarantees_accounted;
  collateral_adds_up = collateral_adds;
  guarantee_adds_up = guarantee_adds;
  collateral_reported = collateral_by_number_lem;
  guarantees_reported = guarantees_by_number_lem;
  collateral_steps = collateral_by_step;
  guarantee_steps = guarantee_by_step;
  no_cut = none_cut;
  cut = is_cut;
  collateral_matched = collateral_matched;
  guarantee_matched = guarantee_matched;
  collateral_by_number_lem = refl;
  guarantees_by_number_lem = refl;
}
