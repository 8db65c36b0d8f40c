-- One unmismatched cash item in the deal's currency, split in two: the same figures, and accepted while both fit. 02: L7. Assumes nothing.
use Rattle.std.proofs.Common.{if◌then◌else◌}
use Prim.Native.Nat.{ℕ, suc, ◌+◌, ◌≤◌, ◌<◌}
use mathlib.Core.Path.{◌≡◌, refl, sym, ◌∙◌}
use mathlib.Core.Bool.{Bool, true, false}
use mathlib.Core.List.{List}
use native.Mathlib.Omega.{arith}
use borrow.Author.Tests.{eq-eqb, eqb-true, le-leb, leb-true}
use lib.Dec.{eqb}
use lib.ListN.{length}
use Rattle.base.specs.Reordered.{Inserted}
use Rattle.base.proofs.Choice.{either, if_false, if_true}
use Rattle.base.proofs.FirstMet.{none_exactly, none_met}
use Rattle.base.proofs.Reordered.{all_inserted, inserted_all, length_inserted, sum_inserted}
use Rattle.base.proofs.Tests.{not_false, told_not_true}
use Rattle.tables.specs.Goods.{cash}
use Rattle.tables.specs.Haircuts.{currency_haircut, haircut}
use Rattle.tables.specs.Table.{Table, table_of}
use Rattle.tables.specs.Version2023.{edition_2023, haircut_2023}
use Rattle.scaling.specs.Period.{holding_period}
use Rattle.scaling.specs.Scaling.{scaled}
use Rattle.scaling.proofs.Scaled.{scaled_le}
use Rattle.valuation.specs.Haircuts.{combined_haircut, scaled_currency_haircut}
use Rattle.valuation.specs.Protection.{is_mismatch, keep_share, maturity_adjusted, recognised, volatility_adjusted_value}
use Rattle.valuation.specs.Valuation.{valuation_of}
use Rattle.valuation.specs.declared.protection.Valuation.{Valuation}
use Rattle.deal.specs.Collateral.{collateral_refusal, collateral_tests}
use Rattle.deal.specs.Editions.{table_for}
use Rattle.deal.specs.Lists.{list_limit}
use Rattle.deal.specs.Ranges.{amount_allowed, amount_limit}
use Rattle.deal.specs.Records.{accepted}
use Rattle.deal.specs.Views.{View, accepted_view, record_of, view_of}
use Rattle.deal.specs.declared.terms.Terms.{Terms}
use Rattle.deal.specs.declared.collateral.Collateral.{Collateral}
use Rattle.deal.specs.declared.guarantee.Guarantee.{Guarantee}
use Rattle.deal.specs.declared.deal.Deal.{Deal}
use Rattle.deal_laws.proofs.Exact.{accepted_fits}
use Rattle.deal_laws.proofs.Views.{collateral_fits, fits_view, view_fits}
use Rattle.relief.specs.Collateral.{collateral_ground, collateral_grounds, collateral_outcome, collateral_valuation, combined_haircut_of}
use Rattle.relief.specs.Exposure.{collateral_total, exposure_after, risk_weighted_amount_of}
use Rattle.relief.specs.Grounds.{ground_with}
use Rattle.relief.specs.Outcomes.{outcome_for, outcome_valuation, outcome_value}
use Rattle.relief.specs.declared.outcome.Outcome.TheVariants.{LeftOut, Valued}
use Rattle.entry_order.specs.SameItems.{SameFigures}
use Rattle.entry_order.specs.Split.{MatchedCash, Split, SplitInTwo, with_amount}
use Rattle.entry_order.proofs.Order.{figures_by_views}

-- ---- such an item counts in full
-- cash has no haircut under the tables of any edition
cash_free : (t : Terms) (goods step life : ℕ) → goods ≡ cash → (table_for t).haircut goods step life ≡ 0
unfolding table_for table_of haircut haircut_2023
cash_free t goods step life e =
    either (λ (table : Table). table.haircut goods step life ≡ 0) (eqb t.edition edition_2023)
    (λ k. if_true _ _ _ (eq-eqb _ _ e))
    (λ k. if_true _ _ _ (eq-eqb _ _ e))

no_haircut : (t : Terms) (c : Collateral) → MatchedCash t c → combined_haircut_of (table_for t) t c ≡ 0
unfolding combined_haircut_of combined_haircut scaled_currency_haircut
no_haircut t c m =
    let n = holding_period t.kind t.interval in
    let same : (if eqb c.currency t.currency then 0 else scaled currency_haircut n) ≡ 0 = if_true _ _ _ (eq-eqb _ _ m.currency) in
    rw (cash_free t c.asset.goods c.asset.step c.asset.life m.goods) (omega (arith, scaled_le 0 n {b = 0} (omega arith), same))

whole : (amount cover term : ℕ) → is_mismatch cover term ≡ false → recognised amount 0 cover term ≡ amount
unfolding recognised maturity_adjusted volatility_adjusted_value keep_share
whole amount cover term h = if_false _ _ _ h ∙ omega arith

counts_in_full : (t : Terms) (c : Collateral) → MatchedCash t c → (collateral_valuation (table_for t) t c).value ≡ c.amount
unfolding collateral_valuation valuation_of
counts_in_full t c m = rw (no_haircut t c m) (whole c.amount c.residual t.residual m.matched)

-- ---- and so do its parts, or all are left out
parts_add : (ground a b c : ℕ) (u v w : Valuation) → u.value + v.value ≡ w.value →
    outcome_value (outcome_for ground a u) + outcome_value (outcome_for ground b v) ≡ outcome_value (outcome_for ground c w)
unfolding outcome_for outcome_valuation
parts_add ground a b c u v w e = go (eqb ground 0)
  where
    go : (t : Bool) →
        outcome_value (if t then Valued u else LeftOut (ground_with ground) a) + outcome_value (if t then Valued v else LeftOut (ground_with ground) b)
        ≡ outcome_value (if t then Valued w else LeftOut (ground_with ground) c)
    go true = e
    go false = refl

module _ (t : Terms) (c : Collateral) (m : MatchedCash t c) (first second : ℕ) (e : first + second ≡ c.amount) where
  abbrev part : ℕ → Collateral
  part amount = with_amount amount c

  also_cash : (amount : ℕ) → MatchedCash t (part amount)
  also_cash amount = record { goods = m.goods; currency = m.currency; matched = m.matched }

  abbrev value_of : Collateral → ℕ
  value_of x = outcome_value (collateral_outcome (table_for t) t x)

  values_add : value_of (part first) + value_of (part second) ≡ value_of c
  unfolding collateral_outcome collateral_ground collateral_grounds
  values_add =
      parts_add (collateral_ground (table_for t) t c) first second c.amount
      (collateral_valuation (table_for t) t (part first)) (collateral_valuation (table_for t) t (part second)) (collateral_valuation (table_for t) t c)
      (omega (
        arith,
        e,
        counts_in_full t (part first) (also_cash first),
        counts_in_full t (part second) (also_cash second),
        counts_in_full t c m,
      ))

-- a part's fields are taken where the item's are
pub smaller_fits : (amount : ℕ) (c : Collateral) → amount ≤ c.amount → collateral_fits c ≡ true → collateral_fits (with_amount amount c) ≡ true
unfolding collateral_refusal collateral_tests
smaller_fits amount c h e =
    let n = none_exactly (collateral_tests c) refl (eqb-true _ 0 e) in
    let allowed = leb-true c.amount amount_limit (told_not_true (amount_allowed c.amount) (amount_allowed c.amount) refl n.0) in
    eq-eqb _ 0 (none_met (collateral_tests (with_amount amount c)) (not_false _ (le-leb amount amount_limit (omega arith)), n.1))

-- ---- a deal
module _ (v v' : View) (split : SplitInTwo v v') where
  abbrev s : Split v.terms v.collateral v'.collateral
  s = split.collateral

  abbrev table : Table
  table = table_for v.terms

  total_split : collateral_total table v.terms v.collateral ≡ collateral_total table v.terms v'.collateral
  unfolding collateral_total
  total_split =
      let f : Collateral → ℕ = λ c. outcome_value (collateral_outcome table v.terms c) in
      omega (
        arith,
        sum_inserted f s.item_there,
        sum_inserted f s.first_there,
        sum_inserted f s.second_there,
        values_add v.terms s.item s.is_cash s.first s.second s.adds_up,
      )

  pub exposure_split : exposure_after table v ≡ exposure_after table v'
  unfolding exposure_after
  exposure_split = rw (sym split.terms, total_split) refl

  pub amount_split : risk_weighted_amount_of table v ≡ risk_weighted_amount_of table v'
  unfolding risk_weighted_amount_of
  amount_split = rw (exposure_split, split.terms, split.guarantees) refl

-- ---- "while both fit": accepted with both parts, of any item, where there is a place, and not where there is none
module _ (t : Terms) (gs : List Guarantee) (c : Collateral) (first second : ℕ) (e : first + second ≡ c.amount) {others some cs cs' : List Collateral}
    (i : Inserted c others cs) (j : Inserted (with_amount first c) others some) (k : Inserted (with_amount second c) some cs') where
  abbrev view : List Collateral → View
  view items = record { terms = t; collateral = items; guarantees = gs }

  one_more : length cs' ≡ suc (length cs)
  one_more = omega (arith, length_inserted i, length_inserted j, length_inserted k)

  pub accepted_split : accepted_view (view cs) ≡ true → length cs < list_limit → accepted_view (view cs') ≡ true
  accepted_split a room =
      let f = view_fits (view cs) a in
      let out = inserted_all collateral_fits i f.collateral in
      let one = all_inserted collateral_fits j (smaller_fits first c (omega (arith, e)) out.0) out.1 in
      fits_view (view cs') (record {
        terms = f.terms;
        collateral_length = omega (arith, room, one_more);
        collateral = all_inserted collateral_fits k (smaller_fits second c (omega (arith, e)) out.0) one;
        guarantee_length = f.guarantee_length;
        guarantees = f.guarantees;
      })

  pub no_place_left : length cs ≡ list_limit → accepted (record_of (view cs')) ≡ false
  no_place_left full = go (accepted (record_of (view cs'))) refl
    where
      go : (b : Bool) → accepted (record_of (view cs')) ≡ b → accepted (record_of (view cs')) ≡ false
      go true q = let most : length cs' ≤ list_limit = (accepted_fits (record_of (view cs')) q).collateral_count in absurd (omega (arith, full, one_more, most))
      go false q = q

-- THE LAW: of two accepted records
pub split_figures : (d d' : Deal) → accepted d ≡ true → accepted d' ≡ true → SplitInTwo (view_of d) (view_of d') → SameFigures d d'
split_figures d d' a a' split =
    figures_by_views d d' a a' split.terms (exposure_split (view_of d) (view_of d') split) (amount_split (view_of d) (view_of d') split)
