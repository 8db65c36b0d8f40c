-- What is not refused, in plain inequalities: for sums and products to fit, and for the laws of the tables. Assumes nothing.
use Rattle.std.proofs.Common.{if◌then◌else◌}
use Prim.Native.Nat.{ℕ, ◌≤◌}
use mathlib.Core.Path.{◌≡◌, refl}
use mathlib.Core.Bool.{Bool, true, false, ◌&&◌, ◌||◌}
use native.Mathlib.Omega.{arith}
use lib.Dec.{leb, eqb}
use borrow.Author.Tests.{leb-true, eqb-true, not-false as held}
use Rattle.base.proofs.Every.{both}
use Rattle.base.proofs.FirstMet.{none_exactly}
use Rattle.base.proofs.Range.{bounds}
use Rattle.deal.specs.Ranges.{days_allowed, days_limit, interval_allowed, condition_allowed}
use Rattle.deal.specs.Parties.{counterparty_known, party_step_allowed, party_steps_allowed, sovereign_step_allowed}
use Rattle.deal.specs.Assets.{asset_step_allowed, goods_known, is_debt}
use Rattle.deal.specs.Terms.{kind_known, terms_tests, terms_refusal}
use Rattle.deal.specs.Collateral.{collateral_tests, collateral_refusal, collateral_list_allowed}
use Rattle.deal.specs.Guarantees.{guarantee_tests, guarantee_refusal, guarantee_list_allowed}
use Rattle.deal.proofs.Lists.{count_fits}
use Rattle.deal.specs.declared.asset.Asset.{Asset}
use Rattle.deal.specs.declared.party.Party.{Party}
use Rattle.deal.specs.declared.terms.Terms.{Terms}
use Rattle.deal.specs.declared.collateral.Collateral.{Collateral}
use Rattle.deal.specs.declared.collateral.CollateralList.{CollateralList}
use Rattle.deal.specs.declared.guarantee.Guarantee.{Guarantee}
use Rattle.deal.specs.declared.guarantee.GuaranteeList.{GuaranteeList}

-- from first to last
abbrev pub Between : ℕ → ℕ → ℕ → Type 0
Between first last x = (first ≤ x) × (x ≤ last)

pub record PlainTerms (t : Terms) : Type 0 where
  pub amount : t.amount ≤ 1000000000000
  pub class : Between 1 4 t.counterparty.class
  pub step : t.counterparty.step ≤ 6
  pub sovereign_step : t.counterparty.sovereign_step ≤ 6
  pub currency : Between 1 999 t.currency
  pub kind : Between 1 3 t.kind
  pub interval : Between 1 250 t.interval
  pub residual : Between 1 days_limit t.residual
  pub lent_goods : Between 1 9 t.lent.goods
  pub lent_step : t.lent.step ≤ 6
  pub edition : Between 1 3 t.edition

pub record PlainCollateral (c : Collateral) : Type 0 where
  pub amount : c.amount ≤ 1000000000000
  pub goods : Between 1 9 c.asset.goods
  pub step : c.asset.step ≤ 6
  pub currency : Between 1 999 c.currency
  pub residual : Between 1 days_limit c.residual
  pub original : Between 1 days_limit c.original
  pub terms : c.residual ≤ c.original
  pub lawful : c.lawful ≤ 1
  pub unrelated : c.unrelated ≤ 1
  pub not_in_rating : c.not_in_rating ≤ 1
  pub listed : c.listed ≤ 1

pub record PlainGuarantee (g : Guarantee) : Type 0 where
  pub amount : g.amount ≤ 1000000000000
  pub class : Between 1 3 g.provider.class
  pub step : g.provider.step ≤ 6
  pub sovereign_step : g.provider.sovereign_step ≤ 6
  pub currency : Between 1 999 g.currency
  pub residual : Between 1 days_limit g.residual
  pub original : Between 1 days_limit g.original
  pub terms : g.residual ≤ g.original
  pub lawful : g.lawful ≤ 1
  pub direct : g.direct ≤ 1
  pub not_in_rating : g.not_in_rating ≤ 1
  pub instrument : g.instrument ≤ 2

-- a step is 0 or at most 6, whatever the class or type
party_step : (p : Party) → party_step_allowed p ≡ true → p.step ≤ 6
unfolding party_step_allowed
party_step p e = go (eqb p.class 4) e
  where
    go : (b : Bool) → (if b then eqb p.step 0 else leb p.step 6) ≡ true → p.step ≤ 6
    go true h = omega (arith, eqb-true p.step 0 h)
    go false h = leb-true p.step 6 h

sovereign_step_lem : (p : Party) → sovereign_step_allowed p ≡ true → p.sovereign_step ≤ 6
unfolding sovereign_step_allowed
sovereign_step_lem p e = go (eqb p.class 1 || eqb p.class 4) e
  where
    go : (b : Bool) → (if b then eqb p.sovereign_step 0 else leb p.sovereign_step 6) ≡ true → p.sovereign_step ≤ 6
    go true h = omega (arith, eqb-true p.sovereign_step 0 h)
    go false h = leb-true p.sovereign_step 6 h

-- a party's own step, and its sovereign's
pub party_steps : (p : Party) → party_steps_allowed p ≡ true → (p.step ≤ 6) × (p.sovereign_step ≤ 6)
unfolding party_steps_allowed
party_steps p e = let b = both (party_step_allowed p) _ e in (party_step p b.0, sovereign_step_lem p b.1)

pub asset_step : (a : Asset) → asset_step_allowed a ≡ true → a.step ≤ 6
unfolding asset_step_allowed
asset_step a e = go (is_debt a.goods) e
  where
    go : (b : Bool) → (if b then leb a.step 6 else eqb a.step 0) ≡ true → a.step ≤ 6
    go true h = leb-true a.step 6 h
    go false h = omega (arith, eqb-true a.step 0 h)

pub plain_terms : (t : Terms) → terms_refusal t ≡ 0 → PlainTerms t
unfolding terms_refusal terms_tests
plain_terms t e =
    let n = none_exactly (terms_tests t) refl e in
    let all = both (counterparty_known t.counterparty && kind_known t.kind && goods_known t.lent) _ (held _ n.1.0) in
    let known = both (counterparty_known t.counterparty && kind_known t.kind) _ all.0 in
    let codes = both (counterparty_known t.counterparty) _ known.0 in
    let steps = both (party_steps_allowed t.counterparty) _ (held _ n.1.1.0) in
    let party = party_steps _ steps.0 in
    let ranges = both (interval_allowed t.interval && days_allowed days_limit t.residual) _ (held _ n.1.1.1.1.0) in
    let days = both (interval_allowed t.interval) _ ranges.0 in
    record {
      amount = leb-true _ _ (held _ n.0);
      class = bounds 1 4 _ codes.0;
      step = party.0;
      sovereign_step = party.1;
      currency = bounds 1 999 _ (held _ n.1.1.1.0);
      kind = bounds 1 3 _ codes.1;
      interval = bounds 1 250 _ days.0;
      residual = bounds 1 days_limit _ days.1;
      lent_goods = bounds 1 9 _ known.1;
      lent_step = asset_step _ steps.1;
      edition = bounds 1 3 _ all.1;
    }

pub plain_collateral : (c : Collateral) → collateral_refusal c ≡ 0 → PlainCollateral c
unfolding collateral_refusal collateral_tests
plain_collateral c e =
    let n = none_exactly (collateral_tests c) refl e in
    let ranges = both (days_allowed days_limit c.residual && days_allowed days_limit c.original) _ (held _ n.1.1.1.1.0) in
    let days = both (days_allowed days_limit c.residual) _ ranges.0 in
    let eighth = held _ n.1.1.1.1.1.1.0 in
    let four = both (condition_allowed c.lawful && condition_allowed c.unrelated && condition_allowed c.not_in_rating) _ eighth in
    let three = both (condition_allowed c.lawful && condition_allowed c.unrelated) _ four.0 in
    let two = both (condition_allowed c.lawful) _ three.0 in
    record {
      amount = leb-true _ _ (held _ n.0);
      goods = bounds 1 9 _ (held _ n.1.0);
      step = asset_step _ (held _ n.1.1.0);
      currency = bounds 1 999 _ (held _ n.1.1.1.0);
      residual = bounds 1 days_limit _ days.0;
      original = bounds 1 days_limit _ days.1;
      terms = leb-true _ _ (held _ n.1.1.1.1.1.0);
      lawful = leb-true _ 1 two.0;
      unrelated = leb-true _ 1 two.1;
      not_in_rating = leb-true _ 1 three.1;
      listed = leb-true _ 1 four.1;
    }

pub plain_guarantee : (g : Guarantee) → guarantee_refusal g ≡ 0 → PlainGuarantee g
unfolding guarantee_refusal guarantee_tests
plain_guarantee g e =
    let n = none_exactly (guarantee_tests g) refl e in
    let days = both (days_allowed days_limit g.residual) _ (held _ n.1.1.1.1.0) in
    let eighth = held _ n.1.1.1.1.1.1.0 in
    let four = both (condition_allowed g.lawful && condition_allowed g.direct && condition_allowed g.not_in_rating) _ eighth in
    let three = both (condition_allowed g.lawful && condition_allowed g.direct) _ four.0 in
    let two = both (condition_allowed g.lawful) _ three.0 in
    let party = party_steps _ (held _ n.1.1.0) in
    record {
      amount = leb-true _ _ (held _ n.0);
      class = bounds 1 3 _ (held _ n.1.0);
      step = party.0;
      sovereign_step = party.1;
      currency = bounds 1 999 _ (held _ n.1.1.1.0);
      residual = bounds 1 days_limit _ days.0;
      original = bounds 1 days_limit _ days.1;
      terms = leb-true _ _ (held _ n.1.1.1.1.1.0);
      lawful = leb-true _ 1 two.0;
      direct = leb-true _ 1 two.1;
      not_in_rating = leb-true _ 1 three.1;
      instrument = leb-true _ 2 four.1;
    }

-- the count of a list that is allowed
module _ (l : CollateralList) (e : collateral_list_allowed l ≡ true) where
  pub collateral_count : l.count ≤ 16
  unfolding collateral_list_allowed
  collateral_count = count_fits collateral_refusal l.items l.count e

module _ (l : GuaranteeList) (e : guarantee_list_allowed l ≡ true) where
  pub guarantee_count : l.count ≤ 16
  unfolding guarantee_list_allowed
  guarantee_count = count_fits guarantee_refusal l.items l.count e
