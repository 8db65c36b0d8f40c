-- The refusals of a set one after the other, for the code that tests them, and what a set has that none of them meets. Assumes nothing.
use Prim.Native.Nat.{ℕ, ◌+◌, ◌≤◌, ◌<◌}
use mathlib.Core.Path.{◌≡◌, refl, ap, ◌∙◌}
use mathlib.Core.Bool.{true, false}
use mathlib.Core.List.{List, [], ◌∷◌, ◌++◌}
use lib.Dec.{eqb, ltb}
use native.Mathlib.Numerals.{add-one}
use lib.ListN.{length, drop, get_or, drop_of_length-le}
use lib.Seq.{drop-cons}
use borrow.Author.Tests.{leb-true, le-ltb, lt-ltb, ltb-false, not-false as held}
use Rattle.base.specs.Any.{any, any_two}
use Rattle.base.specs.Each.{Each}
use Rattle.base.specs.FirstMet.{NoneMet, Test, ◌when◌, first_met}
use Rattle.base.specs.Sum.{sum_of}
use Rattle.base.proofs.EachElement.{each_then}
use Rattle.base.proofs.Every.{both}
use Rattle.base.proofs.FirstMet.{EachGives, append_met, append_none, first_holds, met_first, none_append, none_met, none_of, nonzero, nonzero_append, not_met}
use Rattle.base.proofs.Range.{bounds}
use Rattle.deal.specs.Assets.{goods_known}
use Rattle.deal.specs.Parties.{counterparty_known}
use Rattle.deal.proofs.Plain.{Between, asset_step, party_steps}
use Rattle.netting.specs.Positions.{amount_of, fields_of_each, position_refusal, position_tests, security_allowed, side_known}
use Rattle.netting.specs.Refusals.{disagree, received_not_eligible, set_refusal, set_tests, tests_over_all}
use Rattle.netting.specs.Terms.{set_terms_refusal, set_terms_tests, table_known}
use Rattle.netting.specs.declared.position.Position.{Position}
use Rattle.netting.specs.declared.terms.SetTerms.{SetTerms}

-- POSITION BY POSITION

position_nonzero : (p : Position) → nonzero (position_tests p) ≡ true
unfolding position_tests
position_nonzero p = refl

module _ (p : Position) (ps : List Position) where
  pub fields_met : eqb (position_refusal p) 0 ≡ false → first_met (fields_of_each (p ∷ ps)) ≡ position_refusal p
  unfolding fields_of_each position_refusal
  fields_met e = append_met (position_tests p) (fields_of_each ps) e

  pub fields_none : position_refusal p ≡ 0 → first_met (fields_of_each (p ∷ ps)) ≡ first_met (fields_of_each ps)
  unfolding fields_of_each position_refusal
  fields_none e = append_none (position_tests p) (fields_of_each ps) (position_nonzero p) e

pub fields_nonzero : (ps : List Position) → nonzero (fields_of_each ps) ≡ true
unfolding fields_of_each
fields_nonzero [] = refl
fields_nonzero (p ∷ ps) = nonzero_append (position_tests p) (fields_of_each ps) (position_nonzero p) (fields_nonzero ps)

-- a loop that has passed those before the ith
module _ (xs : List Position) (i : ℕ) (d : Position) (h : i < length xs) where
  next : drop i xs ≡ get_or xs i d ∷ drop (i + 1) xs
  next = rw (add-one i) (drop-cons xs i d h)

  pub fields_here : eqb (position_refusal (get_or xs i d)) 0 ≡ false → first_met (fields_of_each (drop i xs)) ≡ position_refusal (get_or xs i d)
  fields_here e = ap (λ ps. first_met (fields_of_each ps)) next ∙ fields_met (get_or xs i d) _ e

  pub fields_later : position_refusal (get_or xs i d) ≡ 0 → first_met (fields_of_each (drop i xs)) ≡ first_met (fields_of_each (drop (i + 1) xs))
  fields_later e = ap (λ ps. first_met (fields_of_each ps)) next ∙ fields_none (get_or xs i d) _ e

pub fields_end : (xs : List Position) (i : ℕ) → length xs ≤ i → first_met (fields_of_each (drop i xs)) ≡ 0
unfolding fields_of_each
fields_end xs i h = ap (λ ps. first_met (fields_of_each ps)) (drop_of_length-le xs {i = i} h) ∙ none_met [] tt

each_none : (ps : List Position) → NoneMet (fields_of_each ps) → Each (λ p. NoneMet (position_tests p)) ps
unfolding fields_of_each
each_none [] h = tt
each_none (p ∷ ps) h = let b = none_append (position_tests p) (fields_of_each ps) h in (b.0, each_none ps b.1)

-- none is refused exactly where each is not
pub fields_each : (ps : List Position) → first_met (fields_of_each ps) ≡ 0 → Each (λ p. position_refusal p ≡ 0) ps
unfolding position_refusal
fields_each ps e = each_then (λ p n. none_met (position_tests p) n) ps (each_none ps (none_of (fields_of_each ps) (fields_nonzero ps) e))

pub each_fields : (ps : List Position) → Each (λ p. position_refusal p ≡ 0) ps → first_met (fields_of_each ps) ≡ 0
unfolding fields_of_each
each_fields [] h = none_met [] tt
each_fields (p ∷ ps) h = fields_none p ps h.0 ∙ each_fields ps h.1

-- THE SET

terms_nonzero : (t : SetTerms) → nonzero (set_terms_tests t) ≡ true
unfolding set_terms_tests
terms_nonzero t = refl

module _ (t : SetTerms) (n : ℕ) (ps : List Position) where
  pub terms_refused : eqb (set_terms_refusal t) 0 ≡ false → set_refusal t n ps ≡ set_terms_refusal t
  unfolding set_refusal set_tests set_terms_refusal
  terms_refused e = append_met (set_terms_tests t) _ e

  module _ (e : set_terms_refusal t ≡ 0) where
    behind_terms : set_refusal t n ps ≡ first_met (6 when ltb 32 n ∷ (fields_of_each ps ++ tests_over_all ps))
    unfolding set_refusal set_tests set_terms_refusal
    behind_terms = append_none (set_terms_tests t) _ (terms_nonzero t) e

    pub too_many : 32 < n → set_refusal t n ps ≡ 6
    too_many h = behind_terms ∙ met_first 6 (ltb 32 n) _ (lt-ltb 32 n h)

    module _ (h : n ≤ 32) where
      behind_count : set_refusal t n ps ≡ first_met (fields_of_each ps ++ tests_over_all ps)
      behind_count = behind_terms ∙ not_met 6 (ltb 32 n) _ (le-ltb 32 n h)

      pub position_refused : eqb (first_met (fields_of_each ps)) 0 ≡ false → set_refusal t n ps ≡ first_met (fields_of_each ps)
      position_refused q = behind_count ∙ append_met (fields_of_each ps) _ q

      pub over_all : first_met (fields_of_each ps) ≡ 0 → set_refusal t n ps ≡ first_met (tests_over_all ps)
      over_all q = behind_count ∙ append_none (fields_of_each ps) _ (fields_nonzero ps) q

-- NO 6 BUT THE SET'S OWN

abbrev not_six : ℕ → Type 0
not_six n = eqb n 6 ≡ false

none_six : (ts us : List (Test ℕ)) → EachGives not_six ts → EachGives not_six us → EachGives not_six (ts ++ us)
none_six [] us h k = k
none_six ((n when met) ∷ ts) us h k = (h.0, none_six ts us h.1 k)

fields_not_six : (ps : List Position) → EachGives not_six (fields_of_each ps)
unfolding fields_of_each position_tests
fields_not_six [] = tt
fields_not_six (p ∷ ps) = none_six (position_tests p) (fields_of_each ps) (refl, (refl, (refl, (refl, (refl, (refl, (refl, tt))))))) (fields_not_six ps)

pub terms_six : (t : SetTerms) → eqb (set_terms_refusal t) 6 ≡ false
unfolding set_terms_refusal set_terms_tests
terms_six t = first_holds 0 not_six (set_terms_tests t) (refl, (refl, (refl, (refl, (refl, (refl, (refl, tt))))))) (λ _. refl)

pub fields_six : (ps : List Position) → eqb (first_met (fields_of_each ps)) 6 ≡ false
fields_six ps = first_holds 0 not_six (fields_of_each ps) (fields_not_six ps) (λ _. refl)

pub over_all_six : (ps : List Position) → eqb (first_met (tests_over_all ps)) 6 ≡ false
unfolding tests_over_all
over_all_six ps = first_holds 0 not_six (tests_over_all ps) (refl, (refl, (refl, tt))) (λ _. refl)

-- WHAT IS NOT REFUSED, in plain inequalities

pub record PlainPosition (p : Position) : Type 0 where
  pub side : Between 1 2 p.side
  pub amount : p.amount ≤ 1000000000000
  pub goods : Between 1 9 p.asset.goods
  pub step : p.asset.step ≤ 6
  pub currency : Between 1 999 p.currency
  pub security : security_allowed p ≡ true

plain_none : (p : Position) → NoneMet (position_tests p) → PlainPosition p
unfolding position_tests
plain_none p n =
    let codes = both (side_known p) (goods_known p.asset) (held _ n.1.0) in
    let ranges = both (security_allowed p) _ (held _ n.1.1.1.1.0) in
    record {
      side = bounds 1 2 _ codes.0;
      amount = leb-true _ _ (held _ n.0);
      goods = bounds 1 9 _ codes.1;
      step = asset_step _ (held _ n.1.1.0);
      currency = bounds 1 999 _ (held _ n.1.1.1.0);
      security = ranges.0;
    }

pub plain_position : (p : Position) → position_refusal p ≡ 0 → PlainPosition p
unfolding position_refusal
plain_position p e = plain_none p (none_of (position_tests p) (position_nonzero p) e)

pub plain_positions : (ps : List Position) → first_met (fields_of_each ps) ≡ 0 → Each PlainPosition ps
plain_positions ps e = each_then plain_none ps (each_none ps (none_of (fields_of_each ps) (fields_nonzero ps) e))

pub record PlainSetTerms (t : SetTerms) : Type 0 where
  pub table : Between 2 3 t.table
  pub class : Between 1 4 t.counterparty.class
  pub step : t.counterparty.step ≤ 6
  pub sovereign_step : t.counterparty.sovereign_step ≤ 6
  pub settlement : Between 1 999 t.settlement
  pub interval : Between 1 60 t.interval

pub plain_set_terms : (t : SetTerms) → set_terms_refusal t ≡ 0 → PlainSetTerms t
unfolding set_terms_refusal set_terms_tests
plain_set_terms t e =
    let n = none_of (set_terms_tests t) (terms_nonzero t) e in
    let codes = both (table_known t.table) (counterparty_known t.counterparty) (held _ n.1.0) in
    let steps = party_steps t.counterparty (held _ n.1.1.0) in
    record {
      table = bounds 2 3 _ codes.0;
      class = bounds 1 4 _ codes.1;
      step = steps.0;
      sovereign_step = steps.1;
      settlement = bounds 1 999 _ (held _ n.1.1.1.0);
      interval = bounds 1 60 _ (held _ n.1.1.1.1.0);
    }

-- of the whole set
pub record PlainSet (t : SetTerms) (n : ℕ) (ps : List Position) : Type 0 where
  pub terms : set_terms_refusal t ≡ 0
  pub count : n ≤ 32
  pub fields : first_met (fields_of_each ps) ≡ 0
  pub agree : any_two ps disagree ≡ false
  pub eligible : any ps received_not_eligible ≡ false
  pub amounts : sum_of amount_of ps ≤ 1000000000000

over_all_nonzero : (ps : List Position) → nonzero (tests_over_all ps) ≡ true
unfolding tests_over_all
over_all_nonzero ps = refl

-- exactly where nothing is refused
pub plain_set : (t : SetTerms) (n : ℕ) (ps : List Position) → set_refusal t n ps ≡ 0 → PlainSet t n ps
unfolding set_refusal set_tests tests_over_all set_terms_refusal
plain_set t n ps e =
    let tests = nonzero_append (fields_of_each ps) (tests_over_all ps) (fields_nonzero ps) (over_all_nonzero ps) in
    let all = none_of (set_tests t n ps) (nonzero_append (set_terms_tests t) _ (terms_nonzero t) tests) e in
    let parts = none_append (set_terms_tests t) (6 when ltb 32 n ∷ (fields_of_each ps ++ tests_over_all ps)) all in
    let later = none_append (fields_of_each ps) (tests_over_all ps) parts.1.1 in
    record {
      terms = none_met (set_terms_tests t) parts.0;
      count = ltb-false 32 n parts.1.0;
      fields = none_met (fields_of_each ps) later.0;
      agree = later.1.0;
      eligible = later.1.1.0;
      amounts = ltb-false 1000000000000 (sum_of amount_of ps) later.1.1.1.0;
    }

pub set_plain : (t : SetTerms) (n : ℕ) (ps : List Position) → PlainSet t n ps → set_refusal t n ps ≡ 0
unfolding tests_over_all
set_plain t n ps s =
    over_all t n ps s.terms s.count s.fields
    ∙ none_met (tests_over_all ps) (s.agree, (s.eligible, (le-ltb 1000000000000 (sum_of amount_of ps) s.amounts, tt)))
