-- A netting set is answered by the formula of 22.72 or refused where it is due, and betterments never raise its weighted amount. Assumes nothing.
use Rattle.std.proofs.Common.{if◌then◌else◌}
use Prim.Native.Nat.{ℕ, ◌+◌, ◌*◌, ◌≤◌, ◌<◌}
use mathlib.Core.Path.{◌≡◌, refl, sym, ap, subst, ◌∙◌}
use mathlib.Core.Bool.{Bool, true, false, not, ◌&&◌}
use mathlib.Core.List.{List, [], ◌∷◌, ◌++◌}
use native.Mathlib.Nat.{le_of_suc-le-suc}
use native.Mathlib.Decide.{ℕ_discrete}
use native.Mathlib.Omega.{arith}
use lib.Dec.{eqb}
use lib.ListN.{get_or, length}
use borrow.Author.Tests.{eq-eqb, eqb-true, le-ltb, lt-ltb, ne_eqb}
use Rattle.base.specs.Any.{any, any_two}
use Rattle.base.specs.FirstMet.{ExactFor, Test, ◌when◌, first_met, first_or}
use Rattle.base.specs.Rounding.{round_up}
use Rattle.base.specs.Sum.{sum_of}
use Rattle.base.proofs.Choice.{either, if_true, if_false, never}
use Rattle.base.proofs.Every.{both}
use Rattle.base.proofs.FirstMet.{exact, met_first, none_met, not_met}
use Rattle.base.proofs.Tests.{and_true}
use Rattle.tables.specs.Eligibility.{eligible}
use Rattle.tables.specs.Haircuts.{lent_haircut}
use Rattle.tables.specs.Table.{Table, table_2019, table_2023, table_of}
use Rattle.tables.specs.Version2023.{lent_haircut_2023}
use Rattle.scaling.specs.Scaling.{scaled}
use Rattle.scaling.proofs.Scaled.{scaled_is}
use Rattle.valuation.specs.Exposure.{risk_weighted_amount}
use Rattle.deal.specs.Assets.{asset_step_allowed, life_allowed}
use Rattle.deal.specs.Parties.{party_step_allowed, party_steps_allowed, sovereign_step_allowed}
use Rattle.netting.specs.Exposure.{exposure_after_netting}
use Rattle.netting.specs.Fields.{zero_position}
use Rattle.netting.specs.Haircuts.{currency_haircut_over, security_haircut, set_period}
use Rattle.netting.specs.Positions.{is_lent, position_refusal, position_tests, security_allowed}
use Rattle.netting.specs.Refusals.{disagree, received_not_eligible, same_goods, tests_over_all}
use Rattle.netting.specs.Reply.{set_reply, set_weight, weighted_amount}
use Rattle.netting.specs.Terms.{set_terms_refusal, set_terms_tests}
use Rattle.netting.specs.declared.position.Position.{Position}
use Rattle.netting.specs.declared.set.NettingSet.{NettingSet}
use Rattle.netting.specs.declared.terms.SetTerms.{SetTerms}
use Rattle.netting.proofs.Computed.{computed}
use Rattle.netting.proofs.HaircutBounds.{together_low}
use Rattle.netting.proofs.Refusing.{PlainPosition, PlainSet, each_fields, fields_each, over_all, plain_position, plain_positions, plain_set, position_refused, terms_refused, too_many}
use Rattle.netting.proofs.Replies.{accepted_reply, refused_reply_lem, same_figures}
use Rattle.netting_laws.specs.Betterments.{BetterSet, SetBetterments, accepted_set, accepted_set_view, lent_alone}
use Rattle.netting_laws.specs.ByNumber.{haircut_for}
use Rattle.netting_laws.proofs.ByPlace.{any_at, each_at_place, each_from, first_refused, no_two_at, none_at, two_at}
use Rattle.netting_laws.proofs.InNumbers.{in_numbers, lent_by_side}
use Rattle.netting_laws.proofs.Numbered.{first_haircut, security_low}
use Rattle.netting_laws.proofs.Theorem.{accepted_none, exposure_of, lent_alone_accepted, lent_alone_exposure, refusal_of, set_never_raised, set_refused_or_made, set_still_accepted, weighted_of}
use Rattle.claims.specs.NettingSets.{AllAlike, AllEligible, Alike, FieldsPass, NettingSets, all_lent, by_formula, due, haircut_of, its, position_field_tests, set_field_tests, weight_in}

-- THE REPLY

plain : (s : NettingSet) → due s ≡ 0 → PlainSet s.terms s.count (its s)
plain s e = plain_set s.terms s.count (its s) e

formula : (s : NettingSet) → due s ≡ 0 → exposure_after_netting s.terms (its s) ≡ by_formula s.terms (its s)
unfolding security_haircut currency_haircut_over set_period
formula s e = in_numbers s.terms s.count (its s) (plain s e)

taken : (s : NettingSet) → due s ≡ 0 →
    set_reply s ≡ record { refusal = 0; exposure = by_formula s.terms (its s); rwa = round_up (by_formula s.terms (its s) * weight_in s.terms) 100 }
unfolding set_reply weighted_amount risk_weighted_amount set_weight
taken s e =
    accepted_reply s.terms s.count (its s) e
    ∙ same_figures (formula s e) (ap (λ x. round_up (x * weight_in s.terms) 100) (formula s e))

refused : (s : NettingSet) → eqb (due s) 0 ≡ false → set_reply s ≡ record { refusal = due s; exposure = 0; rwa = 0 }
unfolding set_reply
refused s e = refused_reply_lem s.terms s.count (its s) e

any_entry : (s : NettingSet) → due s ≡ 0 → (i : ℕ) → i < length (its s) → ((get_or (its s) i zero_position).security ≡ 0 → ⊥) →
    haircut_for (haircut_of s.terms) (its s) (get_or (its s) i zero_position).security ≡ haircut_of s.terms (get_or (its s) i zero_position)
unfolding security_haircut set_period
any_entry s e i h some = sym (each_at_place zero_position _ (its s) (first_haircut s.terms (its s) (plain s e).agree) i h some)

numbers : (s : NettingSet) → due s ≡ 0 → (i : ℕ) → i < length (its s) →
    ((get_or (its s) i zero_position).security ≤ 999) × ((1 ≤ (get_or (its s) i zero_position).currency) × ((get_or (its s) i zero_position).currency ≤ 999))
numbers s e i h =
    let p = each_at_place zero_position PlainPosition (its s) (plain_positions (its s) (plain s e).fields) i h in
    (le_of_suc-le-suc (security_low (get_or (its s) i zero_position) p), p.currency)

-- REFUSALS

-- tests that are never met do not count
terms_trimmed : (a b c d : Bool) →
    first_met (1 when false ∷ 2 when a ∷ 3 when b ∷ 4 when c ∷ 5 when d ∷ 7 when false ∷ 8 when false ∷ []) ≡ first_met (2 when a ∷ 3 when b ∷ 4 when c ∷ 5 when d ∷ [])
unfolding first_or
terms_trimmed true b c d = refl
terms_trimmed false true c d = refl
terms_trimmed false false true d = refl
terms_trimmed false false false true = refl
terms_trimmed false false false false = refl

position_trimmed : (a b c d e : Bool) →
    first_met (1 when a ∷ 2 when b ∷ 3 when c ∷ 4 when d ∷ 5 when e ∷ 7 when false ∷ 8 when false ∷ []) ≡ first_met (1 when a ∷ 2 when b ∷ 3 when c ∷ 4 when d ∷ 5 when e ∷ [])
unfolding first_or
position_trimmed true b c d e = refl
position_trimmed false true c d e = refl
position_trimmed false false true d e = refl
position_trimmed false false false true e = refl
position_trimmed false false false false true = refl
position_trimmed false false false false false = refl

exact_for : (n : ℕ) (ts : List (Test ℕ)) → n ≡ first_met ts → ExactFor (first_met ts) ts → ExactFor n ts
exact_for n ts e x = rw e x

-- the first of the positions that is refused
position_first : (s : NettingSet) → set_terms_refusal s.terms ≡ 0 → s.count ≤ 32 → (i : ℕ) → i < length (its s) →
    ((j : ℕ) → j < i → position_refusal (get_or (its s) j zero_position) ≡ 0) → eqb (position_refusal (get_or (its s) i zero_position)) 0 ≡ false →
    due s ≡ position_refusal (get_or (its s) i zero_position)
position_first s t c i h before here =
    let first = first_refused (its s) i h before here in
    position_refused s.terms s.count (its s) t c (ap (λ n. eqb n 0) first ∙ here) ∙ first

-- over all positions
behind_fields : (s : NettingSet) → FieldsPass s → due s ≡ first_met (tests_over_all (its s))
behind_fields s f = over_all s.terms s.count (its s) f.0 f.1.0 (each_fields (its s) (each_from zero_position _ (its s) f.1.1))

-- whether two positions are alike, by the test and by its parts
alike_same : (p q : Position) → Alike p q → same_goods p q ≡ true
alike_same p q a =
    and_true _ _ (and_true _ _ (and_true _ _ (eq-eqb _ _ a.0) (eq-eqb _ _ a.1.0)) (eq-eqb _ _ a.1.1.0)) (eq-eqb _ _ a.1.1.1)

same_alike : (p q : Position) → same_goods p q ≡ true → Alike p q
same_alike p q e =
    let four = both (eqb p.asset.goods q.asset.goods && eqb p.asset.step q.asset.step && eqb p.asset.life q.asset.life) _ e in
    let three = both (eqb p.asset.goods q.asset.goods && eqb p.asset.step q.asset.step) _ four.0 in
    let two = both (eqb p.asset.goods q.asset.goods) _ three.0 in
    (eqb-true _ _ two.0, (eqb-true _ _ two.1, (eqb-true _ _ three.1, eqb-true _ _ four.1)))

not_same : (p q : Position) → (Alike p q → ⊥) → same_goods p q ≡ false
not_same p q n = go (same_goods p q) refl
  where
    go : (b : Bool) → same_goods p q ≡ b → same_goods p q ≡ false
    go false e = e
    go true e = absurd (n (same_alike p q e))

disagree_by : (p q : Position) → p.security ≡ q.security → (p.security ≡ 0 → ⊥) → same_goods p q ≡ false → disagree p q ≡ true
unfolding disagree
disagree_by p q same some g = rw (eq-eqb p.security q.security same, ne_eqb p.security 0 some, g) refl

disagree_at : (p q : Position) → p.security ≡ q.security → (p.security ≡ 0 → ⊥) → (Alike p q → ⊥) → disagree p q ≡ true
disagree_at p q same some n = disagree_by p q same some (not_same p q n)

agree_at : (p q : Position) → (p.security ≡ q.security → (p.security ≡ 0 → ⊥) → Alike p q) → disagree p q ≡ false
unfolding disagree
agree_at p q h = go (ℕ_discrete p.security q.security) (ℕ_discrete p.security 0)
  where
    go : Dec (p.security ≡ q.security) → Dec (p.security ≡ 0) → (eqb p.security q.security && not (eqb p.security 0) && not (same_goods p q)) ≡ false
    go (no n) z = rw (ne_eqb p.security q.security n) refl
    go (yes e) (yes z) = rw (eq-eqb p.security q.security e, eq-eqb p.security 0 z) refl
    go (yes e) (no z) = rw (eq-eqb p.security q.security e, ne_eqb p.security 0 z, alike_same p q (h e z)) refl

-- whether a received position is not eligible
not_eligible_at : (p : Position) → p.side ≡ 2 → eligible p.asset.goods p.asset.step 0 ≡ false → received_not_eligible p ≡ true
unfolding received_not_eligible
not_eligible_at p e n = rw (ne_eqb p.side 1 (λ one. absurd (omega (arith, e, one))), n) refl

eligible_at : (p : Position) → PlainPosition p → (p.side ≡ 2 → eligible p.asset.goods p.asset.step 0 ≡ true) → received_not_eligible p ≡ false
unfolding received_not_eligible
eligible_at p plain h = go (ℕ_discrete p.side 1)
  where
    go : Dec (p.side ≡ 1) → (not (is_lent p) && not (eligible p.asset.goods p.asset.step 0)) ≡ false
    go (yes e) = rw (eq-eqb p.side 1 e) refl
    go (no n) = rw (ne_eqb p.side 1 n, h (omega (arith, n, plain.side))) refl

received_eligible : (p : Position) → received_not_eligible p ≡ false → p.side ≡ 2 → eligible p.asset.goods p.asset.step 0 ≡ true
unfolding received_not_eligible
received_eligible p e side = go (eligible p.asset.goods p.asset.step 0) refl
  where
    go : (b : Bool) → eligible p.asset.goods p.asset.step 0 ≡ b → eligible p.asset.goods p.asset.step 0 ≡ true
    go true g = g
    go false g = absurd (never (not_eligible_at p side g) e)

two_unmet : (s : NettingSet) → any_two (its s) disagree ≡ false → (i j : ℕ) → i < j → j < length (its s) → disagree (get_or (its s) i zero_position) (get_or (its s) j zero_position) ≡ false
two_unmet s e i j h k = go (disagree (get_or (its s) i zero_position) (get_or (its s) j zero_position)) refl
  where
    go : (b : Bool) → disagree (get_or (its s) i zero_position) (get_or (its s) j zero_position) ≡ b → disagree (get_or (its s) i zero_position) (get_or (its s) j zero_position) ≡ false
    go false g = g
    go true g = absurd (never (two_at zero_position disagree (its s) i j h k g) e)

any_unmet : (s : NettingSet) → any (its s) received_not_eligible ≡ false → (i : ℕ) → i < length (its s) → received_not_eligible (get_or (its s) i zero_position) ≡ false
any_unmet s e i h = go (received_not_eligible (get_or (its s) i zero_position)) refl
  where
    go : (b : Bool) → received_not_eligible (get_or (its s) i zero_position) ≡ b → received_not_eligible (get_or (its s) i zero_position) ≡ false
    go false g = g
    go true g = absurd (never (any_at zero_position received_not_eligible (its s) i h g) e)

fifteen : (s : NettingSet) → FieldsPass s → (i j : ℕ) → i < j → j < length (its s) →
    (get_or (its s) i zero_position).security ≡ (get_or (its s) j zero_position).security → ((get_or (its s) i zero_position).security ≡ 0 → ⊥) →
    (Alike (get_or (its s) i zero_position) (get_or (its s) j zero_position) → ⊥) → due s ≡ 15
unfolding tests_over_all
fifteen s f i j h k same some n =
    behind_fields s f ∙ met_first 15 (any_two (its s) disagree) _ (two_at zero_position disagree (its s) i j h k (disagree_at _ _ same some n))

module _ (s : NettingSet) (f : FieldsPass s) (alike : AllAlike s) where
  none_disagree : any_two (its s) disagree ≡ false
  none_disagree = no_two_at zero_position disagree (its s) (λ i j h k. agree_at _ _ (alike i j h k))

  sixteen : (i : ℕ) → i < length (its s) → (get_or (its s) i zero_position).side ≡ 2 →
      eligible (get_or (its s) i zero_position).asset.goods (get_or (its s) i zero_position).asset.step 0 ≡ false → due s ≡ 16
  unfolding tests_over_all
  sixteen i h side n =
      behind_fields s f ∙ not_met 15 (any_two (its s) disagree) _ none_disagree
      ∙ met_first 16 (any (its s) received_not_eligible) _ (any_at zero_position received_not_eligible (its s) i h (not_eligible_at _ side n))

  module _ (e : AllEligible s) where
    all_eligible : any (its s) received_not_eligible ≡ false
    all_eligible = none_at zero_position received_not_eligible (its s) (λ i h. eligible_at _ (plain_position _ (f.1.1 i h)) (e i h))

    seventeen : 1000000000000 < sum_of (λ p. p.amount) (its s) → due s ≡ 17
    unfolding tests_over_all
    seventeen h =
        behind_fields s f ∙ not_met 15 (any_two (its s) disagree) _ none_disagree ∙ not_met 16 (any (its s) received_not_eligible) _ all_eligible
        ∙ met_first 17 _ _ (lt-ltb 1000000000000 (sum_of (λ p. p.amount) (its s)) h)

    none_due : sum_of (λ p. p.amount) (its s) ≤ 1000000000000 → due s ≡ 0
    unfolding tests_over_all
    none_due h =
        behind_fields s f
        ∙ none_met (tests_over_all (its s)) (none_disagree, (all_eligible, (le-ltb 1000000000000 (sum_of (λ p. p.amount) (its s)) h, tt)))

-- of an accepted set none of them is met
agree_alike : (p q : Position) → disagree p q ≡ false → p.security ≡ q.security → (p.security ≡ 0 → ⊥) → Alike p q
agree_alike p q e same some = go (same_goods p q) refl
  where
    go : (b : Bool) → same_goods p q ≡ b → Alike p q
    go true g = same_alike p q g
    go false g = absurd (never (disagree_by p q same some g) e)

only_then : (s : NettingSet) → due s ≡ 0 → FieldsPass s × (AllAlike s × (AllEligible s × (sum_of (λ p. p.amount) (its s) ≤ 1000000000000)))
only_then s e =
    let k = plain s e in (
      (k.terms, (k.count, λ i h. each_at_place zero_position (λ p. position_refusal p ≡ 0) (its s) (fields_each (its s) k.fields) i h)),
      (
        (λ i j h l same some. agree_alike _ _ (two_unmet s k.agree i j h l) same some),
        ((λ i h side. received_eligible _ (any_unmet s k.eligible i h) side), k.amounts),
      ),
    )

-- BETTERMENTS

lent_exposure : (s : NettingSet) → accepted_set s ≡ true → (set_reply (lent_alone s)).exposure ≡ all_lent (its s)
lent_exposure s a = lent_alone_exposure s a ∙ lent_by_side (its s) (plain_positions (its s) (plain s (accepted_none s a)).fields)

lent_weighted : (s : NettingSet) → accepted_set s ≡ true → (set_reply (lent_alone s)).rwa ≡ round_up (all_lent (its s) * weight_in s.terms) 100
unfolding weighted_amount risk_weighted_amount set_weight
lent_weighted s a =
    let b = lent_alone_accepted s a in
    weighted_of (lent_alone s) b ∙ ap (λ e. round_up (e * weight_in s.terms) 100) (sym (exposure_of (lent_alone s) b) ∙ lent_exposure s a)

eligible_haircut : (table goods step life : ℕ) → eligible goods step 0 ≡ true → (table_of table).lent_haircut goods step life ≡ (table_of table).haircut goods step life
unfolding table_of lent_haircut lent_haircut_2023
eligible_haircut table goods step life e =
    either (λ (t : Table). t.lent_haircut goods step life ≡ t.haircut goods step life) (eqb table 3) (λ t. if_true (eligible goods step 0) _ _ e) (λ t. if_true (eligible goods step 0) _ _ e)

other_haircut : (table goods step life : ℕ) → eligible goods step 0 ≡ false → (table_of table).lent_haircut goods step life ≡ (if eqb table 3 then 300000 else 250000)
unfolding table_of lent_haircut lent_haircut_2023
other_haircut table goods step life e = go (eqb table 3)
  where
    go : (b : Bool) → (if b then table_2023 else table_2019 table).lent_haircut goods step life ≡ (if b then 300000 else 250000)
    go true = if_false (eligible goods step 0) _ _ e
    go false = if_false (eligible goods step 0) _ _ e

accepted_is : (s : NettingSet) → accepted_set s ≡ eqb (due s) 0
unfolding set_reply
accepted_is s = ap (λ n. eqb n 0) (refusal_of s.terms s.count (its s))

terms_due : (t : SetTerms) → ExactFor (set_terms_refusal t) (set_field_tests t)
unfolding set_terms_refusal set_terms_tests party_steps_allowed party_step_allowed sovereign_step_allowed
terms_due t = exact_for (set_terms_refusal t) (set_field_tests t) (terms_trimmed _ _ _ _) (exact (set_field_tests t) refl)

position_due : (p : Position) → ExactFor (position_refusal p) (position_field_tests p)
unfolding position_refusal position_tests asset_step_allowed life_allowed security_allowed
position_due p = exact_for (position_refusal p) (position_field_tests p) (position_trimmed _ _ _ _ _) (exact (position_field_tests p) refl)

together : (t : SetTerms) (p : Position) → t.interval ≤ 60 → haircut_of t p + scaled 80000 (t.interval + 4) ≤ 961333
unfolding security_haircut currency_haircut_over set_period
together t p h = together_low t p h

larger_received : (t : SetTerms) (before after : List Position) (p : Position) (new : ℕ) → p.side ≡ 2 → p.amount < new →
    BetterSet (record { terms = t; positions = before ++ p ∷ after })
    (record { terms = t; positions = before ++ record { side = 2; amount = new; security = p.security; asset = p.asset; currency = p.currency } ∷ after })
larger_received t before after p new e h =
    subst (λ (side : ℕ). BetterSet (record { terms = t; positions = before ++ p ∷ after })
    (record { terms = t; positions = before ++ record { side = side; amount = new; security = p.security; asset = p.asset; currency = p.currency } ∷ after })) e
    (BetterSet.larger_received before after p new e h)

pub netting_sets : NettingSets
unfolding accepted_set_view set_reply computed
netting_sets = record {
  taken = taken;
  refused = refused;
  any_entry = any_entry;
  numbers = numbers;
  scaled_by_itself = scaled_is;
  eligible_haircut = eligible_haircut;
  other_haircut = other_haircut;
  unrated_bank_debt = refl;
  terms_first = λ s e. terms_refused s.terms s.count (its s) e;
  terms_due = terms_due;
  thirty_third = λ s e h. too_many s.terms s.count (its s) e h;
  position_first = position_first;
  position_due = position_due;
  fifteen = fifteen;
  sixteen = sixteen;
  seventeen = seventeen;
  none_due = none_due;
  only_then = only_then;
  larger_received = larger_received;
  one_more = λ t before after p e. BetterSet.more_received before after p e;
  more_frequent = λ t ps new h. BetterSet.smaller_interval ps new h;
  would_be = λ v. refl;
  refused_or_made = set_refused_or_made;
  accepted_is = accepted_is;
  view_is = λ s. refl;
  no_more = λ s. SetBetterments.no_more;
  held_otherwise = λ s s' e same a l. SetBetterments.held_otherwise same a l;
  one_made = λ s s' e b a l. SetBetterments.made b a l;
  one_refused = λ s e v b r l. SetBetterments.refused v b r l;
  still_accepted = set_still_accepted;
  lent_accepted = lent_alone_accepted;
  than_before = λ before after a list. (set_never_raised before after a list).0.0;
  than_lent = λ before after a list. (set_never_raised before after a list).0.1;
  never_raised = set_never_raised;
  lent_exposure = lent_exposure;
  lent_weighted = lent_weighted;
  together = together;
  worked = refl;
  worked_2023 = refl;
  floored = refl;
  of_2023 = refl;
  bank_debt = refl;
  full = refl;
  not_full = refl;
  never_revalued = refl;
}
