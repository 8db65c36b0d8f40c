-- Opening and adding on numbers, by the tests that come before the operations' own. Assumes nothing.
use Rattle.std.proofs.Common.{if◌then◌else◌}
use Prim.Native.Nat.{ℕ}
use mathlib.Core.Path.{◌≡◌, refl, sym, ap, ◌∙◌}
use mathlib.Core.Bool.{Bool, true, false, not}
use mathlib.Core.List.{List, [], ◌∷◌}
use lib.Dec.{eqb}
use lib.ListN.{length, length-set, replicate}
use borrow.Author.Tests.{eq-eqb}
use Rattle.base.specs.FirstMet.{Test, ◌when◌, first_met, first_or}
use Rattle.base.proofs.Choice.{either, if_false, if_true, never}
use Rattle.base.proofs.FirstMet.{met_first, not_met}
use Rattle.base.proofs.Tests.{not_false, not_true}
use Rattle.deal.specs.Adding.{add_collateral_refusal, add_collateral_tests, add_guarantee_refusal, add_guarantee_tests, with_collateral, with_guarantee}
use Rattle.deal.specs.Opening.{opened_deal}
use Rattle.deal.specs.Records.{without_protection}
use Rattle.deal.specs.Fields.{collateral_in, collateral_width, guarantee_sent, sent_guarantee_width, sent_swap_width, swap_sent, terms_in, terms_width, zero_terms}
use Rattle.deal.specs.Terms.{terms_refusal}
use Rattle.deal.specs.declared.collateral.Collateral.{Collateral}
use Rattle.deal.specs.declared.deal.Deal.{Deal}
use Rattle.deal.specs.declared.guarantee.Guarantee.{Guarantee}
use Rattle.deal.specs.declared.terms.Terms.{Terms}
use Rattle.deal.proofs.Deals.{collateral_refused, guarantee_refused}
use Rattle.hadlephoga.specs.Operations.{adding_refusal, numbers_with_collateral, numbers_with_guarantee, numbers_with_swap, opened_numbers, opening_tests}
use Rattle.hadlephoga.specs.Records.{deal_in, deal_numbers, in_order, record_length}
use Rattle.hadlephoga.proofs.Records.{HasPlaces, deal_back, deal_forth, in_places}

-- a record of zeros
pub zeros : deal_numbers (without_protection (zero_terms)) ≡ replicate record_length 0
unfolding deal_numbers in_order
zeros = refl

module _ (terms : List ℕ) where
  pub opening_11 : eqb (length terms) terms_width ≡ false → first_met (opening_tests terms) ≡ 11
  unfolding opening_tests
  opening_11 e = met_first 11 _ _ (not_true _ e)

  pub opened_11 : eqb (length terms) terms_width ≡ false → opened_numbers terms ≡ replicate record_length 0
  unfolding opened_numbers
  opened_11 e = if_false (eqb (first_met (opening_tests terms)) 0) _ _ (rw (opening_11 e) refl)

  pub opened_none : {n : ℕ} → eqb n 0 ≡ false → n ≡ first_met (opening_tests terms) → opened_numbers terms ≡ replicate record_length 0
  unfolding opened_numbers
  opened_none some e = if_false (eqb (first_met (opening_tests terms)) 0) _ _ (ap (λ m. eqb m 0) (sym e) ∙ some)

  -- numbers that are terms: opening decides
  pub opening_by_terms : length terms ≡ terms_width → first_met (opening_tests terms) ≡ terms_refusal (terms_in terms)
  unfolding opening_tests terms_refusal
  opening_by_terms e = not_met 11 _ _ (not_false _ (eq-eqb _ _ e))

  pub opened_by_terms : length terms ≡ terms_width → opened_numbers terms ≡ deal_numbers (opened_deal (terms_in terms))
  unfolding opened_numbers opened_deal
  opened_by_terms e =
      let t = terms_in terms in
      let own = eqb (terms_refusal t) 0 in
      rw (opening_by_terms e)
      (either (λ d. (if own then deal_numbers (without_protection t) else replicate record_length 0) ≡ deal_numbers d) own (λ q. if_true _ _ _ q) (λ q. if_false _ _ _ q ∙ sym zeros))

module _ (width : ℕ) (numbers item : List ℕ) (tests : List (Test ℕ)) where
  pub adding_11 : eqb (length item) width ≡ false → adding_refusal width numbers item tests ≡ 11
  unfolding adding_refusal
  adding_11 e = met_first 11 _ _ (not_true _ e)

  pub adding_40 : length item ≡ width → eqb (length numbers) record_length ≡ false → adding_refusal width numbers item tests ≡ 40
  unfolding adding_refusal
  adding_40 e q = not_met 11 _ _ (not_false _ (eq-eqb _ _ e)) ∙ met_first 40 _ _ (not_true _ q)

  -- numbers that are an item and a record: adding decides
  pub adding_by_deal : length item ≡ width → length numbers ≡ record_length → adding_refusal width numbers item tests ≡ first_met tests
  unfolding adding_refusal
  adding_by_deal e q = not_met 11 _ _ (not_false _ (eq-eqb _ _ e)) ∙ not_met 40 _ _ (not_false _ (eq-eqb _ _ q))

  -- with a refusal the numbers stay
  abbrev changed : List ℕ → List ℕ
  changed after = if eqb (adding_refusal width numbers item tests) 0 then after else numbers

  -- what comes before the operation's own tests, where it is met
  pub adding_before : {n : ℕ} → eqb n 0 ≡ false → n ≡ first_met (11 when not (eqb (length item) width) ∷ 40 when not (eqb (length numbers) record_length) ∷ []) →
      adding_refusal width numbers item tests ≡ n
  unfolding adding_refusal first_or
  adding_before {n} some e = go (not (eqb (length item) width)) (not (eqb (length numbers) record_length)) e
    where
      go : (a b : Bool) → n ≡ (if a then 11 else if b then 40 else 0) → (if a then 11 else if b then 40 else first_met tests) ≡ n
      go true b e = sym e
      go false true e = sym e
      go false false e = absurd (never (ap (λ m. eqb m 0) e) some)

  pub kept_before : (after : List ℕ) {n : ℕ} → eqb n 0 ≡ false → n ≡ first_met (11 when not (eqb (length item) width) ∷ 40 when not (eqb (length numbers) record_length) ∷ []) →
      changed after ≡ numbers
  kept_before after some e = if_false (eqb (adding_refusal width numbers item tests) 0) _ _ (ap (λ m. eqb m 0) (adding_before some e) ∙ some)

  -- whatever adding answers, they are then the numbers of the deal that it gives
  changed_numbers : length item ≡ width → length numbers ≡ record_length → (after : Deal) → (eqb (first_met tests) 0 ≡ false → after ≡ deal_in numbers) →
      changed (deal_numbers after) ≡ deal_numbers after
  changed_numbers e q after refused =
      rw (adding_by_deal e q)
      (either (λ ns. ns ≡ deal_numbers after) (eqb (first_met tests) 0) (λ _. refl) (λ f. sym (rw (refused f) (deal_forth numbers q))))

-- The next operation reads the deal that the one before it gave

empty_places : (t : Terms) → HasPlaces (without_protection t)
empty_places t = record { pledged = refl; guaranteed = refl }

pub opened_read : (terms : List ℕ) → length terms ≡ terms_width → deal_in (opened_numbers terms) ≡ opened_deal (terms_in terms)
unfolding opened_deal
opened_read terms e =
    let t = terms_in terms in
    let places : HasPlaces (opened_deal t) = either HasPlaces (eqb (terms_refusal t) 0) (λ _. empty_places t) (λ _. empty_places _) in
    ap deal_in (opened_by_terms terms e) ∙ deal_back (opened_deal t) places

with_collateral_places : (d : Deal) (c : Collateral) → HasPlaces d → HasPlaces (with_collateral d c)
unfolding with_collateral
with_collateral_places d c p =
    either HasPlaces (eqb (add_collateral_refusal d c) 0) (λ _. record { pledged = simp length-set p.pledged; guaranteed = p.guaranteed }) (λ _. p)

with_guarantee_places : (d : Deal) (g : Guarantee) → HasPlaces d → HasPlaces (with_guarantee d g)
unfolding with_guarantee
with_guarantee_places d g p =
    either HasPlaces (eqb (add_guarantee_refusal d g) 0) (λ _. record { pledged = p.pledged; guaranteed = simp length-set p.guaranteed }) (λ _. p)

module _ (numbers item : List ℕ) (long : length numbers ≡ record_length) where
  pub collateral_read : length item ≡ collateral_width → deal_in (numbers_with_collateral numbers item) ≡ with_collateral (deal_in numbers) (collateral_in item)
  unfolding numbers_with_collateral add_collateral_refusal
  collateral_read e =
      let d = deal_in numbers in
      let c = collateral_in item in
      let same = changed_numbers collateral_width numbers item (add_collateral_tests d c) e long (with_collateral d c) (collateral_refused d c) in
      ap deal_in same ∙ deal_back (with_collateral d c) (with_collateral_places d c (in_places numbers))

  pub guarantee_read : length item ≡ sent_guarantee_width → deal_in (numbers_with_guarantee numbers item) ≡ with_guarantee (deal_in numbers) (guarantee_sent item)
  unfolding numbers_with_guarantee add_guarantee_refusal
  guarantee_read e =
      let d = deal_in numbers in
      let g = guarantee_sent item in
      let same = changed_numbers sent_guarantee_width numbers item (add_guarantee_tests d g) e long (with_guarantee d g) (guarantee_refused d g) in
      ap deal_in same ∙ deal_back (with_guarantee d g) (with_guarantee_places d g (in_places numbers))

  pub swap_read : length item ≡ sent_swap_width → deal_in (numbers_with_swap numbers item) ≡ with_guarantee (deal_in numbers) (swap_sent item)
  unfolding numbers_with_swap add_guarantee_refusal
  swap_read e =
      let d = deal_in numbers in
      let g = swap_sent item in
      let same = changed_numbers sent_swap_width numbers item (add_guarantee_tests d g) e long (with_guarantee d g) (guarantee_refused d g) in
      ap deal_in same ∙ deal_back (with_guarantee d g) (with_guarantee_places d g (in_places numbers))
