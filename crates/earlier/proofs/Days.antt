-- A higher limit of days in opening, adding and reporting: what was accepted stays so, with the same report. Assumes nothing.
use Prim.Native.Nat.{ℕ, ◌≤◌}
use mathlib.Core.Logic.{inl, inr}
use mathlib.Core.Path.{◌≡◌, refl, sym, subst, ◌∙◌}
use mathlib.Core.Bool.{Bool, true, false, ◌&&◌}
use mathlib.Core.List.{[]}
use lib.Dec.{leb, eqb}
use borrow.Author.Tests.{eqb-true}
use Rattle.base.specs.All.{all_pass}
use Rattle.base.specs.FirstMet.{first_or}
use Rattle.base.proofs.Choice.{if_true, never}
use Rattle.base.proofs.Every.{both}
use Rattle.base.proofs.FirstMet.{none_exactly}
use Rattle.base.proofs.Tests.{and_true}
use Rattle.deal.specs.Lists.{list_limit, list_tests}
use Rattle.deal.specs.Ranges.{days_limit}
use Rattle.deal.specs.Views.{view_of}
use Rattle.deal.specs.declared.terms.Terms.{Terms}
use Rattle.deal.specs.declared.collateral.Collateral.{Collateral}
use Rattle.deal.specs.declared.guarantee.Guarantee.{Guarantee}
use Rattle.deal.specs.declared.deal.Deal.{Deal}
use Rattle.earlier.specs.Days.{accepted_up_to, add_collateral_refusal_up_to, add_guarantee_refusal_up_to, collateral_days, deal_none_above, guarantee_days, none_above, opened_up_to, report_refusal_up_to, report_up_to, terms_days, terms_refusal_up_to, with_collateral_up_to, with_guarantee_up_to}
use Rattle.earlier.specs.Deals.{add_collateral_refusal_by, add_guarantee_refusal_by, collateral_refusal_by, deal_opened_by, guarantee_refusal_by, report_by, report_refusal_by, terms_refusal_by, with_collateral_by, with_guarantee_by}
use Rattle.earlier.specs.Rules.{in_force, up_to}
use Rattle.earlier.proofs.Accepted.{Apart, added_tests, list_more, list_passing, list_short, parts, same_truth, unrefused, whole}
use Rattle.earlier.proofs.Fields.{Kept, collateral_days_lem, collateral_stays, guarantee_days_lem, guarantee_stays, terms_days_lem, terms_stay}
use Rattle.earlier.proofs.Now.{limit_in_force}

-- each number of the tests stands there once, whatever the limit
pub apart : (limit : ℕ) → Apart (up_to limit)
apart limit = record { collateral = λ full c. refl; guarantees = λ full g. refl }

pub apart_now : Apart in_force
apart_now = subst Apart limit_in_force (apart days_limit)

-- an unrefused call's figure is no 5
pub zero_kept : {refusal : ℕ} {none : Bool} → refusal ≡ 0 → Kept refusal none
zero_kept e = inl (rw e)

-- what is taken up to a limit holds no day above it
module _ (limit : ℕ) where
  terms_short : (t : Terms) → terms_refusal_up_to limit t ≡ 0 → none_above limit (terms_days t) ≡ true
  unfolding terms_refusal_by
  terms_short t e = terms_days_lem limit t (none_exactly ((up_to limit).terms_tests t) refl e)

  collateral_short : (c : Collateral) → collateral_refusal_by (up_to limit) c ≡ 0 → none_above limit (collateral_days c) ≡ true
  unfolding collateral_refusal_by
  collateral_short c e = collateral_days_lem limit c (none_exactly ((up_to limit).collateral_tests c) refl e)

  guarantee_short : (g : Guarantee) → guarantee_refusal_by (up_to limit) g ≡ 0 → none_above limit (guarantee_days g) ≡ true
  unfolding guarantee_refusal_by
  guarantee_short g e = guarantee_days_lem limit g (none_exactly ((up_to limit).guarantee_tests g) refl e)

-- what is taken now, and was not taken before, was refused by 5
was_five : {before now : ℕ} {none : Bool} → (Kept before none → now ≡ before) → (before ≡ 0 → none ≡ true) → none ≡ false → now ≡ 0 → before ≡ 5
was_five {before} stays short above taken = go (eqb before 5) refl
  where
    go : (t : Bool) → eqb before 5 ≡ t → before ≡ 5
    go true e = eqb-true before 5 e
    go false e = absurd (never (short (sym (stays (inl e)) ∙ taken)) above)

module _ (low high : ℕ) (raised : low ≤ high) where
  -- Opening

  pub opening_stays : (t : Terms) → Kept (terms_refusal_up_to low t) (none_above low (terms_days t)) → terms_refusal_up_to high t ≡ terms_refusal_up_to low t
  unfolding terms_refusal_by
  opening_stays t k = terms_stay low high raised t k

  pub opened_stays : (t : Terms) → Kept (terms_refusal_up_to low t) (none_above low (terms_days t)) → opened_up_to high t ≡ opened_up_to low t
  unfolding deal_opened_by
  opened_stays t k = rw (opening_stays t k)

  pub opening_was : (t : Terms) → none_above low (terms_days t) ≡ false → terms_refusal_up_to high t ≡ 0 → terms_refusal_up_to low t ≡ 5
  opening_was t = was_five (opening_stays t) (terms_short low t)

  -- an item by itself
  collateral_kept : (c : Collateral) → Kept (collateral_refusal_by (up_to low) c) (none_above low (collateral_days c)) → collateral_refusal_by (up_to high) c ≡ collateral_refusal_by (up_to low) c
  unfolding collateral_refusal_by first_or
  collateral_kept c k = collateral_stays low high raised false c k

  guarantee_kept : (g : Guarantee) → Kept (guarantee_refusal_by (up_to low) g) (none_above low (guarantee_days g)) → guarantee_refusal_by (up_to high) g ≡ guarantee_refusal_by (up_to low) g
  unfolding guarantee_refusal_by first_or
  guarantee_kept g k = guarantee_stays low high raised false g k

  -- Which records are accepted

  pub still_accepted : (d : Deal) → accepted_up_to low d ≡ true → accepted_up_to high d ≡ true
  still_accepted d e =
      let p = parts (up_to low) d e in
      whole (up_to high) d (record {
        terms = opening_stays d.terms (zero_kept p.terms) ∙ p.terms;
        collateral = list_more (collateral_refusal_by (up_to low)) (collateral_refusal_by (up_to high)) (λ c h. collateral_kept c (zero_kept h) ∙ h) d.collateral.items d.collateral.count p.collateral;
        guarantees = list_more (guarantee_refusal_by (up_to low)) (guarantee_refusal_by (up_to high)) (λ g h. guarantee_kept g (zero_kept h) ∙ h) d.guarantees.items d.guarantees.count p.guarantees;
      })

  -- EXACTLY THE DEALS ACCEPTED NOW THAT HOLD NO DAY ABOVE THE LOWER LIMIT WERE ACCEPTED BEFORE
  pub accepted_before : (d : Deal) → accepted_up_to low d ≡ (accepted_up_to high d && deal_none_above low d)
  accepted_before d = same_truth _ _ (λ e. and_true _ _ (still_accepted d e) (none_above_lem d e)) (λ e. short_accepted d (both (accepted_up_to high d) _ e))
    where
      none_above_lem : (d : Deal) → accepted_up_to low d ≡ true → deal_none_above low d ≡ true
      none_above_lem d e =
          let p = parts (up_to low) d e in
          and_true _ _
          (and_true _ _ (terms_short low d.terms p.terms)
          (list_short (collateral_refusal_by (up_to low)) (λ c. none_above low (collateral_days c)) (collateral_short low) d.collateral.items d.collateral.count p.collateral))
          (list_short (guarantee_refusal_by (up_to low)) (λ g. none_above low (guarantee_days g)) (guarantee_short low) d.guarantees.items d.guarantees.count p.guarantees)

      short_accepted : (d : Deal) → (accepted_up_to high d ≡ true) × (deal_none_above low d ≡ true) → accepted_up_to low d ≡ true
      short_accepted d h =
          let p = parts (up_to high) d h.0 in
          let outer = both (none_above low (terms_days d.terms) && all_pass (view_of d).collateral (λ c. none_above low (collateral_days c))) _ h.1 in
          let inner = both (none_above low (terms_days d.terms)) _ outer.0 in
          whole (up_to low) d (record {
            terms = sym (opening_stays d.terms (inr inner.0)) ∙ p.terms;
            collateral = list_passing (collateral_refusal_by (up_to high)) (collateral_refusal_by (up_to low)) (λ c. none_above low (collateral_days c)) (λ c s k. sym (collateral_kept c (inr s)) ∙ k) d.collateral.items d.collateral.count inner.1 p.collateral;
            guarantees = list_passing (guarantee_refusal_by (up_to high)) (guarantee_refusal_by (up_to low)) (λ g. none_above low (guarantee_days g)) (λ g s k. sym (guarantee_kept g (inr s)) ∙ k) d.guarantees.items d.guarantees.count outer.1 p.guarantees;
          })

  -- Reporting

  pub same_report : (d : Deal) → accepted_up_to low d ≡ true → report_up_to high d ≡ report_up_to low d
  unfolding report_by
  same_report d e = if_true _ _ _ (still_accepted d e) ∙ sym (if_true _ _ _ e)

  pub same_reporting : (d : Deal) → accepted_up_to low d ≡ true → report_refusal_up_to high d ≡ report_refusal_up_to low d
  unfolding report_refusal_by
  same_reporting d e = unrefused (up_to high) d [] (still_accepted d e) ∙ sym (unrefused (up_to low) d [] e)

  -- Adding to a deal that was accepted

  module _ (d : Deal) (a : accepted_up_to low d ≡ true) where
    pub adding_collateral_stays : (c : Collateral) → Kept (add_collateral_refusal_up_to low d c) (none_above low (collateral_days c)) → add_collateral_refusal_up_to high d c ≡ add_collateral_refusal_up_to low d c
    unfolding add_collateral_refusal_by
    adding_collateral_stays c k =
        let before = unrefused (up_to low) d (list_tests (up_to low).collateral_tests d.collateral.count c) a in
        unrefused (up_to high) d (list_tests (up_to high).collateral_tests d.collateral.count c) (still_accepted d a)
        ∙ collateral_stays low high raised (leb list_limit d.collateral.count) c (rw before at k)
        ∙ sym before

    pub adding_guarantee_stays : (g : Guarantee) → Kept (add_guarantee_refusal_up_to low d g) (none_above low (guarantee_days g)) → add_guarantee_refusal_up_to high d g ≡ add_guarantee_refusal_up_to low d g
    unfolding add_guarantee_refusal_by
    adding_guarantee_stays g k =
        let before = unrefused (up_to low) d (list_tests (up_to low).guarantee_tests d.guarantees.count g) a in
        unrefused (up_to high) d (list_tests (up_to high).guarantee_tests d.guarantees.count g) (still_accepted d a)
        ∙ guarantee_stays low high raised (leb list_limit d.guarantees.count) g (rw before at k)
        ∙ sym before

    pub with_collateral_stays : (c : Collateral) → Kept (add_collateral_refusal_up_to low d c) (none_above low (collateral_days c)) → with_collateral_up_to high d c ≡ with_collateral_up_to low d c
    unfolding with_collateral_by
    with_collateral_stays c k = rw (adding_collateral_stays c k)

    pub with_guarantee_stays : (g : Guarantee) → Kept (add_guarantee_refusal_up_to low d g) (none_above low (guarantee_days g)) → with_guarantee_up_to high d g ≡ with_guarantee_up_to low d g
    unfolding with_guarantee_by
    with_guarantee_stays g k = rw (adding_guarantee_stays g k)

    pub adding_collateral_was : (c : Collateral) → none_above low (collateral_days c) ≡ false → add_collateral_refusal_up_to high d c ≡ 0 → add_collateral_refusal_up_to low d c ≡ 5
    unfolding add_collateral_refusal_by
    adding_collateral_was c = was_five (adding_collateral_stays c) (λ e. collateral_days_lem low c (added_tests (up_to low) d (up_to low).collateral_tests d.collateral.count c refl e))

    pub adding_guarantee_was : (g : Guarantee) → none_above low (guarantee_days g) ≡ false → add_guarantee_refusal_up_to high d g ≡ 0 → add_guarantee_refusal_up_to low d g ≡ 5
    unfolding add_guarantee_refusal_by
    adding_guarantee_was g = was_five (adding_guarantee_stays g) (λ e. guarantee_days_lem low g (added_tests (up_to low) d (up_to low).guarantee_tests d.guarantees.count g refl e))
