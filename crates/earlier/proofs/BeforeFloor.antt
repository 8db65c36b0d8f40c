-- Before the sovereign floor and now: a book that is headed neither 2 nor 3 has the same answers, and so has a deal of the first edition. Assumes
-- nothing.
use Prim.Native.Nat.{ℕ, ◌≤◌}
use mathlib.Core.Path.{◌≡◌, refl, sym, ap, subst, ◌∙◌}
use mathlib.Core.Bool.{Bool, true, false, ◌&&◌, ◌||◌}
use mathlib.Core.List.{List, [], ◌∷◌}
use Rattle.std.specs.Prelude.{Option, Some, None}
use lib.Dec.{eqb, leb}
use lib.ListN.{length}
use borrow.Author.Tests.{not-false as held}
use Rattle.base.specs.All.{all_pass}
use Rattle.base.specs.FirstMet.{◌when◌, first_met}
use Rattle.base.specs.Range.{within}
use Rattle.base.proofs.Choice.{either, if_true, never}
use Rattle.base.proofs.Every.{both}
use Rattle.base.proofs.FirstMet.{none_exactly}
use Rattle.base.proofs.Tests.{and_true}
use Rattle.tables.specs.Table.{table_of}
use Rattle.tables.specs.Weights.{at_least_sovereign, counterparty_weight, has_floor, provider_weight}
use Rattle.text.specs.Bytes.{byte}
use Rattle.text.specs.Text.{book_limit, first_line, same_bytes, starts_with}
use Rattle.text.proofs.Equal.{same_equal}
use Rattle.deal.specs.Assets.{goods_known}
use Rattle.deal.specs.Checks.{field_tests}
use Rattle.deal.specs.Collateral.{collateral_tests}
use Rattle.deal.specs.Editions.{edition_known, table_for}
use Rattle.deal.specs.Guarantees.{guarantee_tests}
use Rattle.deal.specs.Lists.{list_allowed, list_limit, list_tests}
use Rattle.deal.specs.Parties.{counterparty_known, party_step_allowed, party_steps_allowed, sovereign_step_allowed}
use Rattle.deal.specs.Terms.{kind_known, terms_tests}
use Rattle.deal.specs.Views.{view_of}
use Rattle.deal.specs.declared.party.Party.{Party}
use Rattle.deal.specs.declared.terms.Terms.{Terms}
use Rattle.deal.specs.declared.collateral.Collateral.{Collateral}
use Rattle.deal.specs.declared.guarantee.Guarantee.{Guarantee}
use Rattle.deal.specs.declared.deal.Deal.{Deal}
use Rattle.relief.specs.Report.{full_report}
use Rattle.lines.specs.Fields.{fields_of}
use Rattle.lines.specs.Lines.{collateral_line, deal_line, guarantee_line, if_read, line_of, swap_line}
use Rattle.lines.specs.Sovereign.{width_under, with_sovereign}
use Rattle.lines.specs.declared.line.Line.{Line}
use Rattle.lines.specs.declared.line.Line.TheVariants.{DealLine, CollateralLine, GuaranteeLine, Malformed}
use Rattle.lines.proofs.SovereignLaws.{put_at}
use Rattle.book.specs.Book.{lines_behind}
use Rattle.book.specs.Deals.{DealLines}
use Rattle.book.specs.Heading.{edition_of, first_header, heading_of, is_wrong, second_header, third_header}
use Rattle.std.specs.Prelude.{Option}
use Rattle.earlier.specs.BeforeFloor.{before_floor, guarantee_before, guarantee_checks_before, heading_before, line_before, new_fields_allowed, table_before, terms_before, terms_checks_before, swap_before}
use Rattle.earlier.specs.Books.{book_refusal_by, book_reply_by, deal_answer_by, edition_by, line_opened_by, line_refusal_by, opening_refusal_by, printed_by, reported_by, results_by, with_line_by}
use Rattle.earlier.specs.Deals.{accepted_by, add_collateral_refusal_by, add_guarantee_refusal_by, collateral_refusal_by, deal_opened_by, guarantee_refusal_by, report_by, report_refusal_by, terms_refusal_by, with_collateral_by, with_guarantee_by}
use Rattle.earlier.specs.Rules.{in_force}
use Rattle.earlier.proofs.Accepted.{and_right, list_more, list_passing, list_short, parts, same_truth, unrefused, whole}
use Rattle.earlier.proofs.Alike.{Alike, AnyDeal, any_lines, any_line, deal_same as alike_deal, printed_same as alike_printed, reply_same as alike_reply, results_same as alike_results, wrong_by_9}
use Rattle.earlier.proofs.Days.{apart_now}
use Rattle.earlier.proofs.Lines.{Says, read_says, said_edition}

-- FIELDS: what is new is a test of the edition, and one of each party's sovereign's step

steps_same : (p : Party) → sovereign_step_allowed p ≡ true → party_steps_allowed p ≡ party_step_allowed p
unfolding party_steps_allowed
steps_same p h = and_right (party_step_allowed p) _ h

terms_tests_lem : (t : Terms) → edition_known t.edition ≡ true → sovereign_step_allowed t.counterparty ≡ true → terms_tests t ≡ field_tests (terms_checks_before t)
unfolding terms_tests
terms_tests_lem t h k =
    rw (and_right (counterparty_known t.counterparty && kind_known t.kind && goods_known t.lent) (edition_known t.edition) h, steps_same t.counterparty k)

guarantee_tests_lem : (g : Guarantee) → sovereign_step_allowed g.provider ≡ true → guarantee_tests g ≡ field_tests (guarantee_checks_before g)
unfolding guarantee_tests
guarantee_tests_lem g k = rw (steps_same g.provider k)

-- a sovereign's step of 0 is right for every class
zero_allowed : (p : Party) → p.sovereign_step ≡ 0 → sovereign_step_allowed p ≡ true
unfolding sovereign_step_allowed
zero_allowed p e = rw e (either (λ b. b ≡ true) (eqb p.class 1 || eqb p.class 4) (λ h. refl) (λ h. refl))

first_known : (edition : ℕ) → edition ≡ 1 → edition_known edition ≡ true
unfolding within
first_known edition e = rw e

-- Opening

pub opening_same : (t : Terms) → edition_known t.edition ≡ true → sovereign_step_allowed t.counterparty ≡ true → terms_refusal_by in_force t ≡ terms_refusal_by before_floor t
unfolding terms_refusal_by
opening_same t h k = ap first_met (terms_tests_lem t h k)

pub opened_same : (t : Terms) → edition_known t.edition ≡ true → sovereign_step_allowed t.counterparty ≡ true → deal_opened_by in_force t ≡ deal_opened_by before_floor t
unfolding deal_opened_by
opened_same t h k = rw (opening_same t h k)

guarantee_same : (g : Guarantee) → sovereign_step_allowed g.provider ≡ true → guarantee_refusal_by in_force g ≡ guarantee_refusal_by before_floor g
unfolding guarantee_refusal_by
guarantee_same g k = ap first_met (guarantee_tests_lem g k)

collateral_same : (c : Collateral) → collateral_refusal_by before_floor c ≡ collateral_refusal_by in_force c
unfolding collateral_refusal_by
collateral_same c = refl

-- what is taken now has a known edition and right steps
terms_new : (t : Terms) → terms_refusal_by in_force t ≡ 0 → (edition_known t.edition ≡ true) × (sovereign_step_allowed t.counterparty ≡ true)
unfolding terms_refusal_by terms_tests party_steps_allowed
terms_new t e =
    let n = none_exactly (terms_tests t) refl e in
    let codes = both (counterparty_known t.counterparty && kind_known t.kind && goods_known t.lent) _ (held _ n.1.0) in
    let steps = both (party_steps_allowed t.counterparty) _ (held _ n.1.1.0) in
    (codes.1, (both (party_step_allowed t.counterparty) _ steps.0).1)

guarantee_new : (g : Guarantee) → guarantee_refusal_by in_force g ≡ 0 → sovereign_step_allowed g.provider ≡ true
unfolding guarantee_refusal_by guarantee_tests party_steps_allowed
guarantee_new g e =
    let n = none_exactly (guarantee_tests g) refl e in
    (both (party_step_allowed g.provider) _ (held _ n.1.1.0)).1

-- WHICH RECORDS ARE ACCEPTED: exactly those of before that hold a known edition and right steps of sovereigns

module _ (d : Deal) where
  abbrev steps_allowed : Bool
  steps_allowed = all_pass (view_of d).guarantees (λ g. sovereign_step_allowed g.provider)

  pub accepted_before : accepted_by in_force d ≡ true → accepted_by before_floor d ≡ true
  accepted_before e =
      let p = parts in_force d e in
      let new = terms_new d.terms p.terms in
      whole before_floor d (record {
        terms = sym (opening_same d.terms new.0 new.1) ∙ p.terms;
        collateral = collateral_kept p.collateral;
        guarantees = list_more (guarantee_refusal_by in_force) (guarantee_refusal_by before_floor) (λ g h. sym (guarantee_same g (guarantee_new g h)) ∙ h) d.guarantees.items d.guarantees.count p.guarantees;
      })
    where
      collateral_kept : list_allowed (collateral_refusal_by in_force) d.collateral.items d.collateral.count ≡ true → list_allowed (collateral_refusal_by before_floor) d.collateral.items d.collateral.count ≡ true
      collateral_kept h = list_more (collateral_refusal_by in_force) (collateral_refusal_by before_floor) (λ c k. collateral_same c ∙ k) d.collateral.items d.collateral.count h

  new_allowed : accepted_by in_force d ≡ true → new_fields_allowed d ≡ true
  new_allowed e =
      let p = parts in_force d e in
      let new = terms_new d.terms p.terms in
      and_true _ _ (and_true _ _ new.0 new.1)
      (list_short (guarantee_refusal_by in_force) (λ g. sovereign_step_allowed g.provider) guarantee_new d.guarantees.items d.guarantees.count p.guarantees)

  still_accepted : accepted_by before_floor d ≡ true → new_fields_allowed d ≡ true → accepted_by in_force d ≡ true
  still_accepted e n =
      let p = parts before_floor d e in
      let outer = both (edition_known d.terms.edition && sovereign_step_allowed d.terms.counterparty) _ n in
      let inner = both (edition_known d.terms.edition) _ outer.0 in
      whole in_force d (record {
        terms = opening_same d.terms inner.0 inner.1 ∙ p.terms;
        collateral = list_more (collateral_refusal_by before_floor) (collateral_refusal_by in_force) (λ c k. sym (collateral_same c) ∙ k) d.collateral.items d.collateral.count p.collateral;
        guarantees = list_passing (guarantee_refusal_by before_floor) (guarantee_refusal_by in_force) (λ g. sovereign_step_allowed g.provider) (λ g s k. guarantee_same g s ∙ k) d.guarantees.items d.guarantees.count outer.1 p.guarantees;
      })

  pub accepted_exactly : accepted_by in_force d ≡ (accepted_by before_floor d && new_fields_allowed d)
  accepted_exactly =
      same_truth _ _ (λ e. and_true _ _ (accepted_before e) (new_allowed e)) (λ e. let b = both (accepted_by before_floor d) _ e in still_accepted b.0 b.1)

-- REPORTING: the tables of the first edition are those of before

pub first_table : table_of 1 ≡ table_before
unfolding table_of counterparty_weight provider_weight at_least_sovereign has_floor
first_table = refl

-- a deal that is accepted, of the first edition
module _ (d : Deal) (a : accepted_by in_force d ≡ true) where
  pub report_same : d.terms.edition ≡ 1 → report_by in_force d ≡ report_by before_floor d
  unfolding report_by table_for
  report_same e =
      if_true _ _ _ a ∙ ap (λ table. full_report table (view_of d)) (ap table_of e ∙ first_table) ∙ sym (if_true _ _ _ (accepted_before d a))

  reporting_same : report_refusal_by in_force d ≡ report_refusal_by before_floor d
  unfolding report_refusal_by
  reporting_same = unrefused in_force d [] a ∙ sym (unrefused before_floor d [] (accepted_before d a))

  reported_same : (opening : ℕ) → d.terms.edition ≡ 1 → reported_by in_force opening d ≡ reported_by before_floor opening d
  unfolding reported_by
  reported_same opening e = rw (reporting_same, report_same e)

  -- Adding, under every edition

  pub adding_collateral_same : (c : Collateral) → add_collateral_refusal_by in_force d c ≡ add_collateral_refusal_by before_floor d c
  unfolding add_collateral_refusal_by
  adding_collateral_same c =
      unrefused in_force d (list_tests collateral_tests d.collateral.count c) a
      ∙ sym (unrefused before_floor d (list_tests collateral_tests d.collateral.count c) (accepted_before d a))

  pub adding_guarantee_same : (g : Guarantee) → sovereign_step_allowed g.provider ≡ true → add_guarantee_refusal_by in_force d g ≡ add_guarantee_refusal_by before_floor d g
  unfolding add_guarantee_refusal_by
  adding_guarantee_same g k =
      unrefused in_force d (list_tests guarantee_tests d.guarantees.count g) a
      ∙ ap (λ tests. first_met (6 when leb list_limit d.guarantees.count ∷ tests)) (guarantee_tests_lem g k)
      ∙ sym (unrefused before_floor d (list_tests before_floor.guarantee_tests d.guarantees.count g) (accepted_before d a))

  pub with_collateral_same : (c : Collateral) → with_collateral_by in_force d c ≡ with_collateral_by before_floor d c
  unfolding with_collateral_by
  with_collateral_same c = rw (adding_collateral_same c)

  pub with_guarantee_same : (g : Guarantee) → sovereign_step_allowed g.provider ≡ true → with_guarantee_by in_force d g ≡ with_guarantee_by before_floor d g
  unfolding with_guarantee_by
  with_guarantee_same g k = rw (adding_guarantee_same g k)

-- LINES OF A BOOK HEADED 1, field by field

read_same : (f g : List ℕ → Line) → ((fields : List ℕ) → f fields ≡ g fields) → (o : Option (List ℕ)) → if_read f o ≡ if_read g o
unfolding if_read
read_same f g h None = refl
read_same f g h (Some fields) = h fields

deal_fields : (fields : List ℕ) → deal_line 1 fields ≡ DealLine (terms_before fields)
unfolding deal_line with_sovereign
deal_fields fields = simp (put_at 3 fields)

guarantee_fields_lem : (fields : List ℕ) → guarantee_line 1 fields ≡ GuaranteeLine (guarantee_before fields)
unfolding guarantee_line with_sovereign
guarantee_fields_lem fields = simp (put_at 3 fields)

swap_fields : (fields : List ℕ) → swap_line 1 fields ≡ GuaranteeLine (swap_before fields)
unfolding swap_line with_sovereign
swap_fields fields = simp (put_at 3 fields)

pub line_same : (line : List ℕ) → line_of 1 line ≡ line_before line
unfolding line_of line_before width_under
line_same [] = refl
line_same (letter ∷ rest) =
    rw (
      read_same (deal_line 1) (λ fields. DealLine (terms_before fields)) deal_fields (fields_of 10 rest),
      read_same (guarantee_line 1) (λ fields. GuaranteeLine (guarantee_before fields)) guarantee_fields_lem (fields_of 9 rest),
      read_same (swap_line 1) (λ fields. GuaranteeLine (swap_before fields)) swap_fields (fields_of 10 rest),
    )

-- what they bring has the first edition and a sovereign's step of 0
abbrev Old : Line → Type 0
Old (DealLine t) = (t.edition ≡ 1) × (t.counterparty.sovereign_step ≡ 0)
Old (CollateralLine c) = Unit {0}
Old (GuaranteeLine g) = g.provider.sovereign_step ≡ 0
Old Malformed = Unit {0}

line_old : (line : List ℕ) → Old (line_before line)
unfolding line_before collateral_line
line_old [] = tt
line_old (letter ∷ rest) =
    either Old (eqb letter (byte "D")) (λ e. read_says Old (λ fields. DealLine (terms_before fields)) tt (λ fields. (refl, refl)) _)
    (λ e. either Old (eqb letter (byte "C")) (λ e. read_says Old collateral_line tt (λ fields. tt) _)
    (λ e. either Old (eqb letter (byte "G")) (λ e. read_says Old (λ fields. GuaranteeLine (guarantee_before fields)) tt (λ fields. refl) _)
    (λ e. either Old (eqb letter (byte "S")) (λ e. read_says Old (λ fields. GuaranteeLine (swap_before fields)) tt (λ fields. refl) _) (λ e. tt))))

opening_line : (line : Line) → Old line → opening_refusal_by in_force line ≡ opening_refusal_by before_floor line
unfolding opening_refusal_by
opening_line (DealLine t) o = opening_same t (first_known _ o.0) (zero_allowed _ o.1)
opening_line (CollateralLine c) o = refl
opening_line (GuaranteeLine g) o = refl
opening_line Malformed o = refl

opened_line : (line : Line) → Old line → line_opened_by in_force line ≡ line_opened_by before_floor line
unfolding line_opened_by
opened_line (DealLine t) o = opened_same t (first_known _ o.0) (zero_allowed _ o.1)
opened_line (CollateralLine c) o = refl
opened_line (GuaranteeLine g) o = refl
opened_line Malformed o = refl

further_line : (d : Deal) → accepted_by in_force d ≡ true → (line : Line) → Old line → line_refusal_by in_force d line ≡ line_refusal_by before_floor d line
unfolding line_refusal_by
further_line d a (CollateralLine c) o = adding_collateral_same d a c
further_line d a (GuaranteeLine g) o = adding_guarantee_same d a g (zero_allowed _ o)
further_line d a (DealLine t) o = refl
further_line d a Malformed o = refl

with_line_lem : (d : Deal) → accepted_by in_force d ≡ true → (line : Line) → Old line → with_line_by in_force d line ≡ with_line_by before_floor d line
unfolding with_line_by
with_line_lem d a (CollateralLine c) o = with_collateral_same d a c
with_line_lem d a (GuaranteeLine g) o = with_guarantee_same d a g (zero_allowed _ o)
with_line_lem d a (DealLine t) o = refl
with_line_lem d a Malformed o = refl

-- A DEAL OF A BOOK HEADED 1

alike : Alike in_force before_floor 1 any_line AnyDeal
alike = record {
  apart = apart_now;
  line = λ line f. line_same line;
  says = λ line. subst (Says 1) (line_same line) (said_edition 1 line);
  opening = λ line. opening_line (line_before line) (line_old line);
  opened = λ line. opened_line (line_before line) (line_old line);
  opens = λ line. tt;
  refusal = λ d a e line. further_line d a (line_before line) (line_old line);
  added = λ d a e line. with_line_lem d a (line_before line) (line_old line);
  keeps = λ d h line. tt;
  reported = λ d a e h opening. reported_same d a opening e;
}

pub deal_same : (deal : DealLines) → deal_answer_by in_force 1 deal ≡ deal_answer_by before_floor 1 deal
deal_same deal = alike_deal in_force before_floor 1 any_line AnyDeal alike deal (any_lines (deal.opening ∷ deal.further))

-- A BOOK THAT IS HEADED NEITHER 2 NOR 3

module _ (book : List ℕ) (not_2 : same_bytes (first_line book) second_header ≡ false) (not_3 : same_bytes (first_line book) third_header ≡ false) where
  heading_same : heading_of (first_line book) ≡ heading_before (first_line book)
  unfolding heading_of heading_before
  heading_same = rw (not_2, not_3)

  -- unless it is wrong, it is headed 1
  headed_1 : is_wrong (heading_before (first_line book)) ≡ false → edition_by before_floor book ≡ 1
  unfolding heading_before
  headed_1 = either (λ (h : Option ℕ). is_wrong h ≡ false → edition_of h ≡ 1) (same_bytes (first_line book) first_header) (λ e h. refl) (λ e h. absurd (never refl h))

  book_alike : is_wrong (heading_before (first_line book)) ≡ false → Alike in_force before_floor (edition_by before_floor book) any_line AnyDeal
  book_alike h = subst (λ edition. Alike in_force before_floor edition any_line AnyDeal) (sym (headed_1 h)) alike

  pub reply_same : (n : ℕ) → book_reply_by in_force book n ≡ book_reply_by before_floor book n
  reply_same = alike_reply in_force before_floor book heading_same any_line AnyDeal (any_lines (lines_behind book)) book_alike

  pub results_same : (list : List ℕ) → results_by in_force book list ≡ results_by before_floor book list
  results_same = alike_results in_force before_floor book heading_same any_line AnyDeal (any_lines (lines_behind book)) book_alike

  pub printed_same : printed_by in_force book ≡ printed_by before_floor book
  printed_same = alike_printed in_force before_floor book heading_same any_line AnyDeal (any_lines (lines_behind book)) book_alike

-- a book headed 2 was refused, by 9 if it was not too long
second_wrong : is_wrong (heading_before second_header) ≡ true
unfolding heading_before same_bytes starts_with
second_wrong = refl

pub was_refused : (book : List ℕ) (n : ℕ) → same_bytes (first_line book) second_header ≡ true → length book ≤ book_limit → book_refusal_by before_floor book n ≡ 9
was_refused book n e h = wrong_by_9 before_floor book n (ap (λ line. is_wrong (heading_before line)) (same_equal (first_line book) second_header e) ∙ second_wrong) h
