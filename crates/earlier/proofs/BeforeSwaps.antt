-- Before credit derivatives and now: a book without a line S has the same answers, and so has a deal in which no swap's amount is cut. Assumes
-- nothing.
use Prim.Native.Nat.{ℕ}
use mathlib.Core.Path.{◌≡◌, refl, sym, ap, ◌∙◌}
use mathlib.Core.Bool.{true, not, ◌&&◌}
use mathlib.Core.List.{List, [], ◌∷◌}
use lib.Dec.{eqb, leb}
use borrow.Author.Tests.{not-false as held, not-true}
use Rattle.base.specs.FirstMet.{◌when◌, first_met}
use Rattle.base.proofs.All.{all_set}
use Rattle.base.proofs.Choice.{either, if_true}
use Rattle.base.proofs.Every.{both}
use Rattle.base.proofs.FirstMet.{none_exactly}
use Rattle.base.proofs.Tests.{and_true}
use Rattle.text.specs.Bytes.{byte}
use Rattle.deal.specs.Checks.{field_tests}
use Rattle.deal.specs.Collateral.{collateral_tests}
use Rattle.deal.specs.Editions.{table_for}
use Rattle.deal.specs.Fields.{zero_terms}
use Rattle.deal.specs.Guarantees.{guarantee_tests}
use Rattle.deal.specs.Instruments.{guarantee_instrument, instrument_allowed, swap_without_restructuring}
use Rattle.deal.specs.Lists.{list_limit, list_tests}
use Rattle.deal.specs.Opening.{opened_deal}
use Rattle.deal.specs.Ranges.{condition_allowed}
use Rattle.deal.specs.Terms.{terms_refusal}
use Rattle.deal.specs.Views.{view_of}
use Rattle.deal.specs.declared.terms.Terms.{Terms}
use Rattle.deal.specs.declared.collateral.Collateral.{Collateral}
use Rattle.deal.specs.declared.guarantee.Guarantee.{Guarantee}
use Rattle.deal.specs.declared.deal.Deal.{Deal}
use Rattle.earlier.proofs.GuaranteesAlone.{reported_alone}
use Rattle.lines.specs.Lines.{collateral_line, deal_line, guarantee_line, line_of}
use Rattle.lines.specs.declared.line.Line.{Line}
use Rattle.lines.specs.declared.line.Line.TheVariants.{DealLine, CollateralLine, GuaranteeLine, Malformed}
use Rattle.book.specs.Answers.{no_deal}
use Rattle.book.specs.Deals.{DealLines}
use Rattle.earlier.specs.BeforeSwaps.{before_swaps, book_without_swaps, deal_without_swaps, guarantee_checks_before_swaps, instruments_allowed, line_before_swaps, no_swap, none_cut}
use Rattle.earlier.specs.Books.{answered_deals_by, book_refusal_by, book_reply_by, book_tests_by, deal_answer_by, edition_by, line_opened_by, line_refusal_by, opening_refusal_by, printed_by, reported_by, results_by, with_line_by}
use Rattle.earlier.specs.Deals.{accepted_by, add_collateral_refusal_by, add_guarantee_refusal_by, collateral_refusal_by, deal_opened_by, guarantee_refusal_by, report_by, report_refusal_by, terms_refusal_by, with_collateral_by, with_guarantee_by}
use Rattle.earlier.specs.Rules.{in_force}
use Rattle.earlier.proofs.Accepted.{and_right, list_more, list_passing, list_short, parts, same_truth, unrefused, whole}
use Rattle.earlier.proofs.Alike.{Alike, deal_same as alike_deal, printed_same as alike_printed, results_same as alike_results}
use Rattle.earlier.proofs.Days.{apart_now}
use Rattle.earlier.proofs.Lines.{Says, read_says}

-- FIELDS: what is new is the instrument

guarantee_tests_lem : (g : Guarantee) → instrument_allowed g.instrument ≡ true → guarantee_tests g ≡ field_tests (guarantee_checks_before_swaps g)
unfolding guarantee_tests
guarantee_tests_lem g h =
    rw (and_right (condition_allowed g.lawful && condition_allowed g.direct && condition_allowed g.not_in_rating) (instrument_allowed g.instrument) h)

guarantee_same : (g : Guarantee) → instrument_allowed g.instrument ≡ true → guarantee_refusal_by in_force g ≡ guarantee_refusal_by before_swaps g
unfolding guarantee_refusal_by
guarantee_same g h = ap first_met (guarantee_tests_lem g h)

-- what is taken now is one of the three
instrument_known : (g : Guarantee) → guarantee_refusal_by in_force g ≡ 0 → instrument_allowed g.instrument ≡ true
unfolding guarantee_refusal_by guarantee_tests
instrument_known g e =
    let n = none_exactly (guarantee_tests g) refl e in
    (both (condition_allowed g.lawful && condition_allowed g.direct && condition_allowed g.not_in_rating) _ (held _ n.1.1.1.1.1.1.0)).1

-- Opening

pub opening_same : (t : Terms) → terms_refusal_by in_force t ≡ terms_refusal_by before_swaps t
unfolding terms_refusal_by
opening_same t = refl

pub opened_same : (t : Terms) → deal_opened_by in_force t ≡ deal_opened_by before_swaps t
unfolding deal_opened_by
opened_same t = rw (opening_same t)

-- WHICH RECORDS ARE ACCEPTED: exactly those of before whose counted guarantees hold one of the three instruments

module _ (d : Deal) where
  pub accepted_before : accepted_by in_force d ≡ true → accepted_by before_swaps d ≡ true
  unfolding terms_refusal_by collateral_refusal_by
  accepted_before e =
      let p = parts in_force d e in
      whole before_swaps d (record {
        terms = p.terms;
        collateral = p.collateral;
        guarantees = list_more (guarantee_refusal_by in_force) (guarantee_refusal_by before_swaps) (λ g h. sym (guarantee_same g (instrument_known g h)) ∙ h) d.guarantees.items d.guarantees.count p.guarantees;
      })

  instruments_known : accepted_by in_force d ≡ true → instruments_allowed d ≡ true
  instruments_known e =
      list_short (guarantee_refusal_by in_force) (λ g. instrument_allowed g.instrument) instrument_known d.guarantees.items d.guarantees.count (parts in_force d e).guarantees

  still_accepted : accepted_by before_swaps d ≡ true → instruments_allowed d ≡ true → accepted_by in_force d ≡ true
  unfolding terms_refusal_by collateral_refusal_by
  still_accepted e n =
      let p = parts before_swaps d e in
      whole in_force d (record {
        terms = p.terms;
        collateral = p.collateral;
        guarantees = list_passing (guarantee_refusal_by before_swaps) (guarantee_refusal_by in_force) (λ g. instrument_allowed g.instrument) (λ g s k. guarantee_same g s ∙ k) d.guarantees.items d.guarantees.count n p.guarantees;
      })

  pub accepted_exactly : accepted_by in_force d ≡ (accepted_by before_swaps d && instruments_allowed d)
  accepted_exactly =
      same_truth _ _ (λ e. and_true _ _ (accepted_before e) (instruments_known e)) (λ e. let b = both (accepted_by before_swaps d) _ e in still_accepted b.0 b.1)

-- A DEAL THAT IS ACCEPTED

module _ (d : Deal) (a : accepted_by in_force d ≡ true) where
  -- without a swap whose amount is cut, its report is that of before
  pub report_same : none_cut d ≡ true → report_by in_force d ≡ report_by before_swaps d
  unfolding report_by
  report_same n = if_true _ _ _ a ∙ reported_alone (table_for d.terms) (view_of d) n ∙ sym (if_true _ _ _ (accepted_before d a))

  reporting_same : report_refusal_by in_force d ≡ report_refusal_by before_swaps d
  unfolding report_refusal_by
  reporting_same = unrefused in_force d [] a ∙ sym (unrefused before_swaps d [] (accepted_before d a))

  reported_same : none_cut d ≡ true → (opening : ℕ) → reported_by in_force opening d ≡ reported_by before_swaps opening d
  unfolding reported_by
  reported_same n opening = rw (reporting_same, report_same n)

  pub adding_collateral_same : (c : Collateral) → add_collateral_refusal_by in_force d c ≡ add_collateral_refusal_by before_swaps d c
  unfolding add_collateral_refusal_by
  adding_collateral_same c =
      unrefused in_force d (list_tests collateral_tests d.collateral.count c) a
      ∙ sym (unrefused before_swaps d (list_tests collateral_tests d.collateral.count c) (accepted_before d a))

  pub adding_guarantee_same : (g : Guarantee) → instrument_allowed g.instrument ≡ true → add_guarantee_refusal_by in_force d g ≡ add_guarantee_refusal_by before_swaps d g
  unfolding add_guarantee_refusal_by
  adding_guarantee_same g k =
      unrefused in_force d (list_tests guarantee_tests d.guarantees.count g) a
      ∙ ap (λ tests. first_met (6 when leb list_limit d.guarantees.count ∷ tests)) (guarantee_tests_lem g k)
      ∙ sym (unrefused before_swaps d (list_tests before_swaps.guarantee_tests d.guarantees.count g) (accepted_before d a))

  pub with_collateral_same : (c : Collateral) → with_collateral_by in_force d c ≡ with_collateral_by before_swaps d c
  unfolding with_collateral_by
  with_collateral_same c = rw (adding_collateral_same c)

  pub with_guarantee_same : (g : Guarantee) → instrument_allowed g.instrument ≡ true → with_guarantee_by in_force d g ≡ with_guarantee_by before_swaps d g
  unfolding with_guarantee_by
  with_guarantee_same g k = rw (adding_guarantee_same g k)

-- LINES

pub line_same : (edition : ℕ) (line : List ℕ) → no_swap line ≡ true → line_of edition line ≡ line_before_swaps edition line
unfolding line_of line_before_swaps
line_same edition [] n = refl
line_same edition (letter ∷ rest) n = rw (not-true (eqb letter (byte "S")) n)

-- a line S was malformed
pub was_malformed : (edition : ℕ) (rest : List ℕ) → line_before_swaps edition (byte "S" ∷ rest) ≡ Malformed
unfolding line_before_swaps
was_malformed edition rest = refl

-- what lines brought was a guarantee
abbrev Guaranteed : Line → Type 0
Guaranteed (DealLine t) = Unit {0}
Guaranteed (CollateralLine c) = Unit {0}
Guaranteed (GuaranteeLine g) = g.instrument ≡ guarantee_instrument
Guaranteed Malformed = Unit {0}

line_guaranteed : (edition : ℕ) (line : List ℕ) → Guaranteed (line_before_swaps edition line)
unfolding line_before_swaps deal_line collateral_line guarantee_line
line_guaranteed edition [] = tt
line_guaranteed edition (letter ∷ rest) =
    either Guaranteed (eqb letter (byte "D")) (λ e. read_says Guaranteed (deal_line edition) tt (λ fields. tt) _)
    (λ e. either Guaranteed (eqb letter (byte "C")) (λ e. read_says Guaranteed collateral_line tt (λ fields. tt) _)
    (λ e. either Guaranteed (eqb letter (byte "G")) (λ e. read_says Guaranteed (guarantee_line edition) tt (λ fields. refl) _) (λ e. tt)))

said_before : (edition : ℕ) (line : List ℕ) → Says edition (line_before_swaps edition line)
unfolding line_before_swaps deal_line collateral_line guarantee_line
said_before edition [] = tt
said_before edition (letter ∷ rest) =
    either (Says edition) (eqb letter (byte "D")) (λ e. read_says (Says edition) (deal_line edition) tt (λ fields. refl) _)
    (λ e. either (Says edition) (eqb letter (byte "C")) (λ e. read_says (Says edition) collateral_line tt (λ fields. tt) _)
    (λ e. either (Says edition) (eqb letter (byte "G")) (λ e. read_says (Says edition) (guarantee_line edition) tt (λ fields. tt) _) (λ e. tt)))

opening_line : (line : Line) → opening_refusal_by in_force line ≡ opening_refusal_by before_swaps line
unfolding opening_refusal_by
opening_line (DealLine t) = opening_same t
opening_line (CollateralLine c) = refl
opening_line (GuaranteeLine g) = refl
opening_line Malformed = refl

opened_line : (line : Line) → line_opened_by in_force line ≡ line_opened_by before_swaps line
unfolding line_opened_by
opened_line (DealLine t) = opened_same t
opened_line (CollateralLine c) = refl
opened_line (GuaranteeLine g) = refl
opened_line Malformed = refl

-- a deal that was opened has no swap, and none after any of these lines
none_beside : none_cut no_deal ≡ true
unfolding opened_deal
none_beside = either (λ (d : Deal). none_cut d ≡ true) (eqb (terms_refusal zero_terms) 0) (λ e. refl) (λ e. refl)

none_opened : (line : Line) → none_cut (line_opened_by in_force line) ≡ true
unfolding line_opened_by deal_opened_by
none_opened (DealLine t) = either (λ (d : Deal). none_cut d ≡ true) (eqb (terms_refusal_by in_force t) 0) (λ e. refl) (λ e. refl)
none_opened (CollateralLine c) = none_beside
none_opened (GuaranteeLine g) = none_beside
none_opened Malformed = none_beside

none_added : (d : Deal) → none_cut d ≡ true → (line : Line) → Guaranteed line → none_cut (with_line_by in_force d line) ≡ true
unfolding with_line_by with_collateral_by with_guarantee_by
none_added d n (CollateralLine c) q = either (λ (x : Deal). none_cut x ≡ true) (eqb (add_collateral_refusal_by in_force d c) 0) (λ e. n) (λ e. n)
none_added d n (GuaranteeLine g) q =
    either (λ (x : Deal). none_cut x ≡ true) (eqb (add_guarantee_refusal_by in_force d g) 0)
    (λ e. all_set (λ x. not (eqb x.instrument swap_without_restructuring)) d.guarantees.count d.guarantees.items g n (ap (λ i. not (eqb i swap_without_restructuring)) q)) (λ e. n)
none_added d n (DealLine t) q = n
none_added d n Malformed q = n

further_line : (d : Deal) → accepted_by in_force d ≡ true → (line : Line) → Guaranteed line → line_refusal_by in_force d line ≡ line_refusal_by before_swaps d line
unfolding line_refusal_by
further_line d a (CollateralLine c) q = adding_collateral_same d a c
further_line d a (GuaranteeLine g) q = adding_guarantee_same d a g (ap instrument_allowed q)
further_line d a (DealLine t) q = refl
further_line d a Malformed q = refl

with_line_lem : (d : Deal) → accepted_by in_force d ≡ true → (line : Line) → Guaranteed line → with_line_by in_force d line ≡ with_line_by before_swaps d line
unfolding with_line_by
with_line_lem d a (CollateralLine c) q = with_collateral_same d a c
with_line_lem d a (GuaranteeLine g) q = with_guarantee_same d a g (ap instrument_allowed q)
with_line_lem d a (DealLine t) q = refl
with_line_lem d a Malformed q = refl

-- A DEAL OF A BOOK, AND A BOOK, WITHOUT A LINE S

alike : (edition : ℕ) → Alike in_force before_swaps edition no_swap (λ d. none_cut d ≡ true)
alike edition = record {
  apart = apart_now;
  line = line_same edition;
  says = said_before edition;
  opening = λ line. opening_line (line_before_swaps edition line);
  opened = λ line. opened_line (line_before_swaps edition line);
  opens = λ line. none_opened (line_before_swaps edition line);
  refusal = λ d a e line. further_line d a (line_before_swaps edition line) (line_guaranteed edition line);
  added = λ d a e line. with_line_lem d a (line_before_swaps edition line) (line_guaranteed edition line);
  keeps = λ d h line. none_added d h (line_before_swaps edition line) (line_guaranteed edition line);
  reported = λ d a e h opening. reported_same d a h opening;
}

pub deal_same : (edition : ℕ) (deal : DealLines) → deal_without_swaps deal ≡ true → deal_answer_by in_force edition deal ≡ deal_answer_by before_swaps edition deal
deal_same edition = alike_deal in_force before_swaps edition no_swap (λ d. none_cut d ≡ true) (alike edition)

-- the reply, of every book
pub reply_same : (book : List ℕ) (n : ℕ) → book_reply_by in_force book n ≡ book_reply_by before_swaps book n
unfolding book_reply_by answered_deals_by book_refusal_by book_tests_by
reply_same book n = refl

module _ (book : List ℕ) (none : book_without_swaps book ≡ true) where
  pub results_same : (list : List ℕ) → results_by in_force book list ≡ results_by before_swaps book list
  results_same = alike_results in_force before_swaps book refl no_swap (λ d. none_cut d ≡ true) none (λ h. alike (edition_by before_swaps book))

  pub printed_same : printed_by in_force book ≡ printed_by before_swaps book
  printed_same = alike_printed in_force before_swaps book refl no_swap (λ d. none_cut d ≡ true) none (λ h. alike (edition_by before_swaps book))
