-- Two sets of rules that are alike for an edition, on what is accepted by the first of them, give the same answers to a deal and to a book of
-- that edition: where each line passes a test, and of deals that such lines lead to. Assumes nothing.
use Rattle.std.proofs.Common.{if◌then◌else◌}
use Prim.Native.Nat.{ℕ, ◌+◌, ◌≤◌}
use mathlib.Core.Path.{◌≡◌, refl, sym, ap, ◌∙◌}
use mathlib.Core.Bool.{Bool, true, false}
use mathlib.Core.List.{List, [], ◌∷◌}
use lib.Dec.{eqb, ltb}
use lib.ListN.{length}
use borrow.Author.Tests.{eqb-true, le-ltb}
use Rattle.base.specs.All.{all_pass}
use Rattle.base.specs.FirstMet.{first_or}
use Rattle.base.specs.Writing.{overwrite}
use Rattle.base.proofs.Choice.{either, if_false, if_true}
use Rattle.base.proofs.Every.{both}
use Rattle.text.specs.Text.{book_limit, first_line}
use Rattle.deal.specs.declared.deal.Deal.{Deal}
use Rattle.lines.specs.declared.line.Line.{Line}
use Rattle.book.specs.Answers.{refused_at}
use Rattle.book.specs.Book.{deals_of, lines_behind}
use Rattle.book.specs.Deals.{DealLines}
use Rattle.book.specs.Heading.{is_wrong}
use Rattle.result.specs.Result.{result_text}
use Rattle.response.specs.Response.{places}
use Rattle.earlier.specs.Books.{answered_deals_by, answers_by, book_refusal_by, book_reply_by, book_tests_by, deal_answer_by, edition_by, line_opened_by, line_refusal_by, lines_answer_by, opening_refusal_by, printed_by, reported_by, results_by, with_line_by}
use Rattle.earlier.specs.Deals.{accepted_by}
use Rattle.earlier.specs.Rules.{Rules}
use Rattle.earlier.proofs.Accepted.{Apart}
use Rattle.earlier.proofs.Lines.{Says, deals_pass, line_accepted, opened_edition, opening_accepted, same_terms}

-- each line that fits read alike, each deal opened, added to and reported alike, where what is to hold of deals holds of it, as it does of every deal
-- that lines lead to
pub record Alike (after before : Rules) (edition : ℕ) (fits : List ℕ → Bool) (Holds : Deal → Type 0) : Type 0 where
  pub apart : Apart after
  pub line : (line : List ℕ) → fits line ≡ true → after.line edition line ≡ before.line edition line
  pub says : (line : List ℕ) → Says edition (before.line edition line)
  pub opening : (line : List ℕ) → opening_refusal_by after (before.line edition line) ≡ opening_refusal_by before (before.line edition line)
  pub opened : (line : List ℕ) → line_opened_by after (before.line edition line) ≡ line_opened_by before (before.line edition line)
  pub opens : (line : List ℕ) → Holds (line_opened_by after (before.line edition line))
  pub refusal : (d : Deal) → accepted_by after d ≡ true → d.terms.edition ≡ edition → (line : List ℕ) →
      line_refusal_by after d (before.line edition line) ≡ line_refusal_by before d (before.line edition line)
  pub added : (d : Deal) → accepted_by after d ≡ true → d.terms.edition ≡ edition → (line : List ℕ) →
      with_line_by after d (before.line edition line) ≡ with_line_by before d (before.line edition line)
  pub keeps : (d : Deal) → Holds d → (line : List ℕ) → Holds (with_line_by after d (before.line edition line))
  pub reported : (d : Deal) → accepted_by after d ≡ true → d.terms.edition ≡ edition → Holds d → (opening : ℕ) → reported_by after opening d ≡ reported_by before opening d

-- of every line, and every deal
abbrev pub any_line : List ℕ → Bool
any_line line = true

abbrev pub AnyDeal : Deal → Type 0
AnyDeal d = Unit {0}

pub any_lines : (lines : List (List ℕ)) → all_pass lines any_line ≡ true
any_lines [] = refl
any_lines (line ∷ lines) = any_lines lines

-- A DEAL

module _ (after before : Rules) (edition : ℕ) (fits : List ℕ → Bool) (Holds : Deal → Type 0) (alike : Alike after before edition fits Holds) where
  -- one more line, given the answer from the next line on
  module _ (opening number : ℕ) (d : Deal) (line : List ℕ) (lines : List (List ℕ)) (a : accepted_by after d ≡ true) (e : d.terms.edition ≡ edition) (f : fits line ≡ true) where
    abbrev said : Line
    said = before.line edition line

    read : after.line d.terms.edition line ≡ said
    read = ap (λ n. after.line n line) e ∙ alike.line line f

    read_before : before.line d.terms.edition line ≡ said
    read_before = ap (λ n. before.line n line) e

    abbrev refusal : ℕ
    refusal = line_refusal_by after d said

    abbrev next : Deal
    next = with_line_by after d said

    same_refusal : line_refusal_by before d said ≡ refusal
    same_refusal = sym (alike.refusal d a e line)

    one_line : (accepted_by after next ≡ true → next.terms.edition ≡ edition → lines_answer_by after opening (number + 1) next lines ≡ lines_answer_by before opening (number + 1) next lines) →
        lines_answer_by after opening number d (line ∷ lines) ≡ lines_answer_by before opening number d (line ∷ lines)
    unfolding lines_answer_by
    one_line later = rw (read, read_before) (go (eqb refusal 0) refl)
      where
        now : List ℕ
        now = if eqb refusal 0 then lines_answer_by after opening (number + 1) next lines else refused_at refusal number

        then_answer : List ℕ
        then_answer =
            if eqb (line_refusal_by before d said) 0
            then lines_answer_by before opening (number + 1) (with_line_by before d said) lines
            else refused_at (line_refusal_by before d said) number

        go : (t : Bool) → eqb refusal 0 ≡ t → now ≡ then_answer
        go true h =
            let none = eqb-true refusal 0 h in
            let kept = ap (λ t. t.edition) (same_terms after d said) ∙ e in
            if_true _ _ _ h
            ∙ later (line_accepted after alike.apart d said a none) kept
            ∙ ap (λ x. lines_answer_by before opening (number + 1) x lines) (alike.added d a e line)
            ∙ sym (if_true (eqb (line_refusal_by before d said) 0) _ _ (rw same_refusal h))
        go false h = if_false _ _ _ h ∙ ap (λ r. refused_at r number) (sym same_refusal) ∙ sym (if_false (eqb (line_refusal_by before d said) 0) _ _ (rw same_refusal h))

  lines_same : (opening number : ℕ) (d : Deal) (lines : List (List ℕ)) → accepted_by after d ≡ true → d.terms.edition ≡ edition → Holds d → all_pass lines fits ≡ true →
      lines_answer_by after opening number d lines ≡ lines_answer_by before opening number d lines
  unfolding lines_answer_by
  lines_same opening number d [] a e h f = alike.reported d a e h opening
  lines_same opening number d (line ∷ lines) a e h f =
      let b = both (fits line) _ f in
      one_line opening number d line lines a e b.0 (λ a' e'. lines_same opening (number + 1) (with_line_by after d (before.line edition line)) lines a' e' (alike.keeps d h line) b.1)

  pub deal_same : (deal : DealLines) → all_pass (deal.opening ∷ deal.further) fits ≡ true → deal_answer_by after edition deal ≡ deal_answer_by before edition deal
  unfolding deal_answer_by
  deal_same deal f = rw (alike.line deal.opening fit.0) (go (eqb refused 0) refl)
    where
      fit : (fits deal.opening ≡ true) × (all_pass deal.further fits ≡ true)
      fit = both (fits deal.opening) _ f

      line : Line
      line = before.line edition deal.opening

      refused : ℕ
      refused = opening_refusal_by after line

      same : opening_refusal_by before line ≡ refused
      same = sym (alike.opening deal.opening)

      opened : Deal
      opened = line_opened_by after line

      now : List ℕ
      now = if eqb refused 0 then lines_answer_by after deal.number (deal.number + 1) opened deal.further else refused_at refused deal.number

      then_answer : List ℕ
      then_answer =
          if eqb (opening_refusal_by before line) 0
          then lines_answer_by before deal.number (deal.number + 1) (line_opened_by before line) deal.further
          else refused_at (opening_refusal_by before line) deal.number

      go : (t : Bool) → eqb refused 0 ≡ t → now ≡ then_answer
      go true h =
          let none = eqb-true refused 0 h in
          if_true _ _ _ h
          ∙ lines_same deal.number (deal.number + 1) opened deal.further (opening_accepted after line none) (opened_edition after edition line (alike.says deal.opening) none) (alike.opens deal.opening) fit.1
          ∙ ap (λ x. lines_answer_by before deal.number (deal.number + 1) x deal.further) (alike.opened deal.opening)
          ∙ sym (if_true (eqb (opening_refusal_by before line) 0) _ _ (rw same h))
      go false h = if_false _ _ _ h ∙ ap (λ r. refused_at r deal.number) (sym same) ∙ sym (if_false (eqb (opening_refusal_by before line) 0) _ _ (rw same h))

  answers_same : (serial : ℕ) (deals : List DealLines) → all_pass deals (λ deal. all_pass (deal.opening ∷ deal.further) fits) ≡ true →
      answers_by after edition serial deals ≡ answers_by before edition serial deals
  unfolding answers_by
  answers_same serial [] f = refl
  answers_same serial (deal ∷ deals) f =
      let b = both (all_pass (deal.opening ∷ deal.further) fits) _ f in
      rw (deal_same deal b.0, answers_same (serial + 1) deals b.1)

-- A BOOK whose first line says the same, and one edition for which the rules are alike unless it is wrong, and whose lines fit

module _
    (after before : Rules)
    (book : List ℕ)
    (heading_same : after.heading (first_line book) ≡ before.heading (first_line book))
    (fits : List ℕ → Bool)
    (Holds : Deal → Type 0)
    (fit : all_pass (lines_behind book) fits ≡ true)
    (alike : is_wrong (before.heading (first_line book)) ≡ false → Alike after before (edition_by before book) fits Holds) where
  refusal_same : (n : ℕ) → book_refusal_by after book n ≡ book_refusal_by before book n
  unfolding book_refusal_by book_tests_by
  refusal_same n = rw heading_same

  deals_same : (n : ℕ) → answered_deals_by after book n ≡ answered_deals_by before book n
  unfolding answered_deals_by
  deals_same n = rw (refusal_same n)

  pub reply_same : (n : ℕ) → book_reply_by after book n ≡ book_reply_by before book n
  unfolding book_reply_by
  reply_same n = rw (refusal_same n, deals_same n)

  -- wrong, it is refused, and no deal of it is answered
  wrong_refused : (n : ℕ) → is_wrong (before.heading (first_line book)) ≡ true → answered_deals_by before book n ≡ []
  unfolding answered_deals_by book_refusal_by book_tests_by first_or
  wrong_refused n e = rw e (either (λ (r : ℕ). (if eqb r 0 then deals_of book else []) ≡ []) (ltb book_limit (length book)) (λ h. refl) (λ h. refl))

  -- the deals that are answered are of lines of the book
  all_fit : (n : ℕ) → all_pass (answered_deals_by before book n) (λ deal. all_pass (deal.opening ∷ deal.further) fits) ≡ true
  unfolding answered_deals_by
  all_fit n =
      either (λ (ds : List DealLines). all_pass ds (λ deal. all_pass (deal.opening ∷ deal.further) fits) ≡ true) (eqb (book_refusal_by before book n) 0)
      (λ h. deals_pass fits 2 (lines_behind book) fit) (λ h. refl)

  book_answers : (n : ℕ) → answers_by after (edition_by after book) 1 (answered_deals_by after book n) ≡ answers_by before (edition_by before book) 1 (answered_deals_by before book n)
  unfolding answers_by
  book_answers n = rw (heading_same, deals_same n) (go (is_wrong (before.heading (first_line book))) refl)
    where
      edition : ℕ
      edition = edition_by before book

      deals : List DealLines
      deals = answered_deals_by before book n

      go : (t : Bool) → is_wrong (before.heading (first_line book)) ≡ t → answers_by after edition 1 deals ≡ answers_by before edition 1 deals
      go true e = rw (wrong_refused n e)
      go false e = answers_same after before edition fits Holds (alike e) 1 deals (all_fit n)

  pub results_same : (list : List ℕ) → results_by after book list ≡ results_by before book list
  unfolding results_by
  results_same list = ap (λ answers. overwrite answers list) (book_answers (length list))

  pub printed_same : printed_by after book ≡ printed_by before book
  unfolding printed_by
  printed_same =
      ap (λ answers. result_text (book_refusal_by after book places) (length (answered_deals_by after book places)) answers) (book_answers places)
      ∙ ap (λ r. result_text r (length (answered_deals_by after book places)) (answers_by before (edition_by before book) 1 (answered_deals_by before book places))) (refusal_same places)
      ∙ ap (λ (ds : List DealLines). result_text (book_refusal_by before book places) (length ds) (answers_by before (edition_by before book) 1 (answered_deals_by before book places))) (deals_same places)

-- a book whose first line a set of rules finds wrong is refused by 9, unless it is too long
pub wrong_by_9 : (rules : Rules) (book : List ℕ) (n : ℕ) → is_wrong (rules.heading (first_line book)) ≡ true → length book ≤ book_limit → book_refusal_by rules book n ≡ 9
unfolding book_refusal_by book_tests_by first_or
wrong_by_9 rules book n wrong h = rw (le-ltb book_limit (length book) h, wrong)
