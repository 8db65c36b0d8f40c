-- A higher limit of days in a book: a deal's answer stays unless it was a 5 and a line of it holds a day above the lower limit. Assumes
-- nothing.
use Prim.Native.Nat.{ℕ, ◌≤◌, ◌+◌}
use mathlib.Core.Logic.{inl, inr}
use mathlib.Core.Path.{◌≡◌, refl, sym, ap, ◌∙◌}
use mathlib.Core.Bool.{Bool, true, false, ◌&&◌}
use mathlib.Core.List.{List, [], ◌∷◌}
use borrow.Author.Tests.{eq-eqb, eqb-true}
use lib.Dec.{eqb}
use lib.ListN.{get_or, length}
use Rattle.base.specs.All.{all_pass}
use Rattle.base.specs.Writing.{overwrite}
use Rattle.base.proofs.Choice.{either, if_false, if_true, never}
use Rattle.base.proofs.Every.{both}
use Rattle.deal.specs.declared.deal.Deal.{Deal}
use Rattle.lines.specs.Lines.{line_of}
use Rattle.lines.specs.declared.line.Line.{Line}
use Rattle.lines.specs.declared.line.Line.TheVariants.{DealLine, CollateralLine, GuaranteeLine, Malformed}
use Rattle.book.specs.Answers.{refused_at}
use Rattle.book.specs.Book.{book_edition, deals_of, lines_behind}
use Rattle.book.specs.Deals.{DealLines}
use Rattle.result.specs.Result.{result_text}
use Rattle.response.specs.Response.{places}
use Rattle.earlier.specs.Books.{answers_by, answered_deals_by, book_refusal_by, book_tests_by, deal_answer_by, line_opened_by, line_refusal_by, lines_answer_by, opening_refusal_by, printed_by, reported_by, results_by, with_line_by}
use Rattle.earlier.specs.Days.{accepted_up_to, deal_lines_none_above, line_none_above, lines_none_above, printed_up_to, results_up_to}
use Rattle.earlier.specs.Rules.{up_to}
use Rattle.earlier.proofs.Days.{adding_collateral_stays, adding_guarantee_stays, apart, opened_stays, opening_stays, same_report, same_reporting, with_collateral_stays, with_guarantee_stays, zero_kept}
use Rattle.earlier.proofs.Lines.{deals_pass, line_accepted, opened_edition, opening_accepted, said_edition, same_terms}
use Rattle.earlier.proofs.Fields.{Kept}

-- what an answer and its lines are asked for, of the lines behind the first one, and of the first one where it is refused
kept_on : {answer rest : List ℕ} (first others : Bool) → answer ≡ rest → Kept (get_or answer 0 0) (first && others) → Kept (get_or rest 0 0) others
kept_on first others h (inl f) = inl (rw h at f)
kept_on first others h (inr f) = inr (both first others f).1

kept_at : {answer : List ℕ} (first others : Bool) (refusal number : ℕ) → answer ≡ refused_at refusal number → Kept (get_or answer 0 0) (first && others) → Kept refusal first
unfolding refused_at
kept_at first others refusal number h (inl f) = inl (rw h at f)
kept_at first others refusal number h (inr f) = inr (both first others f).0

kept_under : {edition edition' : ℕ} (refusal low : ℕ) (lines : List (List ℕ)) → edition' ≡ edition → Kept refusal (lines_none_above low edition lines) →
    Kept refusal (lines_none_above low edition' lines)
kept_under refusal low lines same k = rw same k

module _ (low high : ℕ) (raised : low ≤ high) where
  -- a line

  opening_line : (line : Line) → Kept (opening_refusal_by (up_to low) line) (line_none_above low line) → opening_refusal_by (up_to high) line ≡ opening_refusal_by (up_to low) line
  unfolding opening_refusal_by line_none_above
  opening_line (DealLine t) k = opening_stays low high raised t k
  opening_line (CollateralLine c) k = refl
  opening_line (GuaranteeLine g) k = refl
  opening_line Malformed k = refl

  opened_line : (line : Line) → opening_refusal_by (up_to low) line ≡ 0 → line_opened_by (up_to high) line ≡ line_opened_by (up_to low) line
  unfolding opening_refusal_by line_opened_by
  opened_line (DealLine t) e = opened_stays low high raised t (zero_kept e)
  opened_line (CollateralLine c) e = absurd (never (eq-eqb _ 0 e) refl)
  opened_line (GuaranteeLine g) e = absurd (never (eq-eqb _ 0 e) refl)
  opened_line Malformed e = absurd (never (eq-eqb _ 0 e) refl)

  further_line : (d : Deal) (line : Line) → accepted_up_to low d ≡ true → Kept (line_refusal_by (up_to low) d line) (line_none_above low line) → line_refusal_by (up_to high) d line ≡ line_refusal_by (up_to low) d line
  unfolding line_refusal_by line_none_above
  further_line d (CollateralLine c) a k = adding_collateral_stays low high raised d a c k
  further_line d (GuaranteeLine g) a k = adding_guarantee_stays low high raised d a g k
  further_line d (DealLine t) a k = refl
  further_line d Malformed a k = refl

  with_line_lem : (d : Deal) (line : Line) → accepted_up_to low d ≡ true → line_refusal_by (up_to low) d line ≡ 0 → with_line_by (up_to high) d line ≡ with_line_by (up_to low) d line
  unfolding line_refusal_by with_line_by
  with_line_lem d (CollateralLine c) a e = with_collateral_stays low high raised d a c (zero_kept e)
  with_line_lem d (GuaranteeLine g) a e = with_guarantee_stays low high raised d a g (zero_kept e)
  with_line_lem d (DealLine t) a e = refl
  with_line_lem d Malformed a e = refl

  reported_stays : (opening : ℕ) (d : Deal) → accepted_up_to low d ≡ true → reported_by (up_to high) opening d ≡ reported_by (up_to low) opening d
  unfolding reported_by
  reported_stays opening d a = rw (same_reporting low high raised d a, same_report low high raised d a)

  -- one more line of a deal, and those behind it
  module _ (opening number : ℕ) (d : Deal) (line : List ℕ) (lines : List (List ℕ)) (a : accepted_up_to low d ≡ true) where
    abbrev said : Line
    said = line_of d.terms.edition line

    abbrev refusal : ℕ
    refusal = line_refusal_by (up_to low) d said

    abbrev after : Deal
    after = with_line_by (up_to low) d said

    line_stays : Kept (get_or (lines_answer_by (up_to low) opening number d (line ∷ lines)) 0 0) (lines_none_above low d.terms.edition (line ∷ lines)) →
        (accepted_up_to low after ≡ true → Kept (get_or (lines_answer_by (up_to low) opening (number + 1) after lines) 0 0) (lines_none_above low after.terms.edition lines) → lines_answer_by (up_to high) opening (number + 1) after lines ≡ lines_answer_by (up_to low) opening (number + 1) after lines) →
        lines_answer_by (up_to high) opening number d (line ∷ lines) ≡ lines_answer_by (up_to low) opening number d (line ∷ lines)
    unfolding lines_answer_by
    line_stays k later = go (eqb refusal 0) refl
      where
        go : (t : Bool) → eqb refusal 0 ≡ t → lines_answer_by (up_to high) opening number d (line ∷ lines) ≡ lines_answer_by (up_to low) opening number d (line ∷ lines)
        go true e =
            let none = eqb-true refusal 0 e in
            let before = if_true _ (lines_answer_by (up_to low) opening (number + 1) after lines) (refused_at refusal number) e in
            let same : after.terms.edition ≡ d.terms.edition = ap (λ t. t.edition) (same_terms (up_to low) d said) in
            if_true _ _ _ (eq-eqb _ 0 (further_line d said a (zero_kept none) ∙ none))
            ∙ ap (λ x. lines_answer_by (up_to high) opening (number + 1) x lines) (with_line_lem d said a none)
            ∙ later (line_accepted (up_to low) (apart low) d said a none) (kept_under (get_or (lines_answer_by (up_to low) opening (number + 1) after lines) 0 0) low lines same (kept_on (line_none_above low said) (lines_none_above low d.terms.edition lines) before k))
            ∙ sym before
        go false e =
            let before = if_false _ (lines_answer_by (up_to low) opening (number + 1) after lines) (refused_at refusal number) e in
            let stays = further_line d said a (kept_at (line_none_above low said) (lines_none_above low d.terms.edition lines) refusal number before k) in
            if_false (eqb (line_refusal_by (up_to high) d said) 0) _ _ (rw stays e) ∙ ap (λ r. refused_at r number) stays ∙ sym before

  lines_stay : (opening number : ℕ) (d : Deal) (lines : List (List ℕ)) → accepted_up_to low d ≡ true →
      Kept (get_or (lines_answer_by (up_to low) opening number d lines) 0 0) (lines_none_above low d.terms.edition lines) →
      lines_answer_by (up_to high) opening number d lines ≡ lines_answer_by (up_to low) opening number d lines
  unfolding lines_answer_by
  lines_stay opening number d [] a k = reported_stays opening d a
  lines_stay opening number d (line ∷ lines) a k =
      line_stays opening number d line lines a k (λ b j. lines_stay opening (number + 1) (with_line_by (up_to low) d (line_of d.terms.edition line)) lines b j)

  -- A DEAL OF A BOOK

  pub deal_stays : (edition : ℕ) (deal : DealLines) → Kept (get_or (deal_answer_by (up_to low) edition deal) 0 0) (deal_lines_none_above low edition deal) →
      deal_answer_by (up_to high) edition deal ≡ deal_answer_by (up_to low) edition deal
  unfolding deal_answer_by refused_at
  deal_stays edition deal k = go (eqb refused 0) refl
    where
      line : Line
      line = line_of edition deal.opening

      refused : ℕ
      refused = opening_refusal_by (up_to low) line

      go : (t : Bool) → eqb refused 0 ≡ t → deal_answer_by (up_to high) edition deal ≡ deal_answer_by (up_to low) edition deal
      go true e =
          let none = eqb-true refused 0 e in
          let opened = line_opened_by (up_to low) line in
          let before = if_true _ (lines_answer_by (up_to low) deal.number (deal.number + 1) opened deal.further) (refused_at refused deal.number) e in
          let same : opened.terms.edition ≡ edition = opened_edition (up_to low) edition line (said_edition edition deal.opening) none in
          if_true _ _ _ (eq-eqb _ 0 (opening_line line (zero_kept none) ∙ none))
          ∙ ap (λ x. lines_answer_by (up_to high) deal.number (deal.number + 1) x deal.further) (opened_line line none)
          ∙ lines_stay deal.number (deal.number + 1) opened deal.further (opening_accepted (up_to low) line none) (kept_under (get_or (lines_answer_by (up_to low) deal.number (deal.number + 1) opened deal.further) 0 0) low deal.further same (kept_on (line_none_above low line) (lines_none_above low edition deal.further) before k))
          ∙ sym before
      go false e =
          let before = if_false _ (lines_answer_by (up_to low) deal.number (deal.number + 1) (line_opened_by (up_to low) line) deal.further) (refused_at refused deal.number) e in
          let stays = opening_line line (kept_at (line_none_above low line) (lines_none_above low edition deal.further) refused deal.number before k) in
          if_false (eqb (opening_refusal_by (up_to high) line) 0) _ _ (rw stays e) ∙ ap (λ r. refused_at r deal.number) stays ∙ sym before

  -- A BOOK

  answers_stay : (edition serial : ℕ) (deals : List DealLines) → all_pass deals (deal_lines_none_above low edition) ≡ true → answers_by (up_to high) edition serial deals ≡ answers_by (up_to low) edition serial deals
  unfolding answers_by
  answers_stay edition serial [] e = refl
  answers_stay edition serial (deal ∷ deals) e =
      let b = both (deal_lines_none_above low edition deal) _ e in
      rw (deal_stays edition deal (inr b.0), answers_stay edition (serial + 1) deals b.1)

-- the deals of a book that are answered, which no limit decides
module _ (low high : ℕ) (raised : low ≤ high) (book : List ℕ) (short : lines_none_above low (book_edition book) (lines_behind book) ≡ true) where
  deals_stay : (places : ℕ) → answers_by (up_to high) (book_edition book) 1 (answered_deals_by (up_to high) book places) ≡ answers_by (up_to low) (book_edition book) 1 (answered_deals_by (up_to low) book places)
  unfolding answered_deals_by book_refusal_by book_tests_by
  deals_stay places =
      either (λ (l : List DealLines). answers_by (up_to high) (book_edition book) 1 l ≡ answers_by (up_to low) (book_edition book) 1 l) (eqb (book_refusal_by (up_to low) book places) 0)
      (λ h. answers_stay low high raised (book_edition book) 1 (deals_of book) (deals_pass (λ line. line_none_above low (line_of (book_edition book) line)) 2 (lines_behind book) short))
      (λ h. answers_stay low high raised (book_edition book) 1 [] refl)

  -- the results list, whatever it held before, and what is printed
  pub results_stay : (list : List ℕ) → results_up_to high book list ≡ results_up_to low book list
  unfolding results_by
  results_stay list = ap (λ answers. overwrite answers list) (deals_stay (length list))

  pub printed_stays : printed_up_to high book ≡ printed_up_to low book
  unfolding printed_by answered_deals_by book_refusal_by book_tests_by
  printed_stays = ap (λ answers. result_text (book_refusal_by (up_to low) book places) (length (answered_deals_by (up_to low) book places)) answers) (deals_stay places)
