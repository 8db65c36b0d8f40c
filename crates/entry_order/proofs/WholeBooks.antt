-- Whole books whose deals are keyed in another order: row by row, and every byte that is printed. 02: L7. Assumes nothing.
use Prim.Native.Nat.{ℕ, suc, ◌+◌, ◌*◌, ◌<◌}
use mathlib.Core.Path.{◌≡◌, refl, sym, ap, ◌∙◌}
use mathlib.Core.Bool.{not}
use mathlib.Core.List.{List, [], ◌∷◌}
use borrow.Author.Tests.{eq-eqb}
use lib.Dec.{ltb}
use lib.ListN.{drop, length, take}
use Rattle.base.specs.All.{all_pass}
use Rattle.base.specs.FirstMet.{◌when◌, first_met}
use Rattle.base.proofs.Choice.{if_true}
use Rattle.text.specs.Text.{book_limit, first_line}
use Rattle.book.specs.Answers.{answers_from, deal_answer}
use Rattle.book.specs.Book.{answered_deals, book_edition, book_refusal, book_tests, deals_of, lines_behind, results_after}
use Rattle.book.specs.Deals.{DealLines, opens_deal}
use Rattle.book.specs.Heading.{heading_of, is_wrong}
use Rattle.book.proofs.Refusing.{accepted_results}
use Rattle.response.specs.Response.{places, printed}
use Rattle.entry_order.specs.Keyed.{AlikeDeals, deal_at, no_lines, row_at}
use Rattle.entry_order.proofs.InBooks.{alike_answers, row_of}

-- the row of a deal by its place
pub row_is : (book list : List ℕ) (k : ℕ) → book_refusal book (length list) ≡ 0 → k < length (deals_of book) →
    row_at k (results_after book list) ≡ (1 + k) ∷ deal_answer (book_edition book) (deal_at k book)
row_is book list k a h =
    ap (row_at k) (accepted_results book list a)
    ∙ row_of (book_edition book) no_lines 1 k (deals_of book) (drop (length (answers_from (book_edition book) 1 (deals_of book))) list) h

-- A ROW STAYS where the deal's answer does, in every book of this edition that has the deal in this place
pub same_row : (book book' list list' : List ℕ) → book_refusal book (length list) ≡ 0 → book_refusal book' (length list') ≡ 0 → book_edition book ≡ book_edition book' →
    (k : ℕ) → k < length (deals_of book) → k < length (deals_of book') → deal_answer (book_edition book) (deal_at k book) ≡ deal_answer (book_edition book) (deal_at k book') →
    row_at k (results_after book list) ≡ row_at k (results_after book' list')
same_row book book' list list' a a' edition k h h' same =
    row_is book list k a h
    ∙ ap (λ (l : List ℕ). (1 + k) ∷ l) same
    ∙ ap (λ n. (1 + k) ∷ deal_answer n (deal_at k book')) edition
    ∙ sym (row_is book' list' k a' h')

-- A BOOK IS REFUSED AS ANOTHER with its first line, its second line, its length and its number of deals
pub same_refusal : (book book' : List ℕ) (places : ℕ) → first_line book ≡ first_line book' → length book ≡ length book' → take 1 (lines_behind book) ≡ take 1 (lines_behind book') →
    length (deals_of book) ≡ length (deals_of book') → book_refusal book places ≡ book_refusal book' places
unfolding book_refusal book_tests
same_refusal book book' places first long second deals =
    λ i. first_met
    (10 when ltb book_limit (long i)
    ∷ 9 when is_wrong (heading_of (first i))
    ∷ 12 when not (all_pass (second i) opens_deal)
    ∷ 13 when ltb places (4 * deals i)
    ∷ [])

all_answered : (book : List ℕ) → book_refusal book places ≡ 0 → answered_deals book places ≡ deals_of book
unfolding answered_deals
all_answered book a = if_true _ _ _ (eq-eqb _ 0 a)

alike_length : (edition : ℕ) (ds es : List DealLines) → AlikeDeals edition ds es → length ds ≡ length es
alike_length edition [] [] a = refl
alike_length edition [] (e ∷ es) a = elim a [ ]
alike_length edition (d ∷ ds) [] a = elim a [ ]
alike_length edition (d ∷ ds) (e ∷ es) a = ap suc (alike_length edition ds es a.1)

-- EVERY BYTE THAT IS PRINTED STAYS, where each deal is the same or none of its lines is refused
pub same_printed : (book book' : List ℕ) → book_refusal book places ≡ 0 → book_refusal book' places ≡ 0 → book_edition book ≡ book_edition book' →
    AlikeDeals (book_edition book) (deals_of book) (deals_of book') → printed book ≡ printed book'
unfolding printed
same_printed book book' a a' edition alike =
    rw (
      all_answered book a,
      all_answered book' a',
      a,
      a',
      alike_length (book_edition book) (deals_of book) (deals_of book') alike,
      alike_answers (book_edition book) 1 (deals_of book) (deals_of book') alike,
      edition,
    )
    refl
