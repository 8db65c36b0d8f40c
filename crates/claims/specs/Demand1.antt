-- DEMAND 1. "The answer to every call, on every input, is a figure or a refusal by number from document 01. It comes back without the
-- sender having tested anything, and a refused call leaves the deal and the results list as they were."
--
-- The contract of each operation asks nothing of the caller and says that the answer is the definition named here:
--   opening a deal     `deal::deal::Deal::open`                             terms_refusal, opened_deal
--   adding an item     `deal::deal::Deal::add_collateral`, `add_guarantee`,
--                      `add_swap`                                           add_collateral_refusal, with_collateral and the like
--   reporting a deal   `relief::report::Report::of`                         report_refusal, report_of
--   answering a book   `book::answer::answer_book`                          book_reply, results_after
-- (Repairing a book that came by mail, `mail::repair_book`, with refusals 20 and 41 of document 02, is MailedBooks; netting a set, `netting::set::NettingSet::reply`, with
-- 15, 16 and 17, is NettingSets.)
-- What follows is proved of those definitions, for every input whatever. Calls on numbers (crate hadlephoga) go through the same operations:
-- their contracts add 13 and 11 for lists of another length, and 40 for numbers that are no record, and determine every number of every list.
use Rattle.std.specs.Prelude.{ℕ, ◌≡◌, Bool, true, false, ◌||◌, List, [], ◌∷◌, eqb, get_or, length}
use Rattle.base.specs.FirstMet.{ExactFor}
use Rattle.base.specs.Writing.{overwrite}
use Rattle.deal.specs.Adding.{add_collateral_refusal, add_collateral_tests, add_guarantee_refusal, add_guarantee_tests, add_swap_refusal, with_collateral, with_guarantee, with_swap}
use Rattle.deal.specs.Answers.{answer_number}
use Rattle.deal.specs.Collateral.{append_collateral}
use Rattle.deal.specs.Guarantees.{append_guarantee}
use Rattle.deal.specs.Instruments.{as_swap}
use Rattle.deal.specs.Opening.{opened_deal}
use Rattle.deal.specs.Records.{accepted, deal_of}
use Rattle.deal.specs.Terms.{terms_refusal, terms_tests}
use Rattle.deal.specs.declared.terms.Terms.{Terms}
use Rattle.deal.specs.declared.collateral.Collateral.{Collateral}
use Rattle.deal.specs.declared.guarantee.Guarantee.{Guarantee}
use Rattle.deal.specs.declared.deal.Deal.{Deal}
use Rattle.relief.specs.Report.{refused_report, report_of, report_refusal}
use Rattle.book.specs.Answers.{answers_from, deal_answer}
use Rattle.book.specs.Book.{book_edition, book_refusal, book_reply, book_tests, deals_of, results_after}
use Rattle.book.specs.Deals.{DealLines}
use Rattle.book_laws.specs.Parts.{AnsweredBy}

abbrev pub is_among : List ℕ → ℕ → Bool
is_among [] n = false
is_among (m ∷ ms) n = eqb n m || is_among ms n

abbrev pub Among : List ℕ → ℕ → Type 0
Among ms n = is_among ms n ≡ true

-- how a line of a deal may be refused: 11, or by the operation
abbrev pub line_refusals : List ℕ
line_refusals = 11 ∷ 6 ∷ 1 ∷ 2 ∷ 3 ∷ 4 ∷ 5 ∷ 7 ∷ 8 ∷ []

pub record Demand1 : Type 0 where
  -- A FIGURE OR A REFUSAL BY NUMBER

  -- opening answers 0 or one of its refusals
  pub opening : (t : Terms) → Among (0 ∷ 1 ∷ 2 ∷ 3 ∷ 4 ∷ 5 ∷ []) (terms_refusal t)
  -- and so does adding
  pub adding_collateral : (d : Deal) (c : Collateral) → Among (0 ∷ 40 ∷ 6 ∷ 1 ∷ 2 ∷ 3 ∷ 4 ∷ 5 ∷ 7 ∷ 8 ∷ []) (add_collateral_refusal d c)
  pub adding_guarantee : (d : Deal) (g : Guarantee) → Among (0 ∷ 40 ∷ 6 ∷ 1 ∷ 2 ∷ 3 ∷ 4 ∷ 5 ∷ 7 ∷ 8 ∷ []) (add_guarantee_refusal d g)
  pub adding_swap : (d : Deal) (restructuring : ℕ) (g : Guarantee) → Among (0 ∷ 40 ∷ 6 ∷ 1 ∷ 2 ∷ 3 ∷ 4 ∷ 5 ∷ 7 ∷ 8 ∷ []) (add_swap_refusal d restructuring g)
  -- reporting answers 0 or 40, and its report says which
  pub reporting : (d : Deal) → Among (0 ∷ 40 ∷ []) (report_refusal d)
  pub report_says : (d : Deal) → answer_number (report_of d).answer ≡ report_refusal d
  -- a book as a whole is answered by 0 or one of its refusals ..
  pub book : (text : List ℕ) (places : ℕ) → Among (0 ∷ 10 ∷ 9 ∷ 12 ∷ 13 ∷ []) (book_refusal text places)
  -- .. and each deal in it, whatever edition the book says, by 0 or the refusal of a line, never by 40 ..
  pub deal_in_book : (edition : ℕ) (deal : DealLines) → Among (0 ∷ line_refusals) (get_or (deal_answer edition deal) 0 0)
  -- .. with a line's number, or the figures of an accepted deal's report; which line and which deal these are is what `deal_answer` says
  pub figures_in_book : (edition : ℕ) (deal : DealLines) → AnsweredBy (deal_answer edition deal)
  -- EXACTLY WHERE IT IS DUE

  -- a refusal is given exactly where its own test is met and none before it, and 0 exactly where none is met. What each test asks is read in
  -- deal/specs (Terms, Collateral, Guarantees, with Ranges, Parties, Assets) and book/specs/Book
  pub opening_due : (t : Terms) → ExactFor (terms_refusal t) (terms_tests t)
  pub collateral_due : (d : Deal) (c : Collateral) → ExactFor (add_collateral_refusal d c) (add_collateral_tests d c)
  pub guarantee_due : (d : Deal) (g : Guarantee) → ExactFor (add_guarantee_refusal d g) (add_guarantee_tests d g)
  pub swap_due : (d : Deal) (restructuring : ℕ) (g : Guarantee) → ExactFor (add_swap_refusal d restructuring g) (add_guarantee_tests d (as_swap restructuring g))
  pub reporting_due : (d : Deal) → (report_refusal d ≡ 40 → accepted d ≡ false) × (accepted d ≡ false → report_refusal d ≡ 40)
  pub book_due : (text : List ℕ) (places : ℕ) → ExactFor (book_refusal text places) (book_tests text places)
  -- WHAT IS NOT REFUSED

  -- gives an accepted deal, and adding changes only the next place and that list's count
  pub opened : (t : Terms) → terms_refusal t ≡ 0 → accepted (opened_deal t) ≡ true
  pub collateral_added : (d : Deal) (c : Collateral) → add_collateral_refusal d c ≡ 0 →
      (accepted (with_collateral d c) ≡ true) × (with_collateral d c ≡ deal_of d.terms (append_collateral d.collateral c) d.guarantees)
  pub guarantee_added : (d : Deal) (g : Guarantee) → add_guarantee_refusal d g ≡ 0 →
      (accepted (with_guarantee d g) ≡ true) × (with_guarantee d g ≡ deal_of d.terms d.collateral (append_guarantee d.guarantees g))
  pub swap_added : (d : Deal) (restructuring : ℕ) (g : Guarantee) → add_swap_refusal d restructuring g ≡ 0 →
      (accepted (with_swap d restructuring g) ≡ true)
      × (with_swap d restructuring g ≡ deal_of d.terms d.collateral (append_guarantee d.guarantees (as_swap restructuring g)))
  -- four numbers a deal are written from the front of the list, and nothing behind them
  pub list_written_lem : (text list : List ℕ) → book_refusal text (length list) ≡ 0 → results_after text list ≡ overwrite (answers_from (book_edition text) 1 (deals_of text)) list
  pub deals_counted : (text : List ℕ) (places : ℕ) → book_refusal text places ≡ 0 → (book_reply text places).deals ≡ length (deals_of text)
  -- WHAT IS REFUSED LEAVES THINGS AS THEY WERE

  -- a refused opening gives no deal: what stands beside it is none
  pub no_deal : (t : Terms) → eqb (terms_refusal t) 0 ≡ false → accepted (opened_deal t) ≡ false
  -- a refused addition leaves the deal as it was
  pub collateral_kept : (d : Deal) (c : Collateral) → eqb (add_collateral_refusal d c) 0 ≡ false → with_collateral d c ≡ d
  pub guarantee_kept : (d : Deal) (g : Guarantee) → eqb (add_guarantee_refusal d g) 0 ≡ false → with_guarantee d g ≡ d
  pub swap_kept : (d : Deal) (restructuring : ℕ) (g : Guarantee) → eqb (add_swap_refusal d restructuring g) 0 ≡ false → with_swap d restructuring g ≡ d
  -- a refused report is all zeros beside the 40
  pub report_zeros : (d : Deal) → accepted d ≡ false → report_of d ≡ refused_report
  -- a refused book leaves every number of the results list as it was
  pub list_kept : (text list : List ℕ) → eqb (book_refusal text (length list)) 0 ≡ false → results_after text list ≡ list
