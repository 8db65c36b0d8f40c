-- `book::answer::answer_book`: a book that meets no test has its deals answered. Assumes nothing.
use Rattle.std.proofs.Common.{ℕ, List, ◌≡◌, ◌-◌, ◌≤◌, ◌∙◌, ap, arith, sym, false, drop, eqb, length, take, Err, rules}
use lib.ListN.{length-drop}
use borrow.Author.Tests.{ltb-false}
use Rattle.base.specs.Writing.{overwrite}
use Rattle.base.proofs.Tests.{tests}
use Rattle.text.specs.Text.{book_limit, first_line, lines_of}
use Rattle.text.proofs.Lines.{first_inside, rest_part}
use Rattle.book.specs.Deals.{deals_from}
use Rattle.book.specs.Answers.{answers_from}
use Rattle.book.specs.Reply.{book_answer_number, book_refusal_number, reply_sent}
use Rattle.book.specs.Start.{own_first}
use Rattle.book.specs.Book.{book_edition, book_refusal, book_tests, text_behind}
use Rattle.book.proofs.Numbers.{book_refusal_some}
use Rattle.book.proofs.Refusing.{accepted_results, accepted_sent, accepted_tests, enough, heading_long, refused_results, refused_sent, second_wrong}
use Rattle.book.proofs.answer.answer_book.Goals as goal

-- what an accepted book has
module _ (book : List ℕ) (places : ℕ) (accepted : book_refusal book places ≡ 0) where
  short : length book ≤ book_limit
  unfolding book_tests
  short = ltb-false book_limit (length book) (accepted_tests book places accepted).0

  long : 2 ≤ length (first_line book)
  unfolding book_tests
  long = heading_long (first_line book) (accepted_tests book places accepted).1.0

  begins : own_first (text_behind book) ≡ false
  unfolding book_tests
  begins = sym (second_wrong (text_behind book)) ∙ (accepted_tests book places accepted).1.1.0

-- what is handed on
behind : (book : List ℕ) {start : ℕ} → start ≡ length (first_line book) → take (length book - start) (drop start book) ≡ text_behind book
behind book e = rest_part book _ ∙ ap (λ n. drop n book) e

pub returns-in_err-found : goal.returns-in_err-found
unfolding book_answer_number
returns-in_err-found c =
    let book = c.args.book.now in
    let before = c.args.results.now in
    let r = c.in_err-found.field-0.0 in
    let e : c.from_residual.result ≡ Err r = search rules in
    let n : book_refusal_number r ≡ book_refusal book (length before) = c.in_err-found.ensures.refusal in
    (ap reply_sent e ∙ refused_sent book (length before) r n, sym (refused_results book before (ap (λ n. eqb n 0) (sym n) ∙ book_refusal_some r)))

pub slice_bounds-answer_deals-count : goal.slice_bounds-answer_deals-count
slice_bounds-answer_deals-count c = omega (arith, c.in_ok-found.ensures.found.1.0, first_inside c.args.book.now)

pub slice_bounds-answer_deals-start : goal.slice_bounds-answer_deals-start
slice_bounds-answer_deals-start c = let h : c.in_ok-found.found.start ≤ length c.args.book.now = omega (arith, c.in_ok-found.ensures.found.1.0, first_inside c.args.book.now) in search (tests, h)

pub answer_deals-requires : goal.answer_deals-requires
unfolding book_answer_number
answer_deals-requires c =
    let book = c.args.book.now in
    let places = length c.args.results.now in
    let accepted : book_refusal book places ≡ 0 = sym c.in_ok-found.ensures.refusal in
    let l = length-drop (length (first_line book)) book in
    rw (behind book c.in_ok-found.ensures.found.1.0) (begins book places accepted, (omega (arith, l, short book places accepted, long book places accepted), enough book places accepted))

pub returns : goal.returns
unfolding book_answer_number
returns c =
    let book = c.args.book.now in
    let before = c.args.results.now in
    let found = c.in_ok-found.ensures.found in
    let accepted : book_refusal book (length before) ≡ 0 = sym c.in_ok-found.ensures.refusal in (
      accepted_sent book (length before) accepted found.1.1,
      c.answer_deals.ensures
          ∙ ap (λ edition. overwrite (answers_from edition 1 (deals_from 2 (lines_of (take (length book - c.in_ok-found.found.start) (drop c.in_ok-found.found.start book))))) before) found.0
          ∙ ap (λ text. overwrite (answers_from (book_edition book) 1 (deals_from 2 (lines_of text))) before) (behind book found.1.0)
          ∙ sym (accepted_results book before accepted),
    )
