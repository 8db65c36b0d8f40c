-- What is written for a book's reply and list is what the program prints. Assumes nothing.
use Prim.Native.Nat.{ℕ, ◌+◌, ◌*◌, ◌≤◌}
use mathlib.Core.Path.{◌≡◌, ◌∙◌, ap}
use mathlib.Core.List.{List, ◌++◌}
use native.Mathlib.Omega.{arith}
use lib.ListN.{length, drop, length-append}
use Rattle.result.specs.Result.{room, result_text, written}
use Rattle.result.proofs.Lines.{text_front, written_whole}
use Rattle.book.specs.Answers.{answers_from}
use Rattle.book.specs.Book.{answered_deals, book_edition, book_refusal, book_reply, results_after}
use Rattle.base.specs.Writing.{overwrite}
use Rattle.book.proofs.Answering.{answers_long}
use Rattle.book.proofs.Refusing.{reply_refusal, reply_deals, results_made, answered_room}
use Rattle.response.specs.Response.{places, printed}

module _ (book before : List ℕ) (long : length before ≡ places) where
  abbrev deals : ℕ
  deals = length (answered_deals book places)

  abbrev answers : List ℕ
  answers = answers_from (book_edition book) 1 (answered_deals book places)

  made : results_after book before ≡ overwrite answers before
  made = results_made book before ∙ ap (λ n. overwrite (answers_from (book_edition book) 1 (answered_deals book n)) before) long

  room_for_all : room deals ≤ 172061
  room_for_all = omega (arith, answered_room book places)

  answers_inside : 4 * deals ≤ length (results_after book before)
  answers_inside =
      let h : length (results_after book before) ≡ length answers + length (drop (length answers) before) = ap length made ∙ length-append answers (drop (length answers) before) in
      omega (arith, h, answers_long (book_edition book) 1 (answered_deals book places))

  pub all_written : written (book_reply book places).refusal (book_reply book places).deals (results_after book before) 172061 ≡ printed book
  unfolding printed
  all_written =
      ap (λ r. written r (book_reply book places).deals (results_after book before) 172061) (reply_refusal book places)
      ∙ ap (λ d. written (book_refusal book places) d (results_after book before) 172061) (reply_deals book places)
      ∙ written_whole (book_refusal book places) deals 172061 (results_after book before) room_for_all answers_inside
      ∙ ap (result_text (book_refusal book places) deals) made
      ∙ text_front (book_refusal book places) deals answers (drop (length answers) before) (omega (arith, answers_long (book_edition book) 1 (answered_deals book places)))

-- a buffer that starts with the text has at least its length
pub printed_inside : (n : ℕ) (book rest after : List ℕ) → (n ≡ length (printed book)) × (after ≡ printed book ++ rest) → n ≤ length after
printed_inside n book rest after h =
    let k : length after ≡ length (printed book) + length rest = ap length h.1 ∙ length-append (printed book) rest in
    omega (arith, h.0, k)
