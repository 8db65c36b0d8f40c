-- What is written for a mailed book's reply and list is what the program writes. Assumes nothing.
use Prim.Native.Nat.{ℕ, ◌≤◌, ◌<◌}
use mathlib.Core.Path.{◌≡◌, ◌∙◌, ap}
use mathlib.Core.List.{List, []}
use native.Mathlib.Omega.{arith}
use lib.ListN.{drop, length, length-append}
use Rattle.base.specs.Writing.{overwrite}
use Rattle.text.specs.Bytes.{bytes}
use Rattle.text.specs.Text.{book_limit}
use Rattle.result.specs.List.{list_text, list_written, number_lines}
use Rattle.result.specs.Numbers.{digit_text, number_text}
use Rattle.result.proofs.NumberLines.{list_written_lem}
use Rattle.mail.specs.Mail.{altered_lines, repaired}
use Rattle.mail.specs.Reply.{RepairOutcome, RepairReply, buffer_after, numbers_after, repair_reply, unless_refused}
use Rattle.mail.proofs.Again.{none_listed, repaired_twice}
use Rattle.mail.proofs.Kept.{no_longer}
use Rattle.mail.proofs.Refusals.{lines_inside, only_too_long}
use Rattle.mail.proofs.Replying.{too_long as refused_too_long}
use Rattle.repairing.specs.Repairing.{altered_numbers, book_written, notice_written, refusal_of}

-- what the contract of repairing says, where both lists have room for the longest book
module _ (book buffer list buffer' list' : List ℕ) (reply : RepairReply) (r : RepairOutcome book buffer list reply buffer' list') (room : length buffer ≡ 65536) (long : length list ≡ 65536) where
  pub book_whole : (reply.bytes ≡ length (book_written book)) × (buffer' ≡ overwrite (book_written book) buffer)
  unfolding book_written repair_reply buffer_after
  book_whole = (ap (λ s. s.bytes) r.replied ∙ rw (room, long), r.written ∙ rw (room, long))

  pub all_noticed : list_written reply.refusal reply.lines list' 1376285 ≡ notice_written book
  unfolding notice_written repair_reply numbers_after
  all_noticed =
      rw (r.replied, r.numbered, room, long) (list_written_lem (refusal_of book) 1376285 (altered_numbers book) _ (omega (arith, lines_inside book book_limit book_limit)))

  pub notice_whole : (notice notice' : List ℕ) (n : ℕ) → length notice ≡ 1376285
      → (let text = list_written reply.refusal reply.lines list' (length notice) in (n ≡ length text) × (notice' ≡ overwrite text notice))
      → (n ≡ length (notice_written book)) × (notice' ≡ overwrite (notice_written book) notice)
  notice_whole notice notice' n e w =
      let text : list_written reply.refusal reply.lines list' (length notice) ≡ notice_written book = ap (list_written reply.refusal reply.lines list') e ∙ all_noticed in
      (w.0 ∙ ap length text, w.1 ∙ ap (λ t. overwrite t notice) text)

-- a text at the front of a buffer is a part of it
inside : (n : ℕ) (text before after : List ℕ) → n ≡ length text → after ≡ overwrite text before → n ≤ length after
inside n text before after e h = omega (arith, e, ap length h ∙ length-append text (drop (length text) before))

pub book_inside : (book before after : List ℕ) (n : ℕ) → n ≡ length (book_written book) → after ≡ overwrite (book_written book) before → n ≤ length after
book_inside book before after n e h = inside n (book_written book) before after e h

pub notice_inside : (book before after : List ℕ) (n : ℕ) → n ≡ length (notice_written book) → after ≡ overwrite (notice_written book) before → n ≤ length after
notice_inside book before after n e h = inside n (notice_written book) before after e h

-- a book that is too long: nothing, and its refusal
pub too_long : (book : List ℕ) → book_limit < length book → (book_written book ≡ []) × (notice_written book ≡ bytes "REFUSED\t10\n")
unfolding book_written notice_written list_text number_text digit_text unless_refused
too_long book h = let e = refused_too_long book book_limit book_limit h in (rw e, rw e)

-- any other: the repaired book, and the numbers of its altered lines
pub whole_book : (book : List ℕ) → length book ≤ book_limit → book_written book ≡ repaired book
unfolding book_written unless_refused
whole_book book h = rw (only_too_long book h)

pub whole_notice : (book : List ℕ) → length book ≤ book_limit → notice_written book ≡ number_lines (length (altered_lines book)) (altered_lines book)
unfolding notice_written list_text unless_refused
whole_notice book h = rw (only_too_long book h)

-- and of what it wrote itself the same book, with nothing to say
pub own_output : (book : List ℕ) → length book ≤ book_limit → (book_written (book_written book) ≡ book_written book) × (notice_written (book_written book) ≡ [])
unfolding number_lines
own_output book h =
    let short : length (repaired book) ≤ book_limit = omega (arith, no_longer book, h) in (
      rw (whole_book book h) (whole_book (repaired book) short ∙ repaired_twice book),
      rw (whole_book book h) (whole_notice (repaired book) short ∙ rw (none_listed book)),
    )
