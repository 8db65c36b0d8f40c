-- What a refused book leaves, and what an accepted one. Assumes nothing.
use Prim.Native.Nat.{ℕ, ◌≤◌, ◌<◌}
use mathlib.Core.Path.{◌≡◌, refl, ◌∙◌}
use mathlib.Core.Bool.{false}
use mathlib.Core.List.{List, []}
use borrow.Author.Tests.{lt-ltb, le-ltb}
use lib.Dec.{eqb}
use lib.ListN.{length}
use Rattle.base.proofs.Choice.{if_false}
use Rattle.base.proofs.FirstMet.{met_first, not_met, none_met}
use Rattle.base.specs.Writing.{overwrite}
use Rattle.text.specs.Text.{book_limit}
use Rattle.mail.specs.Mail.{repaired, altered_lines}
use Rattle.mail.specs.Bytewise.{bytewise, numbers_of}
use Rattle.mail.specs.Reply.{repair_tests, repair_refusal, unless_refused, repair_reply, refused_reply, buffer_after, numbers_after, RepairOutcome}
use Rattle.mail.proofs.Runs.{bytewise_is, numbers_are}

left_alone : (n : ℕ) (xs : List ℕ) → eqb n 0 ≡ false → unless_refused n xs ≡ []
unfolding unless_refused
left_alone n xs e = if_false _ _ _ e

whole : (xs : List ℕ) → unless_refused 0 xs ≡ xs
unfolding unless_refused
whole xs = refl

pub too_long : (book : List ℕ) (room places : ℕ) → book_limit < length book → repair_refusal book room places ≡ 10
unfolding repair_refusal repair_tests
too_long book room places h = met_first 10 _ _ (lt-ltb book_limit (length book) h)

module _ (book buffer list : List ℕ) where
  abbrev refusal : ℕ
  refusal = repair_refusal book (length buffer) (length list)

  pub refused_outcome : (n : ℕ) → eqb n 0 ≡ false → refusal ≡ n → RepairOutcome book buffer list (refused_reply n) buffer list
  unfolding repair_reply buffer_after numbers_after
  refused_outcome n z e =
      record {
        replied = rw (e, left_alone n (repaired book) z, left_alone n (altered_lines book) z);
        written = rw (e, left_alone n (repaired book) z);
        numbered = rw (e, left_alone n (altered_lines book) z);
      }

  -- the tests in order, of the sizes that are found byte by byte
  module _ (short : length book ≤ book_limit) where
    pub buffer_short : length buffer < length (bytewise book) → refusal ≡ 20
    unfolding repair_refusal repair_tests
    buffer_short h =
        not_met 10 _ _ (le-ltb book_limit (length book) short) ∙ met_first 20 _ _ (lt-ltb (length buffer) (length (repaired book)) (rw (bytewise_is book) h))

    module _ (room : length (bytewise book) ≤ length buffer) where
      room_repaired : length (repaired book) ≤ length buffer
      room_repaired = rw (bytewise_is book) room

      pub list_short : length list < length (numbers_of 1 book) → refusal ≡ 41
      unfolding repair_refusal repair_tests
      list_short h =
          not_met 10 _ _ (le-ltb book_limit (length book) short) ∙ not_met 20 _ _ (le-ltb (length buffer) (length (repaired book)) room_repaired)
          ∙ met_first 41 _ _ (lt-ltb (length list) (length (altered_lines book)) (rw (numbers_are book) h))

      accepted : length (numbers_of 1 book) ≤ length list → refusal ≡ 0
      unfolding repair_refusal repair_tests
      accepted h =
          none_met (repair_tests book (length buffer) (length list))
          (le-ltb book_limit (length book) short, (le-ltb (length buffer) (length (repaired book)) room_repaired, (le-ltb (length list) (length (altered_lines book)) (rw (numbers_are book) h), tt)))

      -- both written
      pub accepted_outcome : (bytes numbers : ℕ) (buffer' list' : List ℕ) → length (numbers_of 1 book) ≤ length list → bytes ≡ length (bytewise book) → numbers ≡ length (numbers_of 1 book) →
          buffer' ≡ overwrite (bytewise book) buffer → list' ≡ overwrite (numbers_of 1 book) list →
          RepairOutcome book buffer list (record { refusal = 0; bytes = bytes; lines = numbers }) buffer' list'
      unfolding repair_reply buffer_after numbers_after
      accepted_outcome bytes numbers buffer' list' h p q r s =
          let e = accepted h in
          record {
            replied = rw (e, whole (repaired book), whole (altered_lines book), bytewise_is book, numbers_are book, p, q);
            written = rw (e, whole (repaired book), bytewise_is book) r;
            numbered = rw (e, whole (altered_lines book), numbers_are book) s;
          }
