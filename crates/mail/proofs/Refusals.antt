-- Where each refusal is due, and what it leaves. 02: L14. Assumes nothing.
use Prim.Native.Nat.{ℕ, ◌≤◌}
use mathlib.Core.Path.{◌≡◌, refl}
use mathlib.Core.Bool.{true, false}
use mathlib.Core.List.{List, []}
use native.Mathlib.Omega.{arith}
use borrow.Author.Tests.{eqb-true, le-ltb, ltb-false}
use lib.Dec.{eqb}
use lib.ListN.{length}
use Rattle.base.specs.FirstMet.{Exact, NoneMet}
use Rattle.base.specs.Writing.{overwrite}
use Rattle.base.proofs.Choice.{either, if_true, if_false}
use Rattle.base.proofs.FirstMet.{exact, none_exactly, none_met}
use Rattle.text.specs.Text.{book_limit, lines_of}
use Rattle.mail.specs.Mail.{altered_lines, repaired}
use Rattle.mail.specs.Reply.{buffer_after, numbers_written, numbers_after, refused_reply, bytes_written, repair_refusal, repair_reply, repair_tests, unless_refused}
use Rattle.mail.proofs.Kept.{few_lines, no_longer, no_more_lines}

-- exactly where it is due
pub repair_exact : (book : List ℕ) (room places : ℕ) → Exact (repair_tests book room places)
unfolding repair_tests
repair_exact book room places = exact (repair_tests book room places) refl

-- a buffer as long as the book and a list as long as its lines are enough
pub enough : (book : List ℕ) (room places : ℕ) → length book ≤ book_limit → length book ≤ room → length (lines_of book) ≤ places → repair_refusal book room places ≡ 0
unfolding repair_refusal repair_tests
enough book room places short r p =
    none_met (repair_tests book room places) (
      le-ltb book_limit (length book) short,
      (le-ltb room (length (repaired book)) (omega (arith, no_longer book, r)), (le-ltb places (length (altered_lines book)) (omega (arith, no_more_lines book, p)), tt)),
    )

-- so 65,536 of each are enough for every book
pub only_too_long : (book : List ℕ) → length book ≤ book_limit → repair_refusal book book_limit book_limit ≡ 0
only_too_long book short = enough book book_limit book_limit short short (omega (arith, few_lines book, short))

module _ (book buffer list : List ℕ) where
  abbrev refusal : ℕ
  refusal = repair_refusal book (length buffer) (length list)

  -- a refused book leaves both as they were, and both lengths are 0
  pub refused_untouched : eqb refusal 0 ≡ false →
      (repair_reply book (length buffer) (length list) ≡ refused_reply refusal)
      × ((buffer_after book buffer (length list) ≡ buffer) × (numbers_after book (length buffer) list ≡ list))
  unfolding repair_reply buffer_after numbers_after unless_refused
  refused_untouched e = (
    rw (if_false (eqb refusal 0) (repaired book) [] e, if_false (eqb refusal 0) (altered_lines book) [] e),
    (rw (if_false (eqb refusal 0) (repaired book) [] e), rw (if_false (eqb refusal 0) (altered_lines book) [] e)),
  )

  -- an accepted one is written from the front of both, and nothing behind
  pub accepted_written : refusal ≡ 0 →
      (repair_reply book (length buffer) (length list) ≡ record { refusal = 0; bytes = length (repaired book); lines = length (altered_lines book) })
      × ((buffer_after book buffer (length list) ≡ overwrite (repaired book) buffer) × (numbers_after book (length buffer) list ≡ overwrite (altered_lines book) list))
  unfolding repair_reply buffer_after numbers_after unless_refused
  accepted_written e = (
    rw (e, if_true true (repaired book) [] refl, if_true true (altered_lines book) [] refl),
    (rw (e, if_true true (repaired book) [] refl), rw (e, if_true true (altered_lines book) [] refl)),
  )

-- what is written has room
module _ (book : List ℕ) (room places : ℕ) where
  abbrev given : ℕ
  given = repair_refusal book room places

  none : given ≡ 0 → NoneMet (repair_tests book room places)
  unfolding repair_refusal repair_tests
  none e = none_exactly (repair_tests book room places) refl e

  bytes_fit : given ≡ 0 → length (repaired book) ≤ room
  unfolding repair_tests
  bytes_fit e = ltb-false room (length (repaired book)) (none e).1.0

  lines_fit : given ≡ 0 → length (altered_lines book) ≤ places
  unfolding repair_tests
  lines_fit e = ltb-false places (length (altered_lines book)) (none e).1.1.0

  unrefused : (xs : List ℕ) (n : ℕ) → (given ≡ 0 → length xs ≤ n) → length (unless_refused given xs) ≤ n
  unfolding unless_refused
  unrefused xs n h = either (λ (ys : List ℕ). length ys ≤ n) (eqb given 0) (λ e. h (eqb-true given 0 e)) (λ e. omega arith)

  pub bytes_inside : length (bytes_written book room places) ≤ room
  bytes_inside = unrefused (repaired book) room bytes_fit

  pub lines_inside : length (numbers_written book room places) ≤ places
  lines_inside = unrefused (altered_lines book) places lines_fit
