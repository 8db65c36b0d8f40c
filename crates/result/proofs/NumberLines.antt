-- The lines of a list's numbers: how they are put together, and that they are those of the numbers at its front. Assumes nothing.
use Prim.Native.Nat.{ℕ, zero, suc, ◌+◌, ◌*◌, ◌-◌, ◌≤◌, ◌<◌}
use mathlib.Core.Path.{◌≡◌, refl, ◌∙◌}
use mathlib.Core.List.{List, [], ◌∷◌, ◌++◌}
use native.Mathlib.Nat.{add-zero, sub-zero}
use native.Mathlib.Omega.{arith}
use lib.ListN.{length, length-append, drop, get_or}
use lib.Seq.{get_or-drop, drop-drop}
use Rattle.text.specs.Text.{line_feed}
use Rattle.result.specs.List.{number_lines, list_text, list_room, list_fits, list_written}
use Rattle.result.proofs.Lent.{fitting_whole}
use Rattle.result.proofs.Lines.{field, field_short}
use Rattle.result.proofs.LineByLine.{PartWritten, none_written, line_written, whole_written}
use Rattle.base.specs.Writing.{Placed}

pub lines_none : (k : ℕ) (numbers : List ℕ) → k ≡ 0 → number_lines k numbers ≡ []
unfolding number_lines
lines_none k numbers e = rw e

-- the line of the number at this place, and the lines behind it
pub lines_more : (j k i : ℕ) (numbers : List ℕ) → k ≡ suc j → number_lines k (drop i numbers) ≡ field (get_or numbers i 0) line_feed ++ number_lines j (drop (i + 1) numbers)
unfolding number_lines
lines_more j k i numbers e = simp (e, get_or-drop, drop-drop, add-zero)

-- the lines are made of the numbers at the list's front
lines_front : (count : ℕ) (numbers rest : List ℕ) → count ≤ length numbers → number_lines count (numbers ++ rest) ≡ number_lines count numbers
unfolding number_lines
lines_front zero numbers rest h = refl
lines_front (suc k) [] rest h = absurd (omega arith)
lines_front (suc k) (n ∷ numbers) rest h = rw (lines_front k numbers rest (omega arith))

-- of all the numbers, whatever stands behind them in the list
list_whole : (numbers rest : List ℕ) → number_lines (length numbers) (numbers ++ rest) ≡ number_lines (length numbers) numbers
list_whole numbers rest = lines_front (length numbers) numbers rest (omega arith)

-- the text is written where both have room
list_text_written : (refusal count space : ℕ) (numbers : List ℕ) → list_room count ≤ space → count ≤ length numbers → list_written refusal count numbers space ≡ list_text refusal count numbers
unfolding list_written list_fits
list_text_written refusal count space numbers h k = fitting_whole _ _ _ _ h k _

-- so of numbers at the front of a longer list all are written, and nothing else; or the refusal
pub list_written_lem : (refusal space : ℕ) (numbers rest : List ℕ) → list_room (length numbers) ≤ space →
    list_written refusal (length numbers) (numbers ++ rest) space ≡ list_text refusal (length numbers) numbers
unfolding list_text
list_written_lem refusal space numbers rest h =
    list_text_written refusal (length numbers) space (numbers ++ rest) h (omega (arith, length-append numbers rest)) ∙ rw (list_whole numbers rest)

-- so many numbers of a list are written
pub record NumbersWritten (before : List ℕ) (at : ℕ) (numbers : List ℕ) (count : ℕ) (out : List ℕ) (place i : ℕ) : Type 0 where
  pub inside : i ≤ count
  pub part : PartWritten (number_lines count numbers) before at (21 * i) out place (number_lines (count - i) (drop i numbers))

pub no_numbers : (before : List ℕ) (at : ℕ) (numbers : List ℕ) (count : ℕ) → NumbersWritten before at numbers count before at 0
no_numbers before at numbers count = record { inside = omega arith; part = rw sub-zero (none_written _ _ _) }

module _ (before : List ℕ) (at : ℕ) (numbers : List ℕ) (count : ℕ) (out : List ℕ) (place i : ℕ) (h : NumbersWritten before at numbers count out place i) where
  pub one_number : (after : List ℕ) (end n : ℕ) → i < count → at ≤ length before → n ≡ get_or numbers i 0 → length after ≡ length out → Placed place (field n line_feed) out after end →
      NumbersWritten before at numbers count after end (i + 1)
  one_number after end n k r e s p =
      let m : 21 * (i + 1) ≡ 21 * i + 21 = omega arith in
      record {
        inside = omega arith;
        part = rw m
            (line_written _ before at _ out place _ h.part _ _ after end 21 r
            (lines_more (count - (i + 1)) (count - i) i numbers (omega arith)) (field_short (get_or numbers i 0) line_feed) s (rw e at p));
      }

  pub all_numbers : count ≤ i → Placed at (number_lines count numbers) before out place
  all_numbers k = whole_written _ _ _ _ _ _ _ h.part (lines_none _ _ (omega arith))
