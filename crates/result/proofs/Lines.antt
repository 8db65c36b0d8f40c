-- The lines of deals and the whole text: how long they are at most, and how they are put together. Assumes nothing.
use Prim.Native.Nat.{ℕ, zero, suc, ◌+◌, ◌*◌, ◌-◌, ◌≤◌, ◌<◌}
use mathlib.Core.Path.{◌≡◌, refl, ap, ◌∙◌}
use mathlib.Core.List.{List, [], ◌∷◌, ◌++◌, append_assoc}
use native.Mathlib.Nat.{add-zero, sub-zero}
use native.Mathlib.Omega.{arith}
use lib.ListN.{length, length-append, take, drop, length-drop, get_or, get_or-append}
use lib.Seq.{get_or-drop, get_or-take, drop-drop, drop-append-le}
use Rattle.std.specs.Simd.{first_chunks}
use Rattle.base.specs.Writing.{Placed}
use Rattle.result.proofs.LineByLine.{PartWritten, none_written, line_written, whole_written}
use Rattle.text.specs.Text.{tab, line_feed}
use Rattle.result.specs.Numbers.{number_text}
use Rattle.result.specs.Result.{row, rows, result_text, room, fits, written}
use Rattle.result.proofs.Digits.{number_short}
use Rattle.result.proofs.Lent.{fitting_whole}

-- a number, and the byte that ends it
abbrev pub field : ℕ → ℕ → List ℕ
field n last = number_text n ++ last ∷ []

pub field_short : (n last : ℕ) → length (field n last) ≤ 21
field_short n last = omega (arith, number_short n, length-append (number_text n) (last ∷ []))

pub row_fields : (a b c d : ℕ) → row a b c d ≡ field a tab ++ field b tab ++ field c tab ++ field d line_feed
unfolding row
row_fields a b c d = simp append_assoc

pub row_short : (a b c d : ℕ) → length (row a b c d) ≤ 84
row_short a b c d =
    rw (row_fields a b c d, length-append (field a tab ++ field b tab ++ field c tab), length-append (field a tab ++ field b tab), length-append (field a tab))
    (omega (arith, field_short a tab, field_short b tab, field_short c tab, field_short d line_feed))

pub rows_none : (k : ℕ) (results : List ℕ) → k ≡ 0 → rows k results ≡ []
unfolding rows
rows_none k results e = rw e

-- the line of the deal whose numbers start at this place, and the lines behind it
pub rows_more : (j k first : ℕ) (results : List ℕ) → k ≡ suc j →
    rows k (drop first results) ≡ row (get_or results first 0) (get_or results (first + 1) 0) (get_or results (first + 2) 0) (get_or results (first + 3) 0) ++ rows j (drop (first + 4) results)
unfolding rows
rows_more j k first results e = simp (e, get_or-drop, drop-drop, add-zero)

-- so many deals of a list are written
pub record RowsWritten (before : List ℕ) (at : ℕ) (results : List ℕ) (deals : ℕ) (out : List ℕ) (place deal : ℕ) : Type 0 where
  pub inside : deal ≤ deals
  pub part : PartWritten (rows deals results) before at (84 * deal) out place (rows (deals - deal) (drop (4 * deal) results))

pub no_rows : (before : List ℕ) (at : ℕ) (results : List ℕ) (deals : ℕ) → RowsWritten before at results deals before at 0
no_rows before at results deals = record { inside = omega arith; part = rw sub-zero (none_written _ _ _) }

-- the four numbers of a deal
pub chunk_at : (k i : ℕ) (xs : List ℕ) → i < k → get_or (first_chunks 4 k xs) i [] ≡ take 4 (drop (4 * i) xs)
chunk_at zero i xs h = absurd (omega arith)
chunk_at (suc k) zero xs h = refl
chunk_at (suc k) (suc i) xs h =
    let m : 4 + 4 * i ≡ 4 * suc i = omega arith in
    chunk_at k i (drop 4 xs) (omega arith) ∙ ap (take 4) (drop-drop (4 * i) 4 xs ∙ ap (λ (j : ℕ). drop j xs) m)

pub number_at : (results numbers : List ℕ) (first j : ℕ) → numbers ≡ take 4 (drop first results) → j < 4 → get_or numbers j 0 ≡ get_or results (first + j) 0
number_at results numbers first j e h = rw e (get_or-take 4 (drop first results) j 0 h ∙ get_or-drop first results j 0)

module _ (before : List ℕ) (at : ℕ) (results : List ℕ) (deals : ℕ) (out : List ℕ) (place deal : ℕ) (h : RowsWritten before at results deals out place deal) where
  pub one_row : (numbers after : List ℕ) (end : ℕ) → numbers ≡ take 4 (drop (4 * deal) results) → deal < deals → at ≤ length before → length after ≡ length out
      → Placed place (row (get_or numbers 0 0) (get_or numbers 1 0) (get_or numbers 2 0) (get_or numbers 3 0)) out after end → RowsWritten before at results deals after end (deal + 1)
  one_row numbers after end e k r s p =
      let n : 4 * deal + 4 ≡ 4 * (deal + 1) = omega arith in
      let m : 84 * deal + 84 ≡ 84 * (deal + 1) = omega arith in
      let z : 4 * deal + 0 ≡ 4 * deal = omega arith in
      let at_place = number_at results numbers (4 * deal) in
      record {
        inside = omega arith;
        part = rw (← n, ← m)
            (line_written _ before at _ out place _ h.part _ _ after end 84 r
            (rows_more (deals - (deal + 1)) (deals - deal) (4 * deal) results (omega arith)) (row_short _ _ _ _) s
            (rw (at_place 0 e (omega arith), at_place 1 e (omega arith), at_place 2 e (omega arith), at_place 3 e (omega arith), z) at p));
      }

  pub all_rows : deals ≤ deal → Placed at (rows deals results) before out place
  all_rows k = whole_written _ _ _ _ _ _ _ h.part (rows_none _ _ (omega arith))

-- rows are made of the numbers at the list's front
rows_front : (deals : ℕ) (answers behind : List ℕ) → 4 * deals ≤ length answers → rows deals (answers ++ behind) ≡ rows deals answers
unfolding rows
rows_front zero answers behind h = refl
rows_front (suc k) answers behind h =
    let g : (i : ℕ) → i < 4 → get_or (answers ++ behind) i 0 ≡ get_or answers i 0 = λ i l. get_or-append answers behind 0 i (omega arith) in
    let d : drop 4 (answers ++ behind) ≡ drop 4 answers ++ behind = drop-append-le 4 answers behind (omega arith) in
    let r = rows_front k (drop 4 answers) behind (omega (arith, length-drop 4 answers)) in
    rw (g 0 (omega arith), g 1 (omega arith), g 2 (omega arith), g 3 (omega arith), d, r)

pub text_front : (refusal deals : ℕ) (answers behind : List ℕ) → 4 * deals ≤ length answers → result_text refusal deals (answers ++ behind) ≡ result_text refusal deals answers
unfolding result_text
text_front refusal deals answers behind h = rw (rows_front deals answers behind h)

-- the text is written where both have room
pub written_whole : (refusal deals space : ℕ) (results : List ℕ) → room deals ≤ space → 4 * deals ≤ length results → written refusal deals results space ≡ result_text refusal deals results
unfolding written fits
written_whole refusal deals space results h k = fitting_whole _ _ _ _ h k _
