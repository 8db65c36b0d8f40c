-- Which lines are listed. 02: L14. Assumes nothing.
use Prim.Native.Nat.{ℕ, zero, suc, ◌+◌, ◌≤◌, ◌<◌}
use mathlib.Core.Path.{◌≡◌, refl, sym, ◌∙◌}
use mathlib.Core.Bool.{Bool, true, false, ◌&&◌}
use mathlib.Core.List.{List, [], ◌∷◌, map}
use native.Mathlib.Omega.{arith}
use native.Mathlib.Nat.{le_of_suc-le-suc, not-suc-le-zero, add-suc, suc-add}
use borrow.Author.Tests.{eq-eqb, le-leb, leb-true, ne_eqb}
use lib.Dec.{leb}
use lib.ListN.{get_or, length}
use Rattle.base.proofs.Every.{both}
use Rattle.text.specs.Text.{lines_of}
use Rattle.mail.specs.Mail.{altered_lines, repaired}
use Rattle.mail.specs.Bytewise.{bytewise, changed, changed_from}
use Rattle.mail.specs.Listed.{listed}
use Rattle.mail.proofs.Altering.{changes}
use Rattle.mail.proofs.Lines.{lines_bytewise}
use Rattle.mail.proofs.Runs.{bytewise_is, numbers_are}

lower_missing : (k n : ℕ) (lines : List (List ℕ)) → k < n → listed k (changed_from n lines) ≡ false
unfolding changed_from
lower_missing k n [] h = refl
lower_missing k n (line ∷ lines) h = go (changed line) refl (lower_missing k (suc n) lines (omega arith))
  where
    go : (t : Bool) → changed line ≡ t → listed k (changed_from (suc n) lines) ≡ false → listed k (changed_from n (line ∷ lines)) ≡ false
    go true e m = rw (e, ne_eqb k n (omega arith)) m
    go false e m = rw e m

listed_from : (n i : ℕ) (lines : List (List ℕ)) → i < length lines → listed (n + i) (changed_from n lines) ≡ changed (get_or lines i [])
unfolding changed_from
listed_from n i [] h = absurd (not-suc-le-zero h)
listed_from n zero (line ∷ lines) h = go (changed line) refl
  where
    go : (t : Bool) → changed line ≡ t → listed (n + 0) (changed_from n (line ∷ lines)) ≡ changed line
    go true e = rw (e, eq-eqb (n + 0) n (omega arith))
    go false e = rw (e, lower_missing (n + 0) (suc n) lines (omega arith))
listed_from n (suc i) (line ∷ lines) h = go (changed line) refl (rw (suc-add n i, ← add-suc n i) at (listed_from (suc n) i lines (le_of_suc-le-suc h)))
  where
    go : (t : Bool) → changed line ≡ t → listed (n + suc i) (changed_from (suc n) lines) ≡ changed (get_or lines i [])
        → listed (n + suc i) (changed_from n (line ∷ lines)) ≡ changed (get_or lines i [])
    go true e m = rw (e, ne_eqb (n + suc i) n (omega arith)) m
    go false e m = rw e m

at_mapped : (i : ℕ) (lines : List (List ℕ)) → i < length lines → get_or (map bytewise lines) i [] ≡ bytewise (get_or lines i [])
at_mapped i [] h = absurd (not-suc-le-zero h)
at_mapped zero (line ∷ lines) h = refl
at_mapped (suc i) (line ∷ lines) h = at_mapped i lines (le_of_suc-le-suc h)

-- a line, the first one being line 1, is listed exactly if its bytes are others afterwards
pub listed_exactly : (text : List ℕ) (i : ℕ) → i < length (lines_of text) →
    (listed (1 + i) (altered_lines text) ≡ true → get_or (lines_of (repaired text)) i [] ≡ get_or (lines_of text) i [] → ⊥)
    × ((get_or (lines_of (repaired text)) i [] ≡ get_or (lines_of text) i [] → ⊥) → listed (1 + i) (altered_lines text) ≡ true)
listed_exactly text i h =
    let line = get_or (lines_of text) i [] in
    let e : get_or (lines_of (repaired text)) i [] ≡ bytewise line = rw (bytewise_is text, lines_bytewise text) (at_mapped i (lines_of text) h) in
    let k : listed (1 + i) (altered_lines text) ≡ changed line = rw (numbers_are text) (listed_from 1 i (lines_of text) h) in
    let c = changes line in
    (λ l q. c.0 (sym k ∙ l) (sym e ∙ q), λ n. k ∙ c.1 (λ q. n (e ∙ q)))

-- each number is above the one before it, and the first is at least n
abbrev rises_from : ℕ → List ℕ → Bool
rises_from n [] = true
rises_from n (x ∷ xs) = leb n x && rises_from (suc x) xs

rising_from : (m n : ℕ) (lines : List (List ℕ)) → m ≤ n → rises_from m (changed_from n lines) ≡ true
unfolding changed_from
rising_from m n [] h = refl
rising_from m n (line ∷ lines) h =
    go (changed line) refl (rising_from (suc n) (suc n) lines (omega arith)) (rising_from m (suc n) lines (omega arith))
  where
    go : (t : Bool) → changed line ≡ t → rises_from (suc n) (changed_from (suc n) lines) ≡ true → rises_from m (changed_from (suc n) lines) ≡ true
        → rises_from m (changed_from n (line ∷ lines)) ≡ true
    go true e next same = rw (e, le-leb m n h) next
    go false e next same = rw e same

rising : (text : List ℕ) → rises_from 1 (altered_lines text) ≡ true
rising text = rw (numbers_are text) (rising_from 1 1 (lines_of text) (omega arith))

-- and no number but those of lines
higher_missing : (k n : ℕ) (lines : List (List ℕ)) → n + length lines ≤ k → listed k (changed_from n lines) ≡ false
unfolding changed_from
higher_missing k n [] h = refl
higher_missing k n (line ∷ lines) h = go (changed line) refl (higher_missing k (suc n) lines (omega arith))
  where
    go : (t : Bool) → changed line ≡ t → listed k (changed_from (suc n) lines) ≡ false → listed k (changed_from n (line ∷ lines)) ≡ false
    go true e m = rw (e, ne_eqb k n (omega arith)) m
    go false e m = rw e m

pub none_past : (text : List ℕ) (k : ℕ) → length (lines_of text) < k → listed k (altered_lines text) ≡ false
none_past text k h = rw (numbers_are text) (higher_missing k 1 (lines_of text) (omega arith))

-- "rising, each once", by places
rises_above : (n i : ℕ) (xs : List ℕ) → rises_from n xs ≡ true → i < length xs → n ≤ get_or xs i 0
rises_above n i [] h k = absurd (not-suc-le-zero k)
rises_above n zero (x ∷ xs) h k = leb-true n x (both (leb n x) (rises_from (suc x) xs) h).0
rises_above n (suc i) (x ∷ xs) h k =
    let b = both (leb n x) (rises_from (suc x) xs) h in
    omega (arith, leb-true n x b.0, rises_above (suc x) i xs b.1 (le_of_suc-le-suc k))

rises_on : (n i j : ℕ) (xs : List ℕ) → rises_from n xs ≡ true → i < j → j < length xs → get_or xs i 0 < get_or xs j 0
rises_on n i j [] h k l = absurd (not-suc-le-zero l)
rises_on n i zero (x ∷ xs) h k l = absurd (not-suc-le-zero k)
rises_on n zero (suc j) (x ∷ xs) h k l = rises_above (suc x) j xs (both (leb n x) (rises_from (suc x) xs) h).1 (le_of_suc-le-suc l)
rises_on n (suc i) (suc j) (x ∷ xs) h k l = rises_on (suc x) i j xs (both (leb n x) (rises_from (suc x) xs) h).1 (le_of_suc-le-suc k) (le_of_suc-le-suc l)

pub rising_places : (text : List ℕ) (i j : ℕ) → i < j → j < length (altered_lines text) → get_or (altered_lines text) i 0 < get_or (altered_lines text) j 0
rising_places text i j h k = rises_on 1 i j (altered_lines text) (rising text) h k

pub none_below : (text : List ℕ) (i : ℕ) → i < length (altered_lines text) → 1 ≤ get_or (altered_lines text) i 0
none_below text i h = rises_above 1 i (altered_lines text) (rising text) h
