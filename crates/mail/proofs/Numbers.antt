-- The numbers of altered lines, with more in front of a text. Assumes nothing.
use Rattle.std.proofs.Common.{if◌then◌else◌}
use Prim.Native.Nat.{ℕ, suc}
use mathlib.Core.Path.{◌≡◌, refl, ◌∙◌}
use mathlib.Core.Bool.{Bool, true, false, not, ◌&&◌, ◌||◌}
use mathlib.Core.List.{List, [], ◌∷◌}
use borrow.Author.Tests.{eqb-true}
use lib.Dec.{eqb}
use lib.ListN.{drop}
use Rattle.text.specs.Text.{line_feed, first_line, extend_first, lines_of, same_bytes}
use Rattle.text.proofs.Lines.{lines_first, lines_unfed}
use Rattle.mail.specs.Bytewise.{feed_first, bytewise, tabbed, changed, changed_from, numbers_of, later_numbers}
use Rattle.mail.proofs.Kind.{Kind, kind, a_space, a_return, a_feed, other}
use Rattle.mail.proofs.Altering.{altered, changed_is}

-- what counts for a byte stands in its own line
pub feed_line : (text : List ℕ) → feed_first (first_line text) ≡ feed_first text
unfolding first_line feed_first
feed_line [] = refl
feed_line (b ∷ bs) = go (kind b) (feed_line bs)
  where
    go : {b : ℕ} → Kind b → feed_first (first_line bs) ≡ feed_first bs → feed_first (first_line (b ∷ bs)) ≡ feed_first (b ∷ bs)
    go a_space h = refl
    go a_return h = h
    go a_feed h = refl
    go (other p q r) h = simp (q, r)

-- a line with a byte in front of it
pub changed_more : (b : ℕ) (bs : List ℕ) → changed (b ∷ first_line bs) ≡ (altered b (feed_first bs) || changed (first_line bs))
changed_more b bs =
    changed_is (b ∷ first_line bs) ∙ rw (feed_line bs, changed_is (first_line bs))

pub changed_first : (b : ℕ) (bs : List ℕ) → changed (first_line (b ∷ bs)) ≡ (not (eqb b line_feed) && (altered b (feed_first bs) || changed (first_line bs)))
unfolding first_line changed same_bytes bytewise tabbed
changed_first b bs = go (eqb b line_feed) refl
  where
    go : (t : Bool) → eqb b line_feed ≡ t → changed (first_line (b ∷ bs)) ≡ (not (eqb b line_feed) && (altered b (feed_first bs) || changed (first_line bs)))
    go true e = rw (eqb-true b line_feed e)
    go false e = rw e (changed_more b bs)

-- the first line's number, if it changes, in front of the others'
pub numbers_first : (n : ℕ) (text : List ℕ) → numbers_of n text ≡ (if changed (first_line text) then n ∷ later_numbers (suc n) text else later_numbers (suc n) text)
unfolding lines_of first_line changed_from changed same_bytes bytewise
numbers_first n [] = refl
numbers_first n (b ∷ bs) = rw (lines_first b bs)

-- a byte of the first line changes nothing behind it
pub later_unfed : (n b : ℕ) (bs : List ℕ) → eqb b line_feed ≡ false → later_numbers n (b ∷ bs) ≡ later_numbers n bs
unfolding extend_first
later_unfed n b bs e = rw (lines_unfed b bs e) (go (lines_of bs))
  where
    go : (lines : List (List ℕ)) → changed_from n (drop 1 (extend_first b lines)) ≡ changed_from n (drop 1 lines)
    go [] = refl
    go (line ∷ lines) = refl
