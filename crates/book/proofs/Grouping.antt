-- Laws of the deals among lines. Assumes nothing.
use Prim.Native.Nat.{ℕ, ◌+◌, ◌≤◌, ◌<◌}
use mathlib.Core.Path.{◌≡◌, refl, ◌∙◌, ap}
use mathlib.Core.Bool.{Bool, true, false, not}
use mathlib.Core.List.{List, [], ◌∷◌}
use native.Mathlib.Omega.{arith}
use lib.ListN.{length, drop, drop_of_length-le}
use lib.Seq.{drop-cons}
use Rattle.base.proofs.Choice.{if_true, if_false, never}
use Rattle.base.proofs.Tests.{told_not_true, told_not_false}
use Rattle.text.specs.Text.{starts_with, first_line, lines_of}
use Rattle.text.proofs.Lines.{starts_first, lines_first, lines_at, no_lines}
use Rattle.book.specs.Deals.{opens_deal, own_lines, deals_from}
use Rattle.book.specs.Start.{own_first, first_deal}

-- a text opens a deal where its first line does
pub opens_first : (text : List ℕ) → opens_deal (first_line text) ≡ opens_deal text
opens_first text = starts_first _ text refl

pub opens_some : (text : List ℕ) → opens_deal text ≡ true → 1 ≤ length text
unfolding starts_with
opens_some [] h = absurd (never h refl)
opens_some (b ∷ bs) h = omega arith

module _ (number : ℕ) (line : List ℕ) (lines : List (List ℕ)) where
  pub deals_open : opens_deal line ≡ true
      → deals_from number (line ∷ lines) ≡ record { number = number; opening = line; further = own_lines lines } ∷ deals_from (number + 1) lines
  unfolding deals_from
  deals_open h = if_true _ _ _ h

  pub deals_pass : opens_deal line ≡ false → deals_from number (line ∷ lines) ≡ deals_from (number + 1) lines
  unfolding deals_from
  deals_pass h = if_false _ _ _ h

module _ (line : List ℕ) (lines : List (List ℕ)) where
  pub own_more : opens_deal line ≡ false → own_lines (line ∷ lines) ≡ line ∷ own_lines lines
  unfolding own_lines
  own_more h = if_false _ _ _ h

  pub own_end : opens_deal line ≡ true → own_lines (line ∷ lines) ≡ []
  unfolding own_lines
  own_end h = if_true _ _ _ h

pub no_own : own_lines [] ≡ []
unfolding own_lines
no_own = refl

pub no_deals : (number : ℕ) → deals_from number [] ≡ []
unfolding deals_from
no_deals number = refl

-- whether a text goes on with a line of the deal before it
module _ (text : List ℕ) (at : ℕ) where
  pub own_past : length text ≤ at → own_first (drop at text) ≡ false
  unfolding own_first
  own_past h = rw (drop_of_length-le text h)

  pub own_at : at < length text → own_first (drop at text) ≡ not (opens_deal (drop at text))
  unfolding own_first
  own_at h = rw (drop-cons text at 0 h)

pub own_opens_not : (text : List ℕ) → own_first text ≡ true → opens_deal text ≡ false
unfolding own_first
own_opens_not [] h = absurd (never h refl)
own_opens_not (b ∷ bs) h = told_not_false (opens_deal (b ∷ bs)) _ refl h

pub own_some : (text : List ℕ) → own_first text ≡ true → 1 ≤ length text
unfolding own_first
own_some [] h = absurd (never h refl)
own_some (b ∷ bs) h = omega arith

-- where it does not, it has none of that deal's lines, and starts with a deal if it is not empty
pub own_over : (text : List ℕ) → own_first text ≡ false → own_lines (lines_of text) ≡ []
unfolding own_first
own_over [] h = ap own_lines no_lines ∙ no_own
own_over (b ∷ bs) h =
    ap own_lines (lines_first b bs) ∙ own_end (first_line (b ∷ bs)) _ (opens_first (b ∷ bs) ∙ told_not_true (opens_deal (b ∷ bs)) _ refl h)

pub own_opens : (text : List ℕ) → own_first text ≡ false → 1 ≤ length text → opens_deal text ≡ true
unfolding own_first
own_opens [] h k = absurd (omega (arith, k))
own_opens (b ∷ bs) h k = told_not_true (opens_deal (b ∷ bs)) _ refl h

-- how many there are does not depend on the first line's number
pub deals_counted : (m n : ℕ) (lines : List (List ℕ)) → length (deals_from m lines) ≡ length (deals_from n lines)
deals_counted m n [] = rw (no_deals m, no_deals n)
deals_counted m n (line ∷ lines) = go (deals_counted (m + 1) (n + 1) lines) (opens_deal line) refl
  where
    go : length (deals_from (m + 1) lines) ≡ length (deals_from (n + 1) lines) → (t : Bool) → opens_deal line ≡ t
        → length (deals_from m (line ∷ lines)) ≡ length (deals_from n (line ∷ lines))
    go h true e = rw (deals_open m line lines e, deals_open n line lines e, h)
    go h false e = rw (deals_pass m line lines e, deals_pass n line lines e, h)

-- the deal that a text starts with, and the others
pub deals_first : (number : ℕ) (text : List ℕ) → opens_deal text ≡ true
    → deals_from number (lines_of text) ≡ first_deal number text ∷ deals_from (number + 1) (lines_of (drop (length (first_line text)) text))
unfolding starts_with
deals_first number [] h = absurd (never h refl)
deals_first number (b ∷ bs) h =
    ap (deals_from number) (lines_first b bs) ∙ deals_open number (first_line (b ∷ bs)) _ (opens_first (b ∷ bs) ∙ h)

-- from a place on: one line further, where that line opens none
pub deals_further : (number : ℕ) (text : List ℕ) (at : ℕ) → at < length text → opens_deal (drop at text) ≡ false
    → deals_from number (lines_of (drop at text)) ≡ deals_from (number + 1) (lines_of (drop (at + length (first_line (drop at text))) text))
deals_further number text at h k = ap (deals_from number) (lines_at text at h) ∙ deals_pass number (first_line (drop at text)) _ (opens_first (drop at text) ∙ k)
