-- What `Mail` says of runs and lines, byte by byte, as both passes find it from the end of a text to its start: what stands behind a byte
-- decides about it. `bytewise_is` and `numbers_are` say that it is the same.
use Rattle.std.specs.Prelude.{ℕ, suc, Bool, false, not, ◌&&◌, ◌||◌, List, [], ◌∷◌, eqb, drop, if◌then◌else◌}
use Rattle.text.specs.Text.{tab, line_feed, lines_of, same_bytes}
use Rattle.mail.specs.Mail.{space, carriage_return}

-- whether a text starts with a space: a space in front of it is not the last one of its run
unfoldable pub space_first : List ℕ → Bool
space_first [] = false
space_first (b ∷ bs) = eqb b space

-- whether a text starts with a line feed, or with a run of carriage returns that ends at one
unfoldable pub feed_first : List ℕ → Bool
feed_first [] = false
feed_first (b ∷ bs) = eqb b line_feed || (eqb b carriage_return && feed_first bs)

-- whether a byte is left out; of a run of spaces the last one stays
abbrev pub left_out : ℕ → Bool → Bool → Bool
left_out b space_behind feed_behind = (eqb b space && space_behind) || (eqb b carriage_return && feed_behind)

-- what a byte that stays becomes
unfoldable pub tabbed : ℕ → ℕ
tabbed b = if eqb b space then tab else b

unfoldable pub bytewise : List ℕ → List ℕ
bytewise [] = []
bytewise (b ∷ bs) = if left_out b (space_first bs) (feed_first bs) then bytewise bs else tabbed b ∷ bytewise bs

-- whether a line's bytes change: no run of spaces, or of carriage returns that end at a line feed, goes on from one line into the next
unfoldable pub changed : List ℕ → Bool
changed line = not (same_bytes line (bytewise line))

-- the numbers of those that change, where the first line has this number
unfoldable pub changed_from : ℕ → List (List ℕ) → List ℕ
changed_from n [] = []
changed_from n (line ∷ lines) = if changed line then n ∷ changed_from (suc n) lines else changed_from (suc n) lines

abbrev pub numbers_of : ℕ → List ℕ → List ℕ
numbers_of n text = changed_from n (lines_of text)

-- those of the lines behind the first, where the second has this number
abbrev pub later_numbers : ℕ → List ℕ → List ℕ
later_numbers n text = changed_from n (drop 1 (lines_of text))
