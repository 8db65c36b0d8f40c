-- The deals of a book: which lines open one, and which are its own. 01: The book
use Rattle.std.specs.Prelude.{ℕ, ◌+◌, Bool, List, [], ◌∷◌, if◌then◌else◌}
use Rattle.text.specs.Bytes.{bytes}
use Rattle.text.specs.Text.{starts_with}

-- "Every line beginning with D and a tab opens a deal"
abbrev pub opens_deal : List ℕ → Bool
opens_deal line = starts_with (bytes "D\t") line

-- "lines up to the next such line are its own"
unfoldable pub own_lines : List (List ℕ) → List (List ℕ)
own_lines [] = []
own_lines (line ∷ lines) = if opens_deal line then [] else line ∷ own_lines lines

-- a deal in a book: the number of the line that opens it, that line, and its further lines, whatever they say
pub record DealLines : Type 0 where
  pub number : ℕ
  pub opening : List ℕ
  pub further : List (List ℕ)

-- the deals among lines, where the first line has this number. Lines before any that opens a deal are no deal's: refusal 12 shuts them
-- out
unfoldable pub deals_from : ℕ → List (List ℕ) → List DealLines
deals_from number [] = []
deals_from number (line ∷ lines) =
    let later = deals_from (number + 1) lines in
    if opens_deal line then record { number = number; opening = line; further = own_lines lines } ∷ later else later
