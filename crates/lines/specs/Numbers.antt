-- Numbers in a line. 01: The book
use Rattle.std.specs.Prelude.{ℕ, Bool, not, ◌&&◌, ◌||◌, List, [], ◌∷◌, Option, Some, None, eqb, length, get_or, if◌then◌else◌}
use Rattle.base.specs.Range.{within}
use Rattle.text.specs.Decimal.{decimal}
use Rattle.lines.specs.declared.number.Number.{Number}

-- the bytes of the digits 0 to 9
abbrev pub is_digit : ℕ → Bool
is_digit b = within 48 57 b

-- the digits that a text starts with
unfoldable pub digits_of : List ℕ → List ℕ
digits_of [] = []
digits_of (b ∷ bs) = if is_digit b then b ∷ digits_of bs else []

-- "A number has 1 to 13 digits and no leading zero, save 0 itself"
unfoldable pub number_allowed : List ℕ → Bool
number_allowed digits = within 1 13 (length digits) && (eqb (length digits) 1 || not (eqb (get_or digits 0 0) 48))

-- digits with their value and how many they are, if they are a number
unfoldable pub number_read : List ℕ → ℕ → ℕ → Option Number
number_read digits value count = if number_allowed digits then Some (record { value = value; digits = count }) else None

-- the number that a text starts with
unfoldable pub number_of : List ℕ → Option Number
number_of text = let digits = digits_of text in number_read digits (decimal digits) (length digits)
