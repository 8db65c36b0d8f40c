-- The fields of a line behind its letter. 01: The book
use Rattle.std.specs.Prelude.{ℕ, zero, suc, ◌+◌, Bool, false, List, [], ◌∷◌, Option, Some, None, option_map, eqb, drop, if◌then◌else◌}
use Rattle.base.specs.Places.{in_places}
use Rattle.text.specs.Text.{tab, line_feed}
use Rattle.deal.specs.Fields.{collateral_width}
use Rattle.lines.specs.Numbers.{number_of}
use Rattle.lines.specs.declared.number.Number.{Number}

-- a field: "parted by one tab" from what stands before it, then a number
unfoldable pub field_of : List ℕ → Option Number
field_of [] = None
field_of (b ∷ bs) = if eqb b tab then number_of bs else None

-- what is left of a line behind its last field is its line feed
unfoldable pub is_end : List ℕ → Bool
is_end [] = false
is_end (b ∷ []) = eqb b line_feed
is_end (b ∷ c ∷ bs) = false

-- a number put before the others, if all could be read
unfoldable pub and_then : ℕ → Option (List ℕ) → Option (List ℕ)
and_then value None = None
and_then value (Some values) = Some (value ∷ values)

-- by cases: no number, or one with its value and how many digits it has
unfoldable pub with_number : {A : Type 0} → Option Number → A → (ℕ → ℕ → A) → A
with_number None other given = other
with_number (Some number) other given = given number.value number.digits

-- so many fields and the line feed: "Each field is read from where the one before it stopped", which is
-- behind its tab and its digits
unfoldable pub fields_of : ℕ → List ℕ → Option (List ℕ)
fields_of zero rest = if is_end rest then Some [] else None
fields_of (suc n) rest = with_number (field_of rest) None (λ value count. and_then value (fields_of n (drop (1 + count) rest)))

-- the longest lines are C, and D and S with the sovereign's step
abbrev pub most_fields : ℕ
most_fields = collateral_width

-- a line's numbers in as many places as the longest line has, zeros behind them, if they could be read
unfoldable pub fields_held : Option (List ℕ) → Option (List ℕ)
fields_held fields = option_map (in_places most_fields 0) fields
