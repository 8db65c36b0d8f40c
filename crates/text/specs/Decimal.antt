-- Decimal digits. The digit 0 is the byte 48, 9 is 57.
use Rattle.std.specs.Prelude.{ℕ, ◌+◌, ◌*◌, ◌-◌, List, [], ◌∷◌}

-- the number that digits write, where the digits before them made this one
unfoldable pub decimal_from : ℕ → List ℕ → ℕ
decimal_from made [] = made
decimal_from made (d ∷ ds) = decimal_from (made * 10 + (d - 48)) ds

abbrev pub decimal : List ℕ → ℕ
decimal digits = decimal_from 0 digits
