-- A number in decimal, without leading zeros. 01: The book
use Rattle.std.specs.Prelude.{ℕ, zero, suc, ◌+◌, ◌/◌, ◌%◌, List, [], ◌∷◌, ◌++◌, ltb, if◌then◌else◌}

-- a number in at most so many digits: those of the number divided by 10, then its last one. 48 is the byte of the digit 0
unfoldable pub digit_text : ℕ → ℕ → List ℕ
digit_text zero n = []
digit_text (suc k) n = if ltb n 10 then (48 + n) ∷ [] else digit_text k (n / 10) ++ (48 + n % 10) ∷ []

-- 20 digits write every 64-bit number
unfoldable pub number_text : ℕ → List ℕ
number_text n = digit_text 20 n
