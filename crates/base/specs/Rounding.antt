-- Rounding. A quotient rounded down is the library's `◌/◌`.
use Rattle.std.specs.Prelude.{ℕ, ◌+◌, ◌-◌, ◌/◌}

-- x / d rounded up, d at least 1 (`round_up_is`: the least m with x ≤ m * d)
unfoldable pub round_up : ℕ → ℕ → ℕ
round_up x d = (x + (d - 1)) / d
