-- A range of numbers.
use Rattle.std.specs.Prelude.{ℕ, Bool, ◌&&◌, leb}

-- from the first to the last named, both included
unfoldable pub within : ℕ → ℕ → ℕ → Bool
within first last x = leb first x && leb x last
