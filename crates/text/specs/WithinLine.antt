-- Places between the start of a line and its end.
use Rattle.std.specs.Prelude.{ℕ, ◌+◌, ◌≤◌, List, ◌≡◌, drop, length}
use Rattle.text.specs.Text.{first_line}

-- a place within the line that starts at `start`: the line ends at the same place, seen from either
pub record Near (text : List ℕ) (start at : ℕ) : Type 0 where
  pub inside : at ≤ length text
  pub same : at + length (first_line (drop at text)) ≡ start + length (first_line (drop start text))
