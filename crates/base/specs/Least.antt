-- The least number that passes a test.
use Rattle.std.specs.Prelude.{ℕ, zero, suc, ◌+◌, ◌/◌, ◌≤◌, Bool, leb, if◌then◌else◌}

-- the meaning: h passes, and every number that passes is at least h
pub record Least (Passes : ℕ → Type 0) (h : ℕ) : Type 0 where
  pub passes : Passes h
  pub lowest : (k : ℕ) → Passes k → h ≤ k

-- a way to compute it, for a test that once passed stays passed: halving between low, which fails, and high, which passes.
-- The first number bounds the halvings
unfoldable pub between : (ℕ → Bool) → ℕ → ℕ → ℕ → ℕ
between test zero low high = high
between test (suc halvings) low high =
    let middle = (low + high) / 2 in
    let lower = between test halvings low middle in
    let upper = between test halvings middle high in
    let half = if test middle then lower else upper in
    if leb high (suc low) then high else half

-- from 0 to high, which passes, with more than enough halvings (`least_is`: it is the Least)
unfoldable pub least : (ℕ → Bool) → ℕ → ℕ
least test high = let above = between test high 0 high in if test 0 then 0 else above
