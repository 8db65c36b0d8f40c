-- What the paper says of each run, with the bytes behind it, and that all it does not name stays. 02: L14
use Rattle.std.specs.Prelude.{ℕ, suc, ◌≡◌, false, List, [], ◌∷◌, ◌++◌, eqb, get_or, replicate}

-- a text does not start with this byte; an empty one reads as 0, which is none of these
abbrev pub NotFirst : ℕ → List ℕ → Type 0
NotFirst b rest = eqb (get_or rest 0 0) b ≡ false

-- 32 is a space, 9 a tab, 13 a carriage return, 10 a line feed
pub record OnRuns (f : List ℕ → List ℕ) : Type 0 where
  -- of no bytes there are none
  pub nothing : f [] ≡ []
  -- "turns each run of spaces into one tab": of one space, of two, of any number
  pub spaces : (n : ℕ) (rest : List ℕ) → NotFirst 32 rest → f (replicate (suc n) 32 ++ rest) ≡ 9 ∷ f rest
  -- "drops every carriage return of a run that ends at a line feed"
  pub returns : (n : ℕ) (rest : List ℕ) → f (replicate n 13 ++ 10 ∷ rest) ≡ 10 ∷ f rest
  -- a run of them that ends at another byte, or where the text ends, stays
  pub returns_stay : (n : ℕ) (rest : List ℕ) → NotFirst 13 rest → NotFirst 10 rest → f (replicate n 13 ++ rest) ≡ replicate n 13 ++ f rest
  -- and so does every other byte
  pub others : (b : ℕ) (rest : List ℕ) → eqb b 32 ≡ false → eqb b 13 ≡ false → f (b ∷ rest) ≡ b ∷ f rest
