-- What is known of arrays. Assumes nothing.
use Prim.Native.Nat.{ℕ, zero, suc}
use mathlib.Core.Path.{◌≡◌, refl, ap}
use mathlib.Core.List.{List, [], ◌∷◌}
use lib.ListN.{get_or, length}

-- the numbers in so many places, from the front
abbrev pub numbered : ℕ → (ℕ → ℕ) → List ℕ
numbered zero number = []
numbered (suc n) number = number 0 ∷ numbered n (λ k. number (suc k))

-- a list of numbers, read place by place
pub as_read : (ns : List ℕ) → numbered (length ns) (λ k. get_or ns k 0) ≡ ns
as_read [] = refl
as_read (n ∷ ns) = ap (λ (l : List ℕ). n ∷ l) (as_read ns)
