-- The amount of a swap that counts where restructuring is no credit event: at its edges, computed, and its laws. Assumes nothing.
use Prim.Native.Nat.{ℕ, ◌+◌, ◌*◌, ◌≤◌, ◌<◌, min}
use mathlib.Core.Path.{◌≡◌, refl}
use mathlib.Core.List.{[], ◌∷◌, map}
use native.Mathlib.Omega.{arith}
use Rattle.valuation.specs.Restructuring.{partially_recognised}

-- swaps below, at and above a deal of 1,001, whose 60 percent are 600 and six tenths
edges :
    (map (λ a. partially_recognised a 1001) (0 ∷ 1 ∷ 2 ∷ 3 ∷ 5 ∷ 999 ∷ 1000 ∷ 1001 ∷ 1002 ∷ 1668 ∷ 1000000000000 ∷ []) ≡ 0 ∷ 0 ∷ 1 ∷ 1 ∷ 3 ∷ 599 ∷ 600 ∷ 600 ∷ 600 ∷ 600 ∷ 600 ∷ [])
    -- deals of small amounts, and of the largest, which no product is above
    × ((map (partially_recognised 1000) (0 ∷ 1 ∷ 2 ∷ 3 ∷ 4 ∷ 999 ∷ 1000 ∷ 1000000000000 ∷ []) ≡ 0 ∷ 0 ∷ 1 ∷ 1 ∷ 2 ∷ 599 ∷ 600 ∷ 600 ∷ [])
    × (partially_recognised 1000000000000 1000000000000 ≡ 600000000000))
unfolding partially_recognised
edges = (refl, (refl, refl))

-- rounded down: the largest whole amount within 60 percent of the smaller one
pub partial_is : (a deal : ℕ) → (partially_recognised a deal * 100 ≤ min a deal * 60) × (min a deal * 60 < (partially_recognised a deal + 1) * 100)
unfolding partially_recognised
partial_is a deal = omega arith

-- never above the swap's amount
pub partial_le : (a deal : ℕ) → partially_recognised a deal ≤ a
unfolding partially_recognised
partial_le a deal = omega arith

-- a larger swap: no less
pub partial_mono : (a a' deal : ℕ) → a ≤ a' → partially_recognised a deal ≤ partially_recognised a' deal
unfolding partially_recognised
partial_mono a a' deal h = omega arith
