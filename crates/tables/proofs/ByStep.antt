-- The risk weights indexed by step, unrated first, as the code holds them. Assumes nothing.
use Prim.Native.Nat.{ℕ, ◌<◌}
use mathlib.Core.Path.{◌≡◌, refl}
use mathlib.Core.Bool.{Bool}
use mathlib.Core.List.{List, [], ◌∷◌, map}
use lib.Dec.{eqb}
use lib.ListN.{get_or, take}
use borrow.Author.Tests.{eqb-true}
use Rattle.base.proofs.Every.{every, every_at}
use Rattle.tables.specs.Weights.{weights, step_column}

abbrev pub by_step : List ℕ → List ℕ
by_step row = get_or row 6 0 ∷ take 6 row

abbrev same : ℕ → ℕ → Bool
same i s = eqb (get_or (get_or (map by_step weights) i []) s 0) (get_or (get_or weights i []) (step_column s) 0)

pub by_step_lem : (i s : ℕ) → i < 3 → s < 7 → get_or (get_or (map by_step weights) i []) s 0 ≡ get_or (get_or weights i []) (step_column s) 0
unfolding step_column
by_step_lem i s h k = eqb-true _ _ (every_at 7 (same i) (every_at 3 (λ i. every 7 (same i)) refl i h) s k)
