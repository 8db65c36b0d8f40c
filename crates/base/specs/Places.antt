-- A list held in a fixed number of places.
use Rattle.std.specs.Prelude.{ℕ, List, ◌++◌, length, drop, replicate}

-- its elements from the front, and in every place past them what stands for none
abbrev pub in_places : {A : Type 0} → ℕ → A → List A → List A
in_places places none xs = xs ++ drop (length xs) (replicate places none)
