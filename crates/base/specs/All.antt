-- A test of every element of a list.
use Rattle.std.specs.Prelude.{Bool, true, ◌&&◌, List, [], ◌∷◌}

-- as mathlib's `all`, which does not compute outside its module
abbrev pub all_pass : {A : Type 0} → List A → (A → Bool) → Bool
all_pass [] p = true
all_pass (x ∷ xs) p = p x && all_pass xs p
