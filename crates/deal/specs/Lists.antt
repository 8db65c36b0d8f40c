-- What the lists of a deal have in common, over the items and what refuses one. 01: What a deal holds; The four operations, Adding an item
use Rattle.std.specs.Prelude.{ℕ, Bool, ◌&&◌, List, ◌∷◌, leb, eqb, take, set, if◌then◌else◌}
use Rattle.base.specs.All.{all_pass}
use Rattle.base.specs.FirstMet.{Test, ◌when◌}

-- "at most sixteen items of collateral and sixteen guarantees"
abbrev pub list_limit : ℕ
list_limit = 16

-- "Its items are the counted ones in order of adding" (01: Betterments)
abbrev pub counted : {A : Type 0} → List A → ℕ → List A
counted items count = take count items

-- no "list count above sixteen", and no field "of a counted item, that .. adding would refuse", the relation 7 among them
abbrev pub list_allowed : {A : Type 0} → (A → ℕ) → List A → ℕ → Bool
list_allowed refusal items count = leb count list_limit && all_pass (counted items count) (λ x. eqb (refusal x) 0)

-- "6 that list is full; then 1, 2, 3, 4, 5 as above on the item's fields; 7 ..; 8 .."
abbrev pub list_tests : {A : Type 0} → (A → List (Test ℕ)) → ℕ → A → List (Test ℕ)
list_tests tests count x = 6 when leb list_limit count ∷ tests x

-- the next place, behind the counted ones. Places are numbered from 0, and a list has sixteen of them
abbrev pub items_with : {A : Type 0} → List A → ℕ → A → List A
items_with items count x = set items count x

-- what stands after an operation, and what beside a refusal
abbrev pub unless_refused : {A : Type 0} → ℕ → A → A → A
unless_refused refusal after before = if eqb refusal 0 then after else before
