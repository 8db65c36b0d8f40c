-- The same elements of a list in another order. 02: L7
use Rattle.std.specs.Prelude.{ℕ, ◌≡◌, Bool, List, [], ◌∷◌, if◌then◌else◌}
use Rattle.base.specs.Sum.{sum_of}

-- a list, and the same list with x put in somewhere
pub data Inserted {A : Type 0} (x : A) : List A → List A → Type 0 where
  here : {xs : List A} → Inserted x xs (x ∷ xs)
  later : {y : A} {xs ys : List A} → Inserted x xs ys → Inserted x (y ∷ xs) (y ∷ ys)

-- the same elements in any order: each element of the one list put in somewhere among the others (`same_counts`, `counts_same`: of equal elements
-- there are as many in the one list as in the other)
pub data Reordered {A : Type 0} : List A → List A → Type 0 where
  none : Reordered [] []
  put : {x : A} {xs ys zs : List A} → Reordered xs ys → Inserted x ys zs → Reordered (x ∷ xs) zs

-- how many elements pass a test
abbrev pub how_many : {A : Type 0} → (A → Bool) → List A → ℕ
how_many test xs = sum_of (λ x. if test x then 1 else 0) xs

-- as many elements of the one list as of the other pass, whatever the test
abbrev pub SameCounts : {A : Type 0} → List A → List A → Type 0
SameCounts {A} xs ys = (test : A → Bool) → how_many test xs ≡ how_many test ys
