-- The laws of sums over a list. Assumes nothing.
use Prim.Native.Nat.{ℕ, zero, suc, ◌+◌, ◌≤◌, ◌<◌}
use mathlib.Core.Path.{◌≡◌, refl, ap}
use mathlib.Core.List.{List, [], ◌∷◌, ◌++◌, map}
use native.Mathlib.Nat.{not-suc-le-zero, le_of_suc-le-suc}
use native.Mathlib.Numerals.{add-one}
use native.Mathlib.Omega.{arith}
use lib.ListN.{length, take, get_or}
use lib.Seq.{take-suc}
use Rattle.base.specs.Sum.{sum_of}

module _ {A : Type 0} (f : A → ℕ) where
  pub sum_append : (xs ys : List A) → sum_of f (xs ++ ys) ≡ sum_of f xs + sum_of f ys
  unfolding sum_of
  sum_append [] ys = omega arith
  sum_append (x ∷ xs) ys = omega (arith, sum_append xs ys)

  -- of what a loop has passed: one element more
  pub sum_take : (xs : List A) (i : ℕ) (d : A) → i < length xs → sum_of f (take (i + 1) xs) ≡ sum_of f (take i xs) + f (get_or xs i d)
  unfolding sum_of
  sum_take xs i d h = rw (add-one i, take-suc xs i d) (omega (arith, sum_append (take i xs) (get_or xs i d ∷ [])))

  -- a part sums to no more than the whole
  pub sum_take_le : (i : ℕ) (xs : List A) → sum_of f (take i xs) ≤ sum_of f xs
  unfolding sum_of
  sum_take_le zero xs = omega arith
  sum_take_le (suc i) [] = omega arith
  sum_take_le (suc i) (x ∷ xs) = omega (arith, sum_take_le i xs)

pub sum_map : {A B : Type 0} (f : B → ℕ) (g : A → B) (xs : List A) → sum_of f (map g xs) ≡ sum_of (λ x. f (g x)) xs
unfolding sum_of
sum_map f g [] = refl
sum_map f g (x ∷ xs) = ap (λ n. f (g x) + n) (sum_map f g xs)

-- of figures that are larger, equal, or sums themselves
module _ {A : Type 0} (f g : A → ℕ) where
  pub sum_mono : ((x : A) → f x ≤ g x) → (xs : List A) → sum_of f xs ≤ sum_of g xs
  unfolding sum_of
  sum_mono h [] = omega arith
  sum_mono h (x ∷ xs) = omega (arith, h x, sum_mono h xs)

  pub sum_eq : ((x : A) → f x ≡ g x) → (xs : List A) → sum_of f xs ≡ sum_of g xs
  unfolding sum_of
  sum_eq h [] = refl
  sum_eq h (x ∷ xs) = omega (arith, h x, sum_eq h xs)

  pub sum_add : (xs : List A) → sum_of (λ x. f x + g x) xs ≡ sum_of f xs + sum_of g xs
  unfolding sum_of
  sum_add [] = refl
  sum_add (x ∷ xs) = omega (arith, sum_add xs)

-- a longer part sums to no less
pub sum_part : {A : Type 0} (f : A → ℕ) (i n : ℕ) (xs : List A) → i ≤ n → sum_of f (take i xs) ≤ sum_of f (take n xs)
unfolding sum_of
sum_part f zero n xs h = omega arith
sum_part f (suc i) zero xs h = absurd (not-suc-le-zero h)
sum_part f (suc i) (suc n) [] h = omega arith
sum_part f (suc i) (suc n) (x ∷ xs) h = omega (arith, sum_part f i n xs (le_of_suc-le-suc h))

-- the sum of a list with one element in its middle
pub sum_middle : {A : Type 0} (f : A → ℕ) (xs ys : List A) (x : A) → sum_of f (xs ++ x ∷ ys) ≡ sum_of f (xs ++ ys) + f x
unfolding sum_of
sum_middle f xs ys x = omega (arith, sum_append f xs (x ∷ ys), sum_append f xs ys)
