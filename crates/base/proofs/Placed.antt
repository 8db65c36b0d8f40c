-- What holds of a list held in a fixed number of places, and of two lists joined item by item. Assumes nothing.
use Prim.Native.Nat.{ℕ, zero, suc, ◌+◌, ◌<◌}
use mathlib.Core.Path.{◌≡◌, refl, ap}
use mathlib.Core.List.{List, [], ◌∷◌, ◌++◌, map, zip_with}
use native.Mathlib.Omega.{arith}
use native.Mathlib.Nat.{le_of_suc-le-suc, not-suc-le-zero}
use lib.ListN.{length, get_or, drop, replicate}
use lib.Seq.{get_or-drop}
use Rattle.base.specs.Places.{in_places}
use Rattle.base.specs.Sum.{sum_of}
use Rattle.base.proofs.Sum.{sum_append}

-- Sums

module _ {A : Type 0} (f : A → ℕ) where
  -- places with nothing in them add nothing
  pub sum_past : (n places : ℕ) (none : A) → f none ≡ 0 → sum_of f (drop n (replicate places none)) ≡ 0
  unfolding sum_of
  sum_past zero zero none e = refl
  sum_past zero (suc m) none e = omega (arith, sum_past zero m none e)
  sum_past (suc n) zero none e = refl
  sum_past (suc n) (suc m) none e = sum_past n m none e

  pub sum_places : (places : ℕ) (none : A) (xs : List A) → f none ≡ 0 → sum_of f (in_places places none xs) ≡ sum_of f xs
  sum_places places none xs e = omega (arith, sum_append f xs (drop (length xs) (replicate places none)), sum_past (length xs) places none e)

module _ {A B C : Type 0} (h : A → B → C) where
  -- a figure that depends on the second list alone
  pub sum_zip : (f : C → ℕ) (g : B → ℕ) → ((a : A) (b : B) → f (h a b) ≡ g b) → (xs : List A) (ys : List B) → length xs ≡ length ys →
      sum_of f (zip_with h xs ys) ≡ sum_of g ys
  unfolding sum_of zip_with
  sum_zip f g e [] [] k = refl
  sum_zip f g e [] (y ∷ ys) k = absurd (omega arith)
  sum_zip f g e (x ∷ xs) [] k = absurd (omega arith)
  sum_zip f g e (x ∷ xs) (y ∷ ys) k = omega (arith, e x y, sum_zip f g e xs ys (omega arith))

  -- what is read of each depends on the first list alone
  pub map_zip : {D : Type 0} (f : C → D) (g : A → D) → ((a : A) (b : B) → f (h a b) ≡ g a) → (xs : List A) (ys : List B) → length xs ≡ length ys →
      map f (zip_with h xs ys) ≡ map g xs
  unfolding zip_with
  map_zip f g e [] ys k = refl
  map_zip f g e (x ∷ xs) [] k = absurd (omega arith)
  map_zip {D} f g e (x ∷ xs) (y ∷ ys) k = rw (e x y) (ap (λ (l : List D). g x ∷ l) (map_zip f g e xs ys (omega arith)))

  -- Item by item

  pub zip_at : (xs : List A) (ys : List B) (i : ℕ) (a : A) (b : B) (c : C) → i < length xs → i < length ys → get_or (zip_with h xs ys) i c ≡ h (get_or xs i a) (get_or ys i b)
  unfolding zip_with
  zip_at [] ys i a b c p q = absurd (not-suc-le-zero p)
  zip_at (x ∷ xs) [] i a b c p q = absurd (not-suc-le-zero q)
  zip_at (x ∷ xs) (y ∷ ys) zero a b c p q = refl
  zip_at (x ∷ xs) (y ∷ ys) (suc i) a b c p q = zip_at xs ys i a b c (le_of_suc-le-suc p) (le_of_suc-le-suc q)

module _ {A : Type 0} (P : A → Type 0) (none : A) where
  joined_hold : (xs zs : List A) → ((i : ℕ) → i < length xs → P (get_or xs i none)) → ((i : ℕ) → P (get_or zs i none)) → (i : ℕ) → P (get_or (xs ++ zs) i none)
  joined_hold [] zs h past i = past i
  joined_hold (x ∷ xs) zs h past zero = h zero (omega arith)
  joined_hold (x ∷ xs) zs h past (suc i) = joined_hold xs zs (λ j k. h (suc j) (omega arith)) past i

  alike : (places i : ℕ) → get_or (replicate places none) i none ≡ none
  alike zero i = refl
  alike (suc m) zero = refl
  alike (suc m) (suc i) = alike m i

  -- what holds of each item, and of nothing, holds of every place
  pub places_hold : (places : ℕ) (xs : List A) → P none → ((i : ℕ) → i < length xs → P (get_or xs i none)) → (i : ℕ) → P (get_or (in_places places none xs) i none)
  places_hold places xs n h i =
      joined_hold xs (drop (length xs) (replicate places none)) h
      (λ j. rw (get_or-drop (length xs) (replicate places none) j none, alike places (length xs + j)) n) i
