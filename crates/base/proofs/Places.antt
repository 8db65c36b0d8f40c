-- Places filled one by one, as loops do: the first n hold what they should, the others what they held. Assumes nothing.
use Prim.Native.Nat.{ℕ, zero, suc, ◌+◌, ◌<◌}
use mathlib.Core.Path.{◌≡◌, refl, sym, ap}
use mathlib.Core.List.{List, [], ◌∷◌, ◌++◌, map, map-append, zip_with}
use native.Mathlib.Nat.{le_of_suc-le-suc, not-suc-le-zero}
use native.Mathlib.Numerals.{add-one}
use native.Mathlib.Omega.{arith}
use lib.ListN.{length, take, drop, set, get_or, replicate, length-map}
use lib.Seq.{take-append_seam}
use Rattle.base.specs.Places.{in_places}

-- one place more is filled, by f of what stands in the same place of a list
module _ {A B : Type 0} (f : A → B) (d : A) where
  filled : (n : ℕ) (xs : List A) (zs : List B) → n < length xs → n < length zs →
      set (map f (take n xs) ++ drop n zs) n (f (get_or xs n d)) ≡ map f (take (suc n) xs) ++ drop (suc n) zs
  filled n [] zs h k = absurd (not-suc-le-zero h)
  filled n (x ∷ xs) [] h k = absurd (not-suc-le-zero k)
  filled zero (x ∷ xs) (z ∷ zs) h k = refl
  filled (suc n) (x ∷ xs) (z ∷ zs) h k = ap (λ (l : List B). f x ∷ l) (filled n xs zs (le_of_suc-le-suc h) (le_of_suc-le-suc k))

  pub fill_more : (n : ℕ) (xs : List A) (zs : List B) → n < length xs → n < length zs →
      set (map f (take n xs) ++ drop n zs) n (f (get_or xs n d)) ≡ map f (take (n + 1) xs) ++ drop (n + 1) zs
  fill_more n xs zs h k = rw add-one (filled n xs zs h k)

-- by f of what stands there in each of two lists
module _ {A B C : Type 0} (f : A → B → C) (a : A) (b : B) where
  zipped : (n : ℕ) (xs : List A) (ys : List B) (zs : List C) → n < length xs → n < length ys → n < length zs →
      set (zip_with f (take n xs) (take n ys) ++ drop n zs) n (f (get_or xs n a) (get_or ys n b)) ≡ zip_with f (take (suc n) xs) (take (suc n) ys) ++ drop (suc n) zs
  unfolding zip_with
  zipped n [] ys zs h j k = absurd (not-suc-le-zero h)
  zipped n (x ∷ xs) [] zs h j k = absurd (not-suc-le-zero j)
  zipped n (x ∷ xs) (y ∷ ys) [] h j k = absurd (not-suc-le-zero k)
  zipped zero (x ∷ xs) (y ∷ ys) (z ∷ zs) h j k = refl
  zipped (suc n) (x ∷ xs) (y ∷ ys) (z ∷ zs) h j k =
      ap (λ (l : List C). f x y ∷ l) (zipped n xs ys zs (le_of_suc-le-suc h) (le_of_suc-le-suc j) (le_of_suc-le-suc k))

  pub zip_more : (n : ℕ) (xs : List A) (ys : List B) (zs : List C) → n < length xs → n < length ys → n < length zs →
      set (zip_with f (take n xs) (take n ys) ++ drop n zs) n (f (get_or xs n a) (get_or ys n b)) ≡ zip_with f (take (n + 1) xs) (take (n + 1) ys) ++ drop (n + 1) zs
  zip_more n xs ys zs h j k = rw add-one (zipped n xs ys zs h j k)

pub length_zip : {A B C : Type 0} (f : A → B → C) (xs : List A) (ys : List B) → length xs ≡ length ys → length (zip_with f xs ys) ≡ length xs
unfolding zip_with
length_zip f [] ys e = refl
length_zip f (x ∷ xs) [] e = absurd (omega (arith, e))
length_zip f (x ∷ xs) (y ∷ ys) e = ap suc (length_zip f xs ys (omega (arith, e)))

-- after the loop
pub placed : {A : Type 0} (places n : ℕ) (none : A) (ys : List A) → length ys ≡ n → ys ++ drop n (replicate places none) ≡ in_places places none ys
placed places n none ys e = rw e

-- and taken from them
pub taken : {A : Type 0} (places n : ℕ) (none : A) (ys : List A) → length ys ≡ n → take n (in_places places none ys) ≡ ys
taken places n none ys e = rw (sym e) (take-append_seam ys _)

pub zip_map : {A B C D : Type 0} (f : B → C → D) (g : A → B) (xs : List A) (ys : List C) → zip_with f (map g xs) ys ≡ zip_with (λ x y. f (g x) y) xs ys
unfolding zip_with
zip_map f g [] ys = refl
zip_map f g (x ∷ xs) [] = refl
zip_map {D = D} f g (x ∷ xs) (y ∷ ys) = ap (λ (l : List D). f (g x) y ∷ l) (zip_map f g xs ys)

-- a list in its places, mapped
map_past : {A B : Type 0} (f : A → B) (k n : ℕ) (none : A) → map f (drop k (replicate n none)) ≡ drop k (replicate n (f none))
map_past f zero zero none = refl
map_past {B = B} f zero (suc n) none = ap (λ (l : List B). f none ∷ l) (map_past f zero n none)
map_past f (suc k) zero none = refl
map_past f (suc k) (suc n) none = map_past f k n none

pub map_places : {A B : Type 0} (f : A → B) (places : ℕ) (none : A) (xs : List A) → map f (in_places places none xs) ≡ in_places places (f none) (map f xs)
map_places f places none xs = rw (map-append f xs, map_past f (length xs) places none, length-map xs f)
