-- A test of the first n elements of a list. Assumes nothing.
use Prim.Native.Nat.{ℕ, zero, suc, ◌+◌, ◌<◌}
use mathlib.Core.Path.{◌≡◌, refl, ap}
use mathlib.Core.Bool.{Bool, true, ◌&&◌}
use mathlib.Core.List.{List, [], ◌∷◌, map}
use native.Mathlib.Omega.{arith}
use native.Mathlib.Nat.{le_of_suc-le-suc, not-suc-le-zero}
use native.Mathlib.Numerals.{add-one}
use lib.ListN.{length, take, set, get_or}
use Rattle.std.specs.List.{list_all}
use Rattle.base.specs.All.{all_pass}
use Rattle.base.proofs.Every.{both}
use Rattle.base.proofs.Tests.{and_true}

module _ {A : Type 0} (p : A → Bool) where
  pub all_at : (n i : ℕ) (xs : List A) (d : A) → i < n → i < length xs → all_pass (take n xs) p ≡ true → p (get_or xs i d) ≡ true
  all_at zero i xs d h k e = absurd (not-suc-le-zero h)
  all_at (suc n) i [] d h k e = absurd (not-suc-le-zero k)
  all_at (suc n) zero (x ∷ xs) d h k e = (both (p x) (all_pass (take n xs) p) e).0
  all_at (suc n) (suc i) (x ∷ xs) d h k e = all_at n i xs d (le_of_suc-le-suc h) (le_of_suc-le-suc k) (both (p x) (all_pass (take n xs) p) e).1

  -- one that is put behind them
  pub all_set : (n : ℕ) (xs : List A) (a : A) → all_pass (take n xs) p ≡ true → p a ≡ true → all_pass (take (n + 1) (set xs n a)) p ≡ true
  all_set n xs a h e = rw add-one (go n xs h)
    where
      go : (n : ℕ) (xs : List A) → all_pass (take n xs) p ≡ true → all_pass (take (suc n) (set xs n a)) p ≡ true
      go n [] h = refl
      go zero (x ∷ xs) h = and_true (p a) _ e refl
      go (suc n) (x ∷ xs) h = let b = both (p x) (all_pass (take n xs) p) h in and_true (p x) _ b.0 (go n xs b.1)

  -- exactly where each of them passes
  pub all_from : (n : ℕ) (xs : List A) (d : A) → ((i : ℕ) → i < n → i < length xs → p (get_or xs i d) ≡ true) → all_pass (take n xs) p ≡ true
  all_from zero xs d h = refl
  all_from (suc n) [] d h = refl
  all_from (suc n) (x ∷ xs) d h = and_true (p x) _ (h zero (omega arith) (omega arith)) (all_from n xs d (λ i a b. h (suc i) (omega arith) (omega arith)))

-- of a list that is mapped, and of a second test that passes where the first does
pub all_map : {A B : Type 0} (f : A → B) (p : B → Bool) (xs : List A) → all_pass (map f xs) p ≡ all_pass xs (λ x. p (f x))
all_map f p [] = refl
all_map f p (x ∷ xs) = ap (λ b. p (f x) && b) (all_map f p xs)

pub all_implied : {A : Type 0} (p q : A → Bool) → ((x : A) → p x ≡ true → q x ≡ true) → (xs : List A) → all_pass xs p ≡ true → all_pass xs q ≡ true
all_implied p q h [] e = refl
all_implied p q h (x ∷ xs) e = let b = both (p x) (all_pass xs p) e in and_true _ _ (h x b.0) (all_implied p q h xs b.1)

-- each of a list whose elements all pass
pub all_in : {A : Type 0} (p : A → Bool) (i : ℕ) (xs : List A) (d : A) → i < length xs → all_pass xs p ≡ true → p (get_or xs i d) ≡ true
all_in p i [] d h e = absurd (not-suc-le-zero h)
all_in p zero (x ∷ xs) d h e = (both (p x) (all_pass xs p) e).0
all_in p (suc i) (x ∷ xs) d h e = all_in p i xs d (le_of_suc-le-suc h) (both (p x) (all_pass xs p) e).1

-- the library's word for it
pub all_listed : {A : Type 0} (p : A → Bool) (xs : List A) → list_all p xs ≡ all_pass xs p
all_listed p [] = refl
all_listed p (x ∷ xs) = ap (λ b. p x && b) (all_listed p xs)
