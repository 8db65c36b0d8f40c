-- What is left of the first n elements from the ith on, for loops, and whether one of them passes a test. Assumes nothing.
use Prim.Native.Nat.{ℕ, ◌+◌, ◌<◌}
use mathlib.Core.Path.{◌≡◌, ap, ◌∙◌}
use mathlib.Core.Bool.{Bool, true, false}
use mathlib.Core.List.{List, ◌∷◌}
use native.Mathlib.Numerals.{add-one}
use native.Mathlib.Omega.{arith}
use lib.ListN.{length, take, drop, get_or, length-take}
use lib.Seq.{drop-cons, get_or-take}
use Rattle.base.specs.Any.{any, any_two}
use Rattle.base.proofs.Tests.{or_first}

module _ {A : Type 0} where
  pub rest_next : (xs : List A) (n i : ℕ) (d : A) → i < n → i < length xs → drop i (take n xs) ≡ get_or xs i d ∷ drop (i + 1) (take n xs)
  rest_next xs n i d h k =
      rw (add-one i, ← (get_or-take n xs i d h)) (drop-cons (take n xs) i d (omega (arith, length-take n xs)))

module _ {A : Type 0} (p : A → Bool) (xs : List A) (n i : ℕ) (d : A) (h : i < n) (k : i < length xs) where
  pub any_here : p (get_or xs i d) ≡ true → any (drop i (take n xs)) p ≡ true
  unfolding any
  any_here e = rw (rest_next xs n i d h k) (or_first (p (get_or xs i d)) _ e)

  pub any_later : p (get_or xs i d) ≡ false → any (drop i (take n xs)) p ≡ any (drop (i + 1) (take n xs)) p
  unfolding any
  any_later e = ap (λ ys. any ys p) (rest_next xs n i d h k) ∙ rw e

-- whether two of them do
module _ {A : Type 0} (test : A → A → Bool) (xs : List A) (n i : ℕ) (d : A) (h : i < n) (k : i < length xs) where
  pub two_here : any (drop (i + 1) (take n xs)) (test (get_or xs i d)) ≡ true → any_two (drop i (take n xs)) test ≡ true
  unfolding any_two
  two_here e = rw (rest_next xs n i d h k) (or_first (any (drop (i + 1) (take n xs)) (test (get_or xs i d))) _ e)

  pub two_later : any (drop (i + 1) (take n xs)) (test (get_or xs i d)) ≡ false → any_two (drop i (take n xs)) test ≡ any_two (drop (i + 1) (take n xs)) test
  unfolding any_two
  two_later e = ap (λ ys. any_two ys test) (rest_next xs n i d h k) ∙ rw e
