-- The laws of sums that count each number once. Assumes nothing.
use Rattle.std.proofs.Common.{if◌then◌else◌}
use Prim.Native.Nat.{ℕ, ◌+◌, ◌*◌, ◌≤◌}
use mathlib.Core.Path.{◌≡◌, refl, ap, ◌∙◌}
use mathlib.Core.Bool.{Bool, true, false, ◌||◌}
use mathlib.Core.List.{List, [], ◌∷◌}
use native.Mathlib.Omega.{arith}
use lib.Dec.{eqb}
use lib.ListN.{length}
use borrow.Author.Tests.{eqb-true, eq-eqb}
use Rattle.base.specs.Sum.{sum_of}
use Rattle.base.proofs.Compare.{eqb_turned}
use Rattle.base.proofs.Choice.{if_true, if_false, either, either₂}
use Rattle.base.proofs.Tests.{or_both}
use Rattle.netting.specs.Nets.{only}
use Rattle.base.specs.Each.{Each}
use Rattle.base.specs.Any.{any}
use Rattle.netting.specs.Once.{occurs, sum_once}
use Rattle.netting.proofs.Sides.{only_in, only_out}

by_test : {t u : Bool} → t ≡ u → (a : ℕ) → (if t then a else 0) ≡ (if u then a else 0)
by_test e a = rw e

-- either one or the other
pub one_of : (t : Bool) (a : ℕ) → (if t then 0 else a) + (if t then a else 0) ≡ a
one_of true a = omega arith
one_of false a = omega arith

zero_of : (t : Bool) → ◌≡◌ {A = ℕ} (if t then 0 else 0) 0
zero_of true = refl
zero_of false = refl

module _ {A : Type 0} (number : A → ℕ) where
  -- a figure of the elements with this number
  abbrev pub at : ℕ → A → Bool
  at k x = eqb (number x) k

  -- the first of some, where a later one has its number, and where none has
  module _ (f : A → ℕ) (xs : List A) (x : A) (rest : List A) (e : xs ≡ x ∷ rest) where
    pub once_later : occurs number (number x) rest ≡ true → sum_once number f xs ≡ sum_once number f rest
    unfolding sum_once
    once_later t = ap (sum_once number f) e ∙ omega (arith, if_true (occurs number (number x) rest) 0 (f x) t)

    pub once_here : occurs number (number x) rest ≡ false → sum_once number f xs ≡ f x + sum_once number f rest
    unfolding sum_once
    once_here t = ap (sum_once number f) e ∙ omega (arith, if_false (occurs number (number x) rest) 0 (f x) t)

  pub once_end : (f : A → ℕ) (xs : List A) → length xs ≡ 0 → sum_once number f xs ≡ 0
  unfolding sum_once
  once_end f [] e = refl
  once_end f (x ∷ xs) e = absurd (omega arith)

  -- larger figures
  pub once_mono : (f g : A → ℕ) (xs : List A) → Each (λ x. f x ≤ g x) xs → sum_once number f xs ≤ sum_once number g xs
  unfolding sum_once
  once_mono f g [] h = omega arith
  once_mono f g (x ∷ xs) h =
      omega (
        arith,
        either₂ (λ a b. a ≤ b) (occurs number (number x) xs) {a = 0} {b = f x} {c = 0} {d = g x} (λ t. omega arith) (λ t. h.0),
        once_mono f g xs h.1,
      )

  pub once_add : (f g : A → ℕ) (xs : List A) → sum_once number (λ x. f x + g x) xs ≡ sum_once number f xs + sum_once number g xs
  unfolding sum_once
  once_add f g [] = refl
  once_add f g (x ∷ xs) = omega (arith, split (occurs number (number x) xs), once_add f g xs)
    where
      split : (t : Bool) → (if t then 0 else (f x + g x)) ≡ (if t then 0 else f x) + (if t then 0 else g x)
      split t = either (λ y. y ≡ (if t then 0 else f x) + (if t then 0 else g x)) t (λ e. omega (arith, if_true t 0 (f x) e, if_true t 0 (g x) e)) (λ e. omega (arith, if_false t 0 (f x) e, if_false t 0 (g x) e))

  pub once_times : (f : A → ℕ) (m : ℕ) (xs : List A) → sum_once number (λ x. f x * m) xs ≡ sum_once number f xs * m
  unfolding sum_once
  once_times f m [] = omega arith
  once_times f m (x ∷ xs) = omega (arith, split (occurs number (number x) xs), once_times f m xs)
    where
      split : (t : Bool) → (if t then 0 else (f x * m)) ≡ (if t then 0 else f x) * m
      split t = either (λ y. y ≡ (if t then 0 else f x) * m) t (λ e. rw (if_true t 0 (f x) e) (omega arith)) (λ e. rw (if_false t 0 (f x) e) refl)

  pub once_eq : (f g : A → ℕ) → ((x : A) → f x ≡ g x) → (xs : List A) → sum_once number f xs ≡ sum_once number g xs
  unfolding sum_once
  once_eq f g h [] = refl
  once_eq f g h (x ∷ xs) = rw (h x) (omega (arith, once_eq f g h xs))

  -- a figure of one number counts at most once
  pub once_at : (k a : ℕ) (xs : List A) → sum_once number (only (at k) (λ x. a)) xs ≡ (if occurs number k xs then a else 0)
  unfolding sum_once any only
  once_at k a [] = refl
  once_at k a (x ∷ xs) = go (eqb (number x) k) refl (once_at k a xs)
    where
      go : (t : Bool) → eqb (number x) k ≡ t → sum_once number (only (at k) (λ x. a)) xs ≡ (if occurs number k xs then a else 0) →
          (if occurs number (number x) xs then 0 else (if eqb (number x) k then a else 0)) + sum_once number (only (at k) (λ x. a)) xs
          ≡ (if (eqb (number x) k || occurs number k xs) then a else 0)
      go true e h = rw (e, eqb-true (number x) k e) (omega (arith, h, one_of (occurs number k xs) a))
      go false e h = rw e (omega (arith, h, zero_of (occurs number (number x) xs)))

  -- where no element has the number
  pub absent : (f : A → ℕ) (k : ℕ) (xs : List A) → occurs number k xs ≡ false → sum_of (only (at k) f) xs ≡ 0
  unfolding sum_of any
  absent f k [] e = refl
  absent f k (x ∷ xs) e =
      let n = or_both (eqb (number x) k) (occurs number k xs) e in
      omega (arith, only_out (at k) f x n.0, absent f k xs n.1)

  only_turned : (f : A → ℕ) (x y : A) → only (at (number y)) f x ≡ only (at (number x)) (λ z. f x) y
  unfolding only
  only_turned f x y = by_test (eqb_turned (number x) (number y)) (f x)

  -- each element's figure once, with those of its number
  pub once_whole : (f : A → ℕ) (xs : List A) → sum_once number (λ x. sum_of (only (at (number x)) f) xs) xs ≡ sum_of f xs
  unfolding sum_once sum_of
  once_whole f [] = refl
  once_whole f (x ∷ xs) =
      omega (
        arith,
        own,
        once_add (λ y. only (at (number y)) f x) (λ y. sum_of (only (at (number y)) f) xs) xs,
        once_eq (λ y. only (at (number y)) f x) (only (at (number x)) (λ y. f x)) turned xs,
        once_at (number x) (f x) xs,
        one_of (occurs number (number x) xs) (f x),
        once_whole f xs,
      )
    where
      turned : (y : A) → only (at (number y)) f x ≡ only (at (number x)) (λ y. f x) y
      turned y = only_turned f x y

      own : (if occurs number (number x) xs then 0 else (only (at (number x)) f x + sum_of (only (at (number x)) f) xs)) ≡ (if occurs number (number x) xs then 0 else f x)
      own =
          either₂ (λ a b. a ≡ b) (occurs number (number x) xs) {a = 0} {c = 0} (λ t. refl)
          (λ t. omega (arith, only_in (at (number x)) f x (eq-eqb (number x) (number x) refl), absent f (number x) xs t))
