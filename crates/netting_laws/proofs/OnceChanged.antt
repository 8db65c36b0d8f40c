-- Sums that count each number once, where an element is put in another's place or one more is put in. Assumes nothing.
use Rattle.std.proofs.Common.{if◌then◌else◌}
use Prim.Native.Nat.{ℕ, ◌+◌, ◌≤◌}
use mathlib.Core.Path.{◌≡◌, refl, ap, ap₂, ◌∙◌}
use mathlib.Core.Bool.{Bool, true, false, ◌||◌}
use mathlib.Core.List.{List, [], ◌∷◌, ◌++◌}
use native.Mathlib.Omega.{arith}
use lib.Dec.{eqb}
use borrow.Author.Tests.{eqb-true}
use Rattle.base.specs.Any.{any}
use Rattle.base.specs.Each.{Each}
use Rattle.base.proofs.Choice.{if_true}
use Rattle.base.proofs.Compare.{eqb_turned}
use Rattle.base.proofs.Tests.{or_first}
use Rattle.netting.specs.Nets.{only}
use Rattle.netting.specs.Once.{occurs, sum_once}
use Rattle.netting.proofs.Counting.{at, once_at, one_of}

or_turned : (a b c : Bool) → (a || (b || c)) ≡ (b || (a || c))
or_turned true true c = refl
or_turned true false c = refl
or_turned false true c = refl
or_turned false false c = refl

pub or_none : (a b : Bool) → a ≡ false → (a || b) ≡ b
or_none a b e = rw e

module _ {A : Type 0} (number : A → ℕ) where
  -- a figure of one number adds no more than itself
  pub once_within : (k a : ℕ) (xs : List A) → sum_once number (only (at number k) (λ x. a)) xs ≤ a
  once_within k a xs = omega (arith, once_at number k a xs, one_of (occurs number k xs) a)

  any_replaced : (k : ℕ) (xs ys : List A) (x y : A) → number x ≡ number y → occurs number k (xs ++ x ∷ ys) ≡ occurs number k (xs ++ y ∷ ys)
  unfolding any
  any_replaced k [] ys x y e = ap (λ n. eqb n k || occurs number k ys) e
  any_replaced k (z ∷ xs) ys x y e = ap (λ b. eqb (number z) k || b) (any_replaced k xs ys x y e)

  -- an element put in another's place, with its number and its figure
  pub once_replaced : (f : A → ℕ) (xs ys : List A) (x y : A) → number x ≡ number y → f x ≡ f y → sum_once number f (xs ++ x ∷ ys) ≡ sum_once number f (xs ++ y ∷ ys)
  unfolding sum_once
  once_replaced f [] ys x y e h = rw (e, h)
  once_replaced f (z ∷ xs) ys x y e h = rw (any_replaced (number z) xs ys x y e) (omega (arith, once_replaced f xs ys x y e h))

  any_inserted : (k : ℕ) (xs ys : List A) (x : A) → occurs number k (xs ++ x ∷ ys) ≡ (eqb (number x) k || occurs number k (xs ++ ys))
  unfolding any
  any_inserted k [] ys x = refl
  any_inserted k (z ∷ xs) ys x = ap (λ b. eqb (number z) k || b) (any_inserted k xs ys x) ∙ or_turned (eqb (number z) k) (eqb (number x) k) _

  -- one element more: it counts where its number is new
  pub once_inserted : (f : A → ℕ) (xs ys : List A) (x : A) → Each (λ z. number z ≡ number x → f z ≡ f x) xs →
      sum_once number f (xs ++ x ∷ ys) ≡ sum_once number f (xs ++ ys) + (if occurs number (number x) (xs ++ ys) then 0 else f x)
  unfolding sum_once any
  once_inserted f [] ys x h = omega arith
  once_inserted f (z ∷ xs) ys x h = go (eqb (number z) (number x)) refl (once_inserted f xs ys x h.1)
    where
      new : ℕ
      new = if occurs number (number z) (xs ++ x ∷ ys) then 0 else f z

      old : ℕ
      old = if occurs number (number z) (xs ++ ys) then 0 else f z

      own : ℕ
      own = if occurs number (number x) (xs ++ ys) then 0 else f x

      go : (t : Bool) → eqb (number z) (number x) ≡ t → sum_once number f (xs ++ x ∷ ys) ≡ sum_once number f (xs ++ ys) + own →
          new + sum_once number f (xs ++ x ∷ ys) ≡ old + sum_once number f (xs ++ ys) + (if (eqb (number z) (number x) || occurs number (number x) (xs ++ ys)) then 0 else f x)
      go true e i =
          let q = eqb-true (number z) (number x) e in
          let n : new ≡ 0 = if_true _ 0 (f z) (any_inserted (number z) xs ys x ∙ or_first _ _ (eqb_turned (number x) (number z) ∙ e)) in
          let o : old ≡ own = ap₂ (λ k a. if occurs number k (xs ++ ys) then 0 else a) q (h.0 q) in
          omega (arith, i, n, o, if_true (eqb (number z) (number x) || occurs number (number x) (xs ++ ys)) 0 (f x) (or_first _ _ e))
      go false e i =
          let n : new ≡ old = ap (λ t. if t then 0 else f z) (any_inserted (number z) xs ys x ∙ or_none _ _ (eqb_turned (number x) (number z) ∙ e)) in
          let o : (if (eqb (number z) (number x) || occurs number (number x) (xs ++ ys)) then 0 else f x) ≡ own = ap (λ t. if t then 0 else f x) (or_none _ _ e) in
          omega (arith, i, n, o)
