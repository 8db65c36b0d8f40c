-- The laws of sums over the numbers below n. Assumes nothing.
use Rattle.std.proofs.Common.{if◌then◌else◌}
use Prim.Native.Nat.{ℕ, zero, suc, ◌+◌, ◌*◌, ◌≤◌, ◌<◌}
use mathlib.Core.Path.{◌≡◌, refl, ap₂}
use native.Mathlib.Nat.{not-suc-le-zero}
use native.Mathlib.Decide.{ℕ_discrete}
use native.Mathlib.Omega.{arith}
use lib.Dec.{eqb}
use borrow.Author.Tests.{eq-eqb, ne_eqb}
use Rattle.base.specs.Sum.{sum_below}
use Rattle.base.proofs.Choice.{if_true, if_false}

pub below_add : (n : ℕ) (f g : ℕ → ℕ) → sum_below n (λ l. f l + g l) ≡ sum_below n f + sum_below n g
unfolding sum_below
below_add zero f g = refl
below_add (suc n) f g = omega (arith, below_add n f g)

pub below_eq : (n : ℕ) (f g : ℕ → ℕ) → ((l : ℕ) → l < n → f l ≡ g l) → sum_below n f ≡ sum_below n g
unfolding sum_below
below_eq zero f g h = refl
below_eq (suc n) f g h = ap₂ ◌+◌ (below_eq n f g (λ l p. h l (omega arith))) (h n (omega arith))

pub below_mono : (n : ℕ) (f g : ℕ → ℕ) → ((l : ℕ) → l < n → f l ≤ g l) → sum_below n f ≤ sum_below n g
unfolding sum_below
below_mono zero f g h = omega arith
below_mono (suc n) f g h = omega (arith, below_mono n f g (λ l p. h l (omega arith)), h n (omega arith))

pub below_same : (n c : ℕ) → sum_below n (λ l. c) ≡ c * n
unfolding sum_below
below_same zero c = omega arith
below_same (suc n) c = omega (arith, below_same n c)

-- a figure of one number: 0 up to it, and itself where it is among those below n
below_before : (n k a : ℕ) → n ≤ k → sum_below n (λ l. if eqb k l then a else 0) ≡ 0
unfolding sum_below
below_before zero k a h = refl
below_before (suc n) k a h = omega (arith, below_before n k a (omega arith), if_false (eqb k n) a 0 (ne_eqb k n (λ e. absurd (omega (arith, e, h)))))

pub below_one : (n k a : ℕ) → k < n → sum_below n (λ l. if eqb k l then a else 0) ≡ a
unfolding sum_below
below_one zero k a h = absurd (not-suc-le-zero h)
below_one (suc n) k a h = go (ℕ_discrete k n) (below_one n k a)
  where
    go : Dec (k ≡ n) → (k < n → sum_below n (λ l. if eqb k l then a else 0) ≡ a) → sum_below n (λ l. if eqb k l then a else 0) + (if eqb k n then a else 0) ≡ a
    go (yes e) below = omega (arith, below_before n k a (omega (arith, e)), if_true (eqb k n) a 0 (eq-eqb k n e))
    go (no e) below = omega (arith, below (omega (arith, h, e)), if_false (eqb k n) a 0 (ne_eqb k n e))

-- the first number apart
pub below_first : (n : ℕ) (f : ℕ → ℕ) → sum_below (suc n) f ≡ f 0 + sum_below n (λ k. f (suc k))
unfolding sum_below
below_first zero f = omega arith
below_first (suc n) f = omega (arith, below_first n f)
