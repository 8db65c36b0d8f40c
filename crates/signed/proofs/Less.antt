-- The laws of `_less_`: a signed number is one natural number less another, and linear arithmetic does the rest. Assumes nothing.
use Prim.Native.Nat.{ℕ, zero, suc, ◌+◌, ◌*◌, ◌-◌, ◌≤◌, ◌<◌, ◌^◌}
use mathlib.Core.Path.{◌≡◌, refl, sym, ap, ◌∙◌}
use mathlib.Core.Logic.{⊎_elim}
use native.Mathlib.Omega.{arith}
use lib.IntN.{ℤ, pos, negsuc, neg_ℤ, nat_abs, sub_ℕ, ◌+ℤ◌, ◌-ℤ◌, ◌*ℤ◌}
use mir.Syntax.{w64}
use mir.Val.{SFits}
use borrow.Author.Tests.{lt-ltb, le-ltb}
use Rattle.base.proofs.Compare.{side}
use Rattle.signed.specs.Signed.{◌less◌}

sub_is : (a b : ℕ) → sub_ℕ a b ≡ a less b
unfolding ◌less◌
sub_is a b = refl

-- the two shapes: not negative, and negative
pub less_pos : (a b : ℕ) → b ≤ a → a less b ≡ pos (a - b)
unfolding ◌less◌
less_pos a b h = rw (le-ltb a b h)

pub less_neg : (a b : ℕ) → a < b → a less b ≡ negsuc (b - suc a)
unfolding ◌less◌
less_neg a b h = rw (lt-ltb a b h)

-- what holds of both shapes
pub less_cases : (P : ℤ → Type 0) (a b : ℕ) → ((n : ℕ) → a ≡ b + n → P (pos n)) → ((n : ℕ) → a + suc n ≡ b → P (negsuc n)) → P (a less b)
less_cases P a b p n = ⊎_elim (λ h. rw (less_neg a b h) (n (b - suc a) (omega arith))) (λ h. rw (less_pos a b h) (p (a - b) (omega arith))) (side a b)

-- and back: what shows that a number is a less b
pub pos_is : (n a b : ℕ) → a ≡ b + n → pos n ≡ a less b
pos_is n a b e = rw (less_pos a b (omega arith)) (ap pos (omega arith))

pub negsuc_is : (n a b : ℕ) → a + suc n ≡ b → negsuc n ≡ a less b
negsuc_is n a b e = rw (less_neg a b (omega arith)) (ap negsuc (omega arith))

-- a natural number
pub less_zero : (a : ℕ) → a less 0 ≡ pos a
less_zero a = sym (pos_is a a 0 (omega arith))

-- equal differences
pub less_same : (a b c d : ℕ) → a + d ≡ c + b → a less b ≡ c less d
less_same a b c d e = less_cases (λ z. z ≡ c less d) a b (λ n h. pos_is n c d (omega arith)) (λ n h. negsuc_is n c d (omega arith))

-- sums, negation, products
pub less_add : (a b c d : ℕ) → (a less b) +ℤ (c less d) ≡ (a + c) less (b + d)
less_add a b c d =
    less_cases (λ z. z +ℤ (c less d) ≡ (a + c) less (b + d)) a b
    (λ n e. less_cases (λ z. pos n +ℤ z ≡ (a + c) less (b + d)) c d (λ m h. pos_is (n + m) (a + c) (b + d) (omega arith)) (λ m h. mixed n m e h))
    (λ n e. less_cases (λ z. negsuc n +ℤ z ≡ (a + c) less (b + d)) c d (λ m h. mixed' n m e h) (λ m h. negsuc_is (suc (n + m)) (a + c) (b + d) (omega arith)))
  where
    mixed : (n m : ℕ) → a ≡ b + n → c + suc m ≡ d → pos n +ℤ negsuc m ≡ (a + c) less (b + d)
    mixed n m e h = sub_is n (suc m) ∙ less_same n (suc m) (a + c) (b + d) (omega arith)

    mixed' : (n m : ℕ) → a + suc n ≡ b → c ≡ d + m → negsuc n +ℤ pos m ≡ (a + c) less (b + d)
    mixed' n m e h = sub_is m (suc n) ∙ less_same m (suc n) (a + c) (b + d) (omega arith)

pub less_neg_is : (a b : ℕ) → neg_ℤ (a less b) ≡ b less a
less_neg_is a b = less_cases (λ z. neg_ℤ z ≡ b less a) a b (λ n e. turned n e) (λ n e. pos_is (suc n) b a (omega arith))
  where
    turned : (n : ℕ) → a ≡ b + n → neg_ℤ (pos n) ≡ b less a
    turned zero e = pos_is 0 b a (omega arith)
    turned (suc n) e = negsuc_is n b a (omega arith)

pub less_sub : (a b c d : ℕ) → (a less b) -ℤ (c less d) ≡ (a + d) less (b + c)
less_sub a b c d = ap (λ z. (a less b) +ℤ z) (less_neg_is c d) ∙ less_add a b d c

pub less_mul : (a b m : ℕ) → (a less b) *ℤ pos m ≡ (a * m) less (b * m)
less_mul a b m =
    less_cases (λ z. z *ℤ pos m ≡ (a * m) less (b * m)) a b (λ n e. pos_is (n * m) (a * m) (b * m) (rw e (omega arith)))
    (λ n e. ap neg_ℤ (pos_is (suc n * m) (b * m) (a * m) (rw (← e) (omega arith))) ∙ less_neg_is (b * m) (a * m))

-- the absolute value, and the range
pub less_abs : (a b : ℕ) → nat_abs (a less b) ≡ (a - b) + (b - a)
less_abs a b = less_cases (λ z. nat_abs z ≡ (a - b) + (b - a)) a b (λ n e. omega arith) (λ n e. omega arith)

pub less_fits : (a b : ℕ) → a < 2 ^ 63 → b < 2 ^ 63 → SFits w64 (a less b)
less_fits a b h k = less_cases (SFits w64) a b (λ n e. record { sfits = omega arith }) (λ n e. record { sfits = omega arith })
