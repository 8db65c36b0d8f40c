-- The laws of signed rounding up. Assumes nothing.
use Prim.Native.Nat.{ℕ, zero, suc, ◌*◌, ◌-◌, ◌/◌, ◌≤◌, ◌<◌, ◌^◌}
use mathlib.Core.Path.{◌≡◌, refl, sym, ap, subst}
use mathlib.Core.Bool.{true, false}
use native.Mathlib.Nat.{not-suc-le-zero, le-div_iff_mul-le, div-mul-le_self}
use native.Mathlib.Omega.{arith}
use lib.IntN.{ℤ, pos, negsuc, neg_ℤ, nat_abs, ◌+ℤ◌, ◌*ℤ◌}
use lib.Dec.{le→leb, leb→le}
use lib.Signed.{lt_z, quot_z, ◌≤ℤ◌}
use mir.Syntax.{w64}
use mir.Val.{SFits}
use borrow.Author.Tests.{ltb-true}
use Rattle.base.specs.Rounding.{round_up}
use Rattle.base.proofs.Choice.{never}
use Rattle.base.proofs.Rounding.{round_up_is}
use Rattle.signed.specs.Signed.{◌less◌, ceiling, at_least_zero}
-- the examples are checked before the laws
use Rattle.signed.proofs.Less.{less_cases}

-- division drops the fraction: below 0 that rounds up ..
pub ceiling_negative : (z : ℤ) → lt_z z (pos 0) ≡ true → quot_z z (pos 1000000) ≡ ceiling z 1000000
unfolding ceiling
ceiling_negative (pos n) t = absurd (not-suc-le-zero (ltb-true n 0 t))
ceiling_negative (negsuc n) t = refl

-- .. and elsewhere nearly a whole is added first
pub ceiling_positive : (z : ℤ) → lt_z z (pos 0) ≡ false → quot_z (z +ℤ pos 999999) (pos 1000000) ≡ ceiling z 1000000
unfolding ceiling round_up
ceiling_positive (pos n) t = refl
ceiling_positive (negsuc n) t = absurd (never refl t)

negative_fits : (m : ℕ) → m < 2 ^ 63 → SFits w64 (neg_ℤ (pos m))
negative_fits zero h = record { sfits = omega arith }
negative_fits (suc m) h = record { sfits = omega arith }

pub ceiling_fits : (z : ℤ) → nat_abs z ≤ 4000000000000000000 → SFits w64 (ceiling z 1000000)
unfolding ceiling round_up
ceiling_fits (pos n) h = record { sfits = omega arith }
ceiling_fits (negsuc n) h = negative_fits (suc n / 1000000) (omega arith)

-- not below 0: natural numbers do
not_below : (m : ℕ) → at_least_zero (neg_ℤ (pos m)) ≡ 0
unfolding at_least_zero
not_below zero = refl
not_below (suc m) = refl

pub ceiling_less : (a b : ℕ) → at_least_zero (ceiling (a less b) 1000000) ≡ round_up (a - b) 1000000
unfolding ceiling round_up at_least_zero
ceiling_less a b =
    less_cases (λ z. at_least_zero (ceiling z 1000000) ≡ round_up (a - b) 1000000) a b
    (λ n e. omega arith) (λ n e. omega (arith, not_below (suc n / 1000000)))

-- THE CEILING IS THE LEAST m WITH z ≤ m * d
pub record LeastMultiple (z : ℤ) (d : ℕ) (m : ℤ) : Type 0 where
  pub passes : z ≤ℤ (m *ℤ pos d)
  pub lowest : (k : ℤ) → z ≤ℤ (k *ℤ pos d) → m ≤ℤ k

negative : (a : ℕ) → 0 < a → neg_ℤ (pos a) ≡ negsuc (a - 1)
negative zero h = absurd (not-suc-le-zero h)
negative (suc a) h = ap negsuc (omega arith)

module _ (d : ℕ) (p : 0 < d) where
  some : (k : ℕ) → 0 < suc k * d
  some k = omega (arith, p)

  -- what lies below 0: - (n + 1) and - q * d
  above : (n q : ℕ) → q * d ≤ suc n → negsuc n ≤ℤ (neg_ℤ (pos q) *ℤ pos d)
  above n zero h = record { le = tt }
  above n (suc q) h = subst (λ (z : ℤ). negsuc n ≤ℤ z) (sym (negative (suc q * d) (some q))) (record { le = le→leb (suc q * d - 1) n (omega arith) })

  under : (n k : ℕ) → negsuc n ≤ℤ (negsuc k *ℤ pos d) → suc k * d ≤ suc n
  under n k h =
      let l = leb→le (suc k * d - 1) n (subst (λ (z : ℤ). negsuc n ≤ℤ z) (negative (suc k * d) (some k)) h).le in
      omega (arith, l, some k)

  below : (q k : ℕ) → suc k ≤ q → neg_ℤ (pos q) ≤ℤ negsuc k
  below zero k h = absurd (not-suc-le-zero h)
  below (suc q) k h = record { le = le→leb k q (omega arith) }

  below_pos : (q k : ℕ) → neg_ℤ (pos q) ≤ℤ pos k
  below_pos zero k = record { le = le→leb 0 k (omega arith) }
  below_pos (suc q) k = record { le = tt }

  lowest_pos : (n : ℕ) (k : ℤ) → pos n ≤ℤ (k *ℤ pos d) → pos (round_up n d) ≤ℤ k
  lowest_pos n (pos k) h = record { le = le→leb (round_up n d) k ((round_up_is n d p).lowest k (leb→le n (k * d) h.le)) }
  lowest_pos n (negsuc k) h = absurd (subst (λ (z : ℤ). pos n ≤ℤ z) (negative (suc k * d) (some k)) h).le

  lowest_neg : (n : ℕ) (k : ℤ) → negsuc n ≤ℤ (k *ℤ pos d) → neg_ℤ (pos (suc n / d)) ≤ℤ k
  lowest_neg n (pos k) h = below_pos (suc n / d) k
  lowest_neg n (negsuc k) h = below (suc n / d) k ((le-div_iff_mul-le p).1 (under n k h))

  pub ceiling_is : (z : ℤ) → LeastMultiple z d (ceiling z d)
  unfolding ceiling
  ceiling_is (pos n) = record { passes = record { le = le→leb n (round_up n d * d) (round_up_is n d p).passes }; lowest = lowest_pos n }
  ceiling_is (negsuc n) = record { passes = above n (suc n / d) (div-mul-le_self (suc n) d); lowest = lowest_neg n }
