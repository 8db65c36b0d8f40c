-- The laws of rounded quotients. Assumes nothing.
use Prim.Native.Nat.{ℕ, suc, ◌+◌, ◌*◌, ◌-◌, ◌/◌, ◌≤◌, ◌<◌}
use mathlib.Core.Path.{◌≡◌}
use mathlib.Core.Logic.{◌⊎◌, inl, inr}
use native.Mathlib.Omega.{arith}
use native.Mathlib.Nat.{le_trans, eq-zero-or-pos, le-div_iff_mul-le, div-lt_iff_lt-mul, div-mul-le_self, lt-div-mul-add, div-zero, div-le_of_le-mul, mul-le-mul_left}
use Rattle.base.specs.Least.{Least}
use Rattle.base.specs.Rounding.{round_up}

-- a larger numerator
pub div_mono : (d : ℕ) {x y : ℕ} → x ≤ y → x / d ≤ y / d
div_mono d {x} {y} h = go (eq-zero-or-pos d)
  where
    go : (d ≡ 0) ⊎ (0 < d) → x / d ≤ y / d
    go (inl z) = simp (z, div-zero) (omega arith)
    go (inr p) = (le-div_iff_mul-le p).1 (le_trans (div-mul-le_self x d) h)

-- a share of at most the whole
pub share_le : (x : ℕ) {n d : ℕ} → n ≤ d → x * n / d ≤ x
share_le x {n} {d} h = div-le_of_le-mul d (omega (arith, mul-le-mul_left x h))

pub round_up_mono : (d : ℕ) {x y : ℕ} → x ≤ y → round_up x d ≤ round_up y d
unfolding round_up
round_up_mono d h = div_mono d (omega arith)

pub round_up_is : (x d : ℕ) → 0 < d → Least (λ m. x ≤ m * d) (round_up x d)
unfolding round_up
round_up_is x d p = record {
  passes = omega (arith, lt-div-mul-add {a = x + (d - 1)} p);
  lowest = λ m h. omega (arith, (div-lt_iff_lt-mul {x = x + (d - 1)} {y = suc m} p).1 (omega arith));
}
