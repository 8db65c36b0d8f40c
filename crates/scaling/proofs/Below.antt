-- A share of the whole's scaled figure is too small for the scaled haircut. Assumes nothing.
use Prim.Native.Nat.{ℕ, zero, suc, ◌*◌, ◌-◌, ◌/◌, ◌≤◌, ◌<◌}
use mathlib.Core.Path.{◌≡◌}
use native.Mathlib.Omega.{arith}
use native.Mathlib.Nat.{mul-le-mul, le_of_mul-le-mul_left}
use native.Mathlib.Decide.{dec_le}
use Rattle.scaling.specs.Scaling.{scaled}
use Rattle.scaling.proofs.Scaled.{larger, scaled_is, scaled_le}

pub both_some : (H n : ℕ) → 1 ≤ H * H * n → (1 ≤ H) × (1 ≤ n)
both_some zero n h = absurd (omega (arith, h))
both_some (suc H) zero h = absurd (omega (arith, h))
both_some (suc H) (suc n) h = (omega arith, omega arith)

pub whole_some : (n : ℕ) → 1 ≤ n → 1 ≤ scaled 1000000 n
whole_some n h = go (dec_le 1 (scaled 1000000 n))
  where
    go : Dec (1 ≤ scaled 1000000 n) → 1 ≤ scaled 1000000 n
    go (yes le) = le
    go (no gt) = let le : scaled 1000000 n ≤ 0 = omega arith in absurd (omega (arith, h, larger le, (scaled_is 1000000 n).passes))

-- were a share of v enough for H, v would be enough for the whole
of_the_whole : (H n c v : ℕ) → 1 ≤ H → c * 1000000 ≤ H * v → H * H * n ≤ 10 * c * c → 1000000 * 1000000 * n ≤ 10 * v * v
of_the_whole H n c v h share e =
    let squares = mul-le-mul share share in
    let le : H * H * (1000000 * 1000000 * n) ≤ H * H * (10 * v * v) = omega (arith, squares, e) in
    le_of_mul-le-mul_left le (omega (arith, mul-le-mul h h))

-- the share of the whole less 1
pub share_too_small : (H n w c : ℕ) → 1 ≤ H → 1 ≤ n → w ≡ scaled 1000000 n → c ≡ H * (w - 1) / 1000000 → 10 * c * c < H * H * n
share_too_small H n w c h k e q = go (dec_le (H * H * n) (10 * c * c))
  where
    go : Dec (H * H * n ≤ 10 * c * c) → 10 * c * c < H * H * n
    go (yes le) =
        let share : c * 1000000 ≤ H * (w - 1) = omega (arith, q) in
        absurd (omega (arith, e, scaled_le 1000000 n {b = w - 1} (of_the_whole H n c (w - 1) h share le), whole_some n k))
    go (no gt) = omega arith

-- the factor of no period
pub factor_none : 0 ≡ scaled 1000000 0
factor_none = omega (arith, scaled_le 1000000 0 {b = 0} (omega arith))
