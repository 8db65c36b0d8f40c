-- The laws of a scaled haircut, for every haircut H and every period n. Assumes nothing.
use Prim.Native.Nat.{ℕ, zero, suc, ◌+◌, ◌*◌, ◌≤◌, ◌<◌}
use mathlib.Core.Path.{◌≡◌}
use native.Mathlib.Omega.{arith}
use native.Mathlib.Nat.{le_trans, mul-le-mul, mul-le-mul_left, le-mul_of_pos_right}
use native.Mathlib.Decide.{dec_le}
use borrow.Author.Tests.{leb-true, le-leb}
use Rattle.base.proofs.Least.{least_is, least_mono, least_unique}
use Rattle.scaling.specs.Scaling.{enough, scaled, IsScaled}

abbrev Enough : ℕ → ℕ → ℕ → Type 0
Enough H n h = H * H * n ≤ 10 * h * h

square : (n : ℕ) → n ≤ n * n
square zero = omega arith
square (suc n) = le-mul_of_pos_right (suc n) (omega arith)

pub larger : {h k : ℕ} → h ≤ k → 10 * h * h ≤ 10 * k * k
larger {h} {k} le = mul-le-mul (mul-le-mul_left 10 le) le

-- THE SCALED HAIRCUT IS "THE LEAST WHOLE NUMBER h", FOR EVERY H AND n
pub scaled_is : (H n : ℕ) → IsScaled H n (scaled H n)
unfolding scaled
scaled_is H n =
    let top : Enough H n (H * n) = omega (arith, mul-le-mul_left (H * H) (square n)) in
    let l = least_is (enough H n) (λ i j le t. le-leb _ _ (le_trans (leb-true _ _ t) (larger le))) (H * n) (le-leb _ _ top) in
    record { passes = leb-true _ _ l.passes; lowest = λ k e. l.lowest k (le-leb _ _ e) }

-- what shows that a number is the scaled haircut: it is enough, and nothing below it is
pub scaled_by_step : (H n low : ℕ) → 10 * low * low < H * H * n → H * H * n ≤ 10 * (low + 1) * (low + 1) → low + 1 ≡ scaled H n
scaled_by_step H n low fails passes = least_unique (record { passes = passes; lowest = λ k e. above k e }) (scaled_is H n)
  where
    above : (k : ℕ) → Enough H n k → low + 1 ≤ k
    above k e = go (dec_le k low)
      where
        go : Dec (k ≤ low) → low + 1 ≤ k
        go (yes le) = absurd (omega (arith, larger le))
        go (no gt) = omega arith

-- a bound that is enough
pub scaled_le : (H n : ℕ) {b : ℕ} → H * H * n ≤ 10 * b * b → scaled H n ≤ b
scaled_le H n e = (scaled_is H n).lowest _ e

-- a bound for sums and products to fit
pub scaled_bound : {H n : ℕ} → H ≤ 1000000 → n ≤ 1000 → scaled H n ≤ 10000000
scaled_bound {H} {n} h_h hn = scaled_le H n {b = 10000000} (omega (arith, mul-le-mul (mul-le-mul h_h h_h) hn))

-- and one for periods that no deal has
pub scaled_wide : {H n : ℕ} → H ≤ 1000000 → n ≤ 2000 → scaled H n ≤ 20000000
scaled_wide {H} {n} h_h hn = scaled_le H n {b = 20000000} (omega (arith, mul-le-mul (mul-le-mul h_h h_h) hn))

-- a larger haircut, a longer period: no smaller
pub scaled_mono : {H H' n n' : ℕ} → H ≤ H' → n ≤ n' → scaled H n ≤ scaled H' n'
scaled_mono {H} {H'} {n} {n'} p q =
    least_mono (λ k e. le_trans (mul-le-mul (mul-le-mul p p) q) e) (scaled_is H n) (scaled_is H' n')

-- what equals it is the least, too
pub scaled_means : (H n : ℕ) {h : ℕ} → h ≡ scaled H n → (h ≡ scaled H n) × IsScaled H n h
scaled_means H n e = (e, rw e (scaled_is H n))
