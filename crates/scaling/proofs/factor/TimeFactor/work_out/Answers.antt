use Rattle.std.proofs.Common.{ℕ, ◌+◌, ◌-◌, ◌*◌, ◌/◌, ◌<◌, ◌≤◌, ◌≡◌, arith}
use native.Mathlib.Nat.{mul-le-mul}
use native.Mathlib.Decide.{dec_le}
use Rattle.scaling.specs.Scaling.{scaled}
use Rattle.scaling.proofs.Below.{both_some, whole_some, share_too_small}
use Rattle.scaling.proofs.Scaled.{larger, scaled_by_step, scaled_le, scaled_wide}
use Rattle.scaling.proofs.factor.TimeFactor.work_out.Goals as goal

-- what is known of a factor and a haircut whose target is not 0
product_low : (H n w : ℕ) → H ≤ 1000000 → n ≤ 2000 → w ≡ scaled 1000000 n → H * (w - 1) ≤ 1000000 * 20000000
product_low H n w h k e =
    let b : w - 1 ≤ 20000000 = omega (arith, e, scaled_wide {H = 1000000} {n = n} (omega arith) k) in
    mul-le-mul h b

target_low : (H n : ℕ) → H ≤ 1000000 → n ≤ 2000 → H * H * n ≤ 2000000000000000
target_low H n h k = omega (arith, mul-le-mul (mul-le-mul h h) k)

some_factor : (H n w : ℕ) → 1 ≤ H * H * n → w ≡ scaled 1000000 n → 1 ≤ w
some_factor H n w t e = omega (arith, e, whole_some n (both_some H n t).1)

-- the number that is tried is not large
tried : (target h : ℕ) → target ≤ 2000000000000000 → 10 * (h - 1) * (h - 1) < target → h ≤ 20000000
tried target h t i = go (dec_le h 20000000)
  where
    go : Dec (h ≤ 20000000) → h ≤ 20000000
    go (yes le) = le
    go (no gt) = let le : 20000000 ≤ h - 1 = omega arith in absurd (omega (arith, t, i, larger le))

pub returns-then-target-eq0 : goal.returns-then-target-eq0
returns-then-target-eq0 c = omega (arith, scaled_le c.args.haircut c.args.self.period {b = 0} (omega arith))

pub overflow_sub-h : goal.overflow_sub-h
overflow_sub-h c = some_factor c.args.haircut c.args.self.period _ (omega arith) c.args.self.scaled_millionths

pub overflow_mul-h : goal.overflow_mul-h
overflow_mul-h c = omega (arith, product_low _ _ _ c.requires.small c.args.self.short c.args.self.scaled_millionths)

pub loop-h-init : goal.loop-h-init
loop-h-init c =
    let a = c.args in
    let s = both_some a.haircut a.self.period (omega arith) in
    let q : a.haircut * (a.self.millionths - 1) / 1000000 + 1 - 1 ≡ a.haircut * (a.self.millionths - 1) / 1000000 = omega arith in
    (omega arith, share_too_small a.haircut a.self.period a.self.millionths _ s.0 s.1 a.self.scaled_millionths q)

pub overflow_mul-h-in-loop-h-2 : goal.overflow_mul-h-in-loop-h-2
overflow_mul-h-in-loop-h-2 c =
    let low = target_low c.args.haircut c.args.self.period c.requires.small c.args.self.short in
    omega (arith, larger (tried _ c.loop-h.h low c.loop-h.invariant.1))

pub returns : goal.returns
returns c =
    let h = c.loop-h.h in
    let e : h - 1 + 1 ≡ h = omega (arith, c.loop-h.invariant.0) in
    rw e at (scaled_by_step c.args.haircut c.args.self.period (h - 1) c.loop-h.invariant.1 (rw e (omega arith)))
