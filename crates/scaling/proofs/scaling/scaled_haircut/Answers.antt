use Rattle.std.proofs.Common.{ℕ, ◌+◌, ◌-◌, ◌*◌, ◌/◌, ◌<◌, ◌≤◌, ◌≡◌, arith}
use native.Mathlib.Nat.{le_trans}
use Rattle.scaling.proofs.Scaled.{larger, scaled_by_step, scaled_le, scaled_means}
use Rattle.scaling.proofs.scaling.scaled_haircut.Goals as goal
use Rattle.scaling.proofs.scaling.scaled_haircut.Goals.{then-middle-target, else-middle-target}

abbrev Holds : ℕ → ℕ → ℕ → Type 0
Holds target low width =
    (10 * low * low < target) × ((target ≤ 10 * (low + width) * (low + width)) × ((1 ≤ width) × (low + width ≤ 16777216)))

-- the middle is too small: it is the next low
up : (target low width : ℕ) → Holds target low width → 1 < width → 10 * (low + width / 2) * (low + width / 2) < target →
    Holds target (low + width / 2) (width - width / 2)
up target low width h wide small =
    let e : low + width / 2 + (width - width / 2) ≡ low + width = omega arith in
    rw e (small, (h.1.0, (omega arith, h.1.1.1)))

-- the middle is enough: half the width is, too
down : (target low width : ℕ) → Holds target low width → 1 < width → target ≤ 10 * (low + width / 2) * (low + width / 2) →
    Holds target low (width - width / 2)
down target low width h wide enough =
    let le : low + width / 2 ≤ low + (width - width / 2) = omega arith in
    (h.0, (le_trans enough (larger le), (omega arith, omega arith)))

pub returns-then-target-eq0 : goal.returns-then-target-eq0
returns-then-target-eq0 c =
    let m = scaled_means c.args.haircut c.args.period {h = 0} (omega (arith, scaled_le c.args.haircut c.args.period {b = 0} (omega arith))) in
    record { value = m.0; least = m.1 }

pub loop-width-preserved : goal.loop-width-preserved
loop-width-preserved c =
    let l = c.loop-width in
    elim c.if-middle-target.branch [
      | then-middle-target w ↦ rw w.low-is (up _ l.low l.width l.invariant (omega arith) (omega arith))
      | else-middle-target w ↦ rw w.low-is (down _ l.low l.width l.invariant (omega arith) (omega arith))
    ]

pub returns : goal.returns
returns c =
    let l = c.loop-width in
    let e : l.width ≡ 1 = omega arith in
    let m = scaled_means c.args.haircut c.args.period (scaled_by_step c.args.haircut c.args.period l.low l.invariant.0 (rw e at l.invariant.1.0)) in
    record { value = m.0; least = m.1 }
