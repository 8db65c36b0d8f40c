-- Low is too small, and low + width is not.
use Rattle.std.proofs.Common.{◌+◌, ◌*◌, ◌<◌, ◌≤◌}
use Rattle.scaling.proofs.scaling.scaled_haircut.Given as goal

abbrev pub invariant-loop-width : goal.invariant-loop-width
invariant-loop-width l =
    (10 * l.low * l.low < l.target) × ((l.target ≤ 10 * (l.low + l.width) * (l.low + l.width)) × ((1 ≤ l.width) × (l.low + l.width ≤ 16777216)))

abbrev pub decreases-loop-width : goal.decreases-loop-width
decreases-loop-width l = l.width
