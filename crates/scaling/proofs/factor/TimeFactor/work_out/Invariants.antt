-- The number that is tried is a haircut's, and the one below it is too small.
use Rattle.std.proofs.Common.{◌-◌, ◌*◌, ◌<◌, ◌≤◌}
use Rattle.scaling.proofs.factor.TimeFactor.work_out.Given as goal

abbrev pub invariant-loop-h : goal.invariant-loop-h
invariant-loop-h l = (1 ≤ l.h) × (10 * (l.h - 1) * (l.h - 1) < l.target)

abbrev pub decreases-loop-h : goal.decreases-loop-h
decreases-loop-h l = l.target - 10 * l.h * l.h
