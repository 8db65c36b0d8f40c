-- The sum is that of the pieces that were passed.
use Rattle.std.proofs.Common.{◌≡◌, ◌*◌, ◌≤◌}
use Rattle.cover.proofs.Ahead.{ahead_to}
use Rattle.cover.proofs.precedence.covers_before.Given as goal

abbrev pub invariant-loop-i : goal.invariant-loop-i
invariant-loop-i l = (l.sum ≤ l.i * 1000000000000) × (l.sum ≡ ahead_to l.weight l.protections l.place l.i)
