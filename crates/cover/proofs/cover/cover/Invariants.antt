-- `Covering` holds of the pieces that were passed.
use Rattle.cover.proofs.Covering.{Covering}
use Rattle.cover.proofs.cover.cover.Given as goal

abbrev pub invariant-loop-i : goal.invariant-loop-i
invariant-loop-i l = Covering l.exposure l.protections l.portions l.uncovered l.weighted_sum l.i
