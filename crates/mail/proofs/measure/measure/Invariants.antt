use Rattle.mail.specs.Working.{Measuring}
use Rattle.mail.proofs.measure.measure.Given as goal

abbrev pub invariant-loop-passed : goal.invariant-loop-passed
invariant-loop-passed l = Measuring l.book l.passed.place l.passed.sizes

abbrev pub decreases-loop-passed : goal.decreases-loop-passed
decreases-loop-passed l = l.passed.place.at
