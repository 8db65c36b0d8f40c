use Rattle.mail.specs.Working.{Filling}
use Rattle.mail.proofs.write.write.Given as goal

abbrev pub invariant-loop-filled : goal.invariant-loop-filled
invariant-loop-filled l = Filling l.book l.initial.buffer l.initial.list l.buffer l.list l.filled

abbrev pub decreases-loop-filled : goal.decreases-loop-filled
decreases-loop-filled l = l.filled.place.at
