use Rattle.result.proofs.PartDigits.{DigitsWritten}
use Rattle.result.proofs.number.put_number.Given as goal

abbrev pub invariant-loop-place : goal.invariant-loop-place
invariant-loop-place l = DigitsWritten l.initial.out l.at l.n l.end l.out l.place l.rest
