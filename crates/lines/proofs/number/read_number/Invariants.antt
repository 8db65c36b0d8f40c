use Rattle.lines.proofs.NumberLaws.{Passed}
use Rattle.lines.proofs.number.read_number.Given as goal

abbrev pub invariant-loop-digits : goal.invariant-loop-digits
invariant-loop-digits l = Passed l.text l.value l.digits
