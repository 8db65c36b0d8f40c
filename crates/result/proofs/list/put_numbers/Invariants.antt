use Rattle.result.proofs.NumberLines.{NumbersWritten}
use Rattle.result.proofs.list.put_numbers.Given as goal

abbrev pub invariant-loop-number : goal.invariant-loop-number
invariant-loop-number l = NumbersWritten l.initial.out l.at l.numbers l.count l.out l.place l.number-index
