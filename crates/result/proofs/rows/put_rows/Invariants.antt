use Rattle.result.proofs.Lines.{RowsWritten}
use Rattle.result.proofs.rows.put_rows.Given as goal

abbrev pub invariant-loop-numbers : goal.invariant-loop-numbers
invariant-loop-numbers l = RowsWritten l.initial.out l.at l.results l.deals l.out l.place l.numbers-index
