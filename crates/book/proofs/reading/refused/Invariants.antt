use Rattle.std.proofs.Common.{◌+◌, ◌-◌, length}
use Rattle.book.proofs.Passing.{Passed}
use Rattle.book.proofs.reading.refused.Given as goal

-- the lines so far are passed
abbrev pub invariant-loop-at : goal.invariant-loop-at
invariant-loop-at l = Passed l.text l.start (l.number + 1) l.at l.next

abbrev pub decreases-loop-at : goal.decreases-loop-at
decreases-loop-at l = length l.text - l.at
