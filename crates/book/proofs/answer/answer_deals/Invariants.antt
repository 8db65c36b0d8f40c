use Rattle.std.proofs.Common.{◌-◌, length}
use Rattle.book.proofs.Written.{Holds}
use Rattle.book.proofs.answer.answer_deals.Given as goal

-- what is written and the deals to come make all answers
abbrev pub invariant-loop-at : goal.invariant-loop-at
invariant-loop-at l = Holds l.edition l.lines l.initial.results l.results l.at l.number l.deals

abbrev pub decreases-loop-at : goal.decreases-loop-at
decreases-loop-at l = length l.lines - l.at
