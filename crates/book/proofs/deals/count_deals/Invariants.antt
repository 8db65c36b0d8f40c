use Rattle.std.proofs.Common.{◌-◌, length}
use Rattle.book.proofs.Counted.{Counted}
use Rattle.book.proofs.deals.count_deals.Given as goal

-- what is counted and what is still to come make the whole
abbrev pub invariant-loop-at : goal.invariant-loop-at
invariant-loop-at l = Counted l.lines l.at l.deals

abbrev pub decreases-loop-at : goal.decreases-loop-at
decreases-loop-at l = length l.lines - l.at
