use Rattle.std.proofs.Common.{◌-◌, length}
use Rattle.book.proofs.Held.{Held}
use Rattle.book.proofs.reading.with_items.Given as goal

-- the answer so far and the lines to come make the whole one
abbrev pub invariant-loop-end : goal.invariant-loop-end
invariant-loop-end l = Held l.text l.start l.number l.deal.timed.terms l.items.collateral l.items.guarantees l.at l.next

abbrev pub decreases-loop-end : goal.decreases-loop-end
decreases-loop-end l = length l.text - l.at
