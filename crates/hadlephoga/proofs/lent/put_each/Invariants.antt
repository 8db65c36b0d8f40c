use Rattle.hadlephoga.proofs.Numbers.{Put}
use Rattle.hadlephoga.proofs.lent.put_each.Given as goal

-- the numbers of the first items are put
abbrev pub invariant-loop-item : goal.invariant-loop-item
invariant-loop-item g l = Put g.T.Numbered.numbers l.items l.initial.list l.at l.list l.place l.item-index
