use Rattle.std.proofs.Common.{◌-◌, length}
use Rattle.text.specs.WithinLine.{Near}
use Rattle.text.proofs.near_end.Given as goal

abbrev pub invariant-loop-at : goal.invariant-loop-at
invariant-loop-at l = Near l.text l.start l.at

abbrev pub decreases-loop-at : goal.decreases-loop-at
decreases-loop-at l = length l.text - l.at
