use Rattle.text.specs.WithinLine.{Near}
use Rattle.text.proofs.line_end.Given as goal

-- no line feed is passed
abbrev pub invariant-loop-at : goal.invariant-loop-at
invariant-loop-at l = Near l.text l.start l.at
