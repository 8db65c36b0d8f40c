use Rattle.std.proofs.Common.{◌≡◌, drop}
use Rattle.base.specs.FirstMet.{first_met}
use Rattle.netting.specs.Positions.{fields_of_each}
use Rattle.netting.proofs.refusal.check_fields.Given as goal

abbrev pub invariant-loop-position : goal.invariant-loop-position
invariant-loop-position l = first_met (fields_of_each l.positions) ≡ first_met (fields_of_each (drop l.position-index l.positions))
