use Rattle.std.proofs.Common.{◌≡◌, length}
use Rattle.base.specs.Any.{any_two}
use Rattle.netting.specs.Refusals.{disagree as disagree_of}
use Rattle.netting.proofs.agreement.any_disagree.Given as goal

abbrev pub invariant-loop-position : goal.invariant-loop-position
invariant-loop-position l = any_two l.positions disagree_of ≡ any_two l.later disagree_of

abbrev pub decreases-loop-position : goal.decreases-loop-position
decreases-loop-position l = length l.later
