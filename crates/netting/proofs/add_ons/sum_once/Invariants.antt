use Rattle.std.proofs.Common.{◌≡◌, ◌+◌, length}
use Rattle.netting.specs.Once.{sum_once}
use Rattle.netting.proofs.add_ons.sum_once.Given as goal

abbrev pub invariant-loop-position : goal.invariant-loop-position
invariant-loop-position g l = l.sum + sum_once g.of.0 g.of.1 l.later ≡ sum_once g.of.0 g.of.1 l.positions

abbrev pub decreases-loop-position : goal.decreases-loop-position
decreases-loop-position g l = length l.later
