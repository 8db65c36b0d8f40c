use Rattle.std.proofs.Common.{◌≡◌, take}
use Rattle.netting.specs.Groups.{member}
use Rattle.netting.specs.Nets.{net as net_of}
use Rattle.netting.proofs.nets.net.Given as goal

abbrev pub invariant-loop-position : goal.invariant-loop-position
invariant-loop-position l = l.sum ≡ net_of (member l.group) (take l.position-index l.positions)
