-- `hadlephoga::lent::put_each`: one item's numbers more. Assumes nothing.
use Rattle.std.proofs.Common.{arith}
use Rattle.hadlephoga.proofs.Numbers.{put_all, put_next, put_none, put_room}
use Rattle.hadlephoga.proofs.lent.put_each.Goals as goal

pub loop-item-init : goal.loop-item-init
loop-item-init g c = put_none _ _ _ _

pub put-place-requires : goal.put-place-requires
put-place-requires g c = put_room _ c.loop-item.invariant _ c.item-item.is c.loop-item-test.true c.requires

pub loop-item-preserved : goal.loop-item-preserved
loop-item-preserved g c = put_next _ c.loop-item.invariant _ c.item-item.is c.loop-item-test.true (omega (arith, c.requires)) c.put-place.auto.list c.put-place.ensures

pub returns : goal.returns
returns g c = put_all _ c.loop-item.invariant (omega (arith, c.loop-item.invariant.inside))
