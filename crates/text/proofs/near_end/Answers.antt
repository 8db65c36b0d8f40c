use Rattle.std.proofs.Common.{arith, sym, ◌∙◌}
use Rattle.text.proofs.Ends.{nearer_by}
use Rattle.text.proofs.near_end.Goals as goal

pub loop-at-preserved : goal.loop-at-preserved
loop-at-preserved c =
    nearer_by _ _ _ c.loop-at.invariant 8 (omega arith) (sym c.no_feed_in_eight.ensures ∙ c.if-not-no_feed_in_eight.false)
