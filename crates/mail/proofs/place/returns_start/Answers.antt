use Rattle.std.proofs.Common.{arith}
use Rattle.mail.proofs.Stepping.{return_more}
use Rattle.mail.proofs.place.returns_start.Goals as goal

pub loop-before-preserved : goal.loop-before-preserved
loop-before-preserved c = return_more _ _ _ (omega arith) c.requires (omega (arith, c.loop-before.auto.before)) c.loop-before.invariant c.if-book-before-ne-CARRIAGE_RETURN.false
