use Rattle.std.proofs.Common.{arith}
use borrow.Author.Tests.{ne_eqb}
use Rattle.text.proofs.Ends.{fed, nearer, past}
use Rattle.text.proofs.line_end.Goals as goal

pub returns-then-text-at-eq-LINE_FEED : goal.returns-then-text-at-eq-LINE_FEED
returns-then-text-at-eq-LINE_FEED c =
    omega (arith, c.loop-at.invariant.same, fed c.args.text.now c.loop-at.at (omega arith) c.if-text-at-eq-LINE_FEED.true)

pub loop-at-preserved : goal.loop-at-preserved
loop-at-preserved c = nearer _ _ c.loop-at.at c.loop-at.invariant (omega arith) (ne_eqb _ _ c.if-text-at-eq-LINE_FEED.false)

pub returns : goal.returns
returns c = omega (arith, c.loop-at.invariant.same, c.loop-at.invariant.inside, past c.args.text.now c.loop-at.at (omega arith))
