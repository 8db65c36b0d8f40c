-- `book::deals::count_deals`: the line that was looked at is counted if it opens a deal. Assumes nothing.
use Rattle.std.proofs.Common.{◌∙◌, ap, arith, sym}
use Rattle.text.proofs.Lines.{rest_part}
use Rattle.book.specs.Deals.{opens_deal}
use Rattle.book.proofs.Counted.{counted_all, counted_deal, counted_other, onward}
use Rattle.book.proofs.deals.count_deals.Goals as goal
use Rattle.book.proofs.deals.count_deals.Goals.{then-opens_deal, else-opens_deal}

pub loop-at-smaller : goal.loop-at-smaller
loop-at-smaller c =
    let on = onward _ _ _ c.loop-at.invariant c.loop-at-test.true _ c.line_end-at.ensures in
    omega (arith, on.0, on.1)

pub loop-at-preserved : goal.loop-at-preserved
loop-at-preserved c =
    let l = c.loop-at in
    let told = sym (ap opens_deal (rest_part c.args.lines.now l.at)) ∙ sym c.opens_deal.ensures in
    elim c.if-opens_deal.branch [
      | then-opens_deal w ↦ rw w.deals-is (counted_deal _ _ _ l.invariant c.loop-at-test.true _ c.line_end-at.ensures (told ∙ w.if-opens_deal.true))
      | else-opens_deal w ↦ rw w.deals-is (counted_other _ _ _ l.invariant c.loop-at-test.true _ c.line_end-at.ensures (told ∙ w.if-opens_deal.false))
    ]

pub returns : goal.returns
returns c = counted_all _ _ _ c.loop-at.invariant c.loop-at-test.false
