-- `book::reading::own_line`: nothing is own where the text ends. Assumes nothing.
use Rattle.std.proofs.Common.{ap, arith, not, sym, ◌∙◌, ◌≤◌, length}
use borrow.Author.Tests.{le-ltb}
use Rattle.text.proofs.Lines.{rest_part}
use Rattle.book.specs.Deals.{opens_deal}
use Rattle.book.proofs.Grouping.{own_at, own_past}
use Rattle.book.proofs.reading.own_line.Goals as goal

pub returns-then-at-text : goal.returns-then-at-text
returns-then-at-text c = ap not (c.opens_deal.ensures ∙ ap opens_deal (rest_part c.args.text.now c.args.at)) ∙ sym (own_at c.args.text.now c.args.at c.if-at-text.true)

pub returns-else-at-text : goal.returns-else-at-text
returns-else-at-text c =
    let h : length c.args.text.now ≤ c.args.at = omega (arith, c.if-at-text.false) in
    le-ltb c.args.at (length c.args.text.now) h ∙ sym (own_past c.args.text.now c.args.at h)
