-- `book::reading::refused`: every further line is passed. Assumes nothing.
use Rattle.std.proofs.Common.{arith, refl, sym, ◌∙◌}
use Rattle.book.specs.Answers.{refused_at}
use Rattle.book.specs.Reply.{answer_sent}
use Rattle.book.proofs.Passing.{own_line_ends, passed_line}
use Rattle.book.proofs.reading.refused.Goals as goal

pub loop-at-smaller : goal.loop-at-smaller
loop-at-smaller c =
    let ends = own_line_ends _ _ _ c.loop-at.invariant.inside (sym c.own_line.ensures ∙ c.loop-at-test.true) c.line_end-at.ensures in
    omega (arith, ends.more, ends.inside)

pub loop-at-preserved : goal.loop-at-preserved
loop-at-preserved c =
    let ends = own_line_ends _ _ _ c.loop-at.invariant.inside (sym c.own_line.ensures ∙ c.loop-at-test.true) c.line_end-at.ensures in
    passed_line _ _ _ _ _ c.loop-at.invariant _ ends c.line_end-at.ensures

pub returns-clause-answer : goal.returns-clause-answer
unfolding answer_sent refused_at
returns-clause-answer c = refl
