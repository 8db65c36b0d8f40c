-- `book::reading::opened`: a deal without further lines is one without protection. Assumes nothing.
use Rattle.std.proofs.Common.{refl, sym, ◌∙◌}
use Rattle.base.proofs.Tests.{told_false}
use Rattle.book.specs.Reply.{answer_sent}
use Rattle.book.proofs.Answering.{componentwise}
use Rattle.book.proofs.Held.{held_answer, held_first}
use Rattle.book.proofs.Passing.{passed_all}
use Rattle.book.proofs.reading.opened.Goals as goal

pub returns-clause-lines_read : goal.returns-clause-lines_read
returns-clause-lines_read c =
    let first = held_first c.args.text.now c.args.start c.args.number c.args.deal.now.timed.terms c.args.deal.now.not_refused c.requires.0 in
    passed_all _ _ _ _ _ first.passed (told_false _ _ c.own_line.ensures c.if-own_line.false)

pub returns-clause-text_value : goal.returns-clause-text_value
unfolding answer_sent
returns-clause-text_value c =
    let first = held_first c.args.text.now c.args.start c.args.number c.args.deal.now.timed.terms c.args.deal.now.not_refused c.requires.0 in
    let a = c.bare_amounts.ensures in
    held_answer _ _ _ _ _ _ _ _ first (told_false _ _ c.own_line.ensures c.if-own_line.false) ∙ sym (componentwise refl a.0 a.1)
