-- `hadlephoga::adding::deal_for`: 11 and 40, by the lengths. Assumes nothing.
use Rattle.std.proofs.Common.{sym, ◌∙◌}
use borrow.Author.Tests.{eq-eqb, ne_eqb}
use Rattle.base.proofs.FirstMet.{met_first, none_met, not_met}
use Rattle.base.proofs.Tests.{not_false, not_true}
use Rattle.deal.specs.Answers.{refusal_number}
use Rattle.book.specs.Reply.{line_answer_number, line_refusal_number}
use Rattle.hadlephoga.proofs.adding.deal_for.Goals as goal

pub returns-then-item-width-clause-refusal : goal.returns-then-item-width-clause-refusal
unfolding line_answer_number line_refusal_number
returns-then-item-width-clause-refusal c = sym (met_first 11 _ _ (not_true _ (ne_eqb _ _ c.if-item-width.true)))

pub returns-then-numbers-ne-RECORD_LENGTH-clause-refusal : goal.returns-then-numbers-ne-RECORD_LENGTH-clause-refusal
unfolding line_answer_number line_refusal_number refusal_number
returns-then-numbers-ne-RECORD_LENGTH-clause-refusal c =
    sym (not_met 11 _ _ (not_false _ (eq-eqb _ _ c.if-item-width.false)) ∙ met_first 40 _ _ (not_true _ (ne_eqb _ _ c.if-numbers-ne-RECORD_LENGTH.true)))

pub returns-clause-refusal : goal.returns-clause-refusal
unfolding line_answer_number
returns-clause-refusal c = sym (none_met _ (not_false _ (eq-eqb _ _ c.if-item-width.false), (not_false _ (eq-eqb _ _ c.if-numbers-ne-RECORD_LENGTH.false), tt)))
