-- `hadlephoga::opening::open_record`: by whether the lent list has room. Assumes nothing.
use Rattle.std.proofs.Common.{ap, sym, ◌∙◌}
use borrow.Author.Tests.{le-ltb, lt-ltb}
use Rattle.base.proofs.Choice.{if_false, if_true}
use Rattle.base.proofs.FirstMet.{met_first, not_met}
use Rattle.base.specs.Writing.{overwrite}
use Rattle.book.specs.Reply.{line_answer_number}
use Rattle.book.proofs.Numbers.{refusal_some}
use Rattle.hadlephoga.specs.Operations.{list_opened, opening_refusal_of}
use Rattle.hadlephoga.specs.Records.{deal_numbers}
use Rattle.hadlephoga.proofs.Operations.{opened_none, zeros}
use Rattle.hadlephoga.proofs.opening.open_record.Goals as goal

pub returns-then-record-lt-RECORD_LENGTH-clause-value : goal.returns-then-record-lt-RECORD_LENGTH-clause-value
unfolding opening_refusal_of
returns-then-record-lt-RECORD_LENGTH-clause-value c = sym (met_first 13 _ _ (lt-ltb _ _ c.if-record-lt-RECORD_LENGTH.true))

pub returns-then-record-lt-RECORD_LENGTH-clause-record_after : goal.returns-then-record-lt-RECORD_LENGTH-clause-record_after
unfolding list_opened
returns-then-record-lt-RECORD_LENGTH-clause-record_after c = sym (if_true _ _ _ (lt-ltb _ _ c.if-record-lt-RECORD_LENGTH.true))

pub returns-in-Ok-clause-value : goal.returns-in-Ok-clause-value
unfolding opening_refusal_of line_answer_number
returns-in-Ok-clause-value c = c.in-Ok.ensures.refusal ∙ sym (not_met 13 _ _ (le-ltb _ _ c.if-record-lt-RECORD_LENGTH.false))

pub returns-in-Ok-clause-record_after : goal.returns-in-Ok-clause-record_after
unfolding list_opened
returns-in-Ok-clause-record_after c =
    c.put_record.ensures ∙ ap (λ ns. overwrite ns c.args.«record».now) c.in-Ok.ensures.opened ∙ sym (if_false _ _ _ (le-ltb _ _ c.if-record-lt-RECORD_LENGTH.false))

pub returns-in-Err-clause-value : goal.returns-in-Err-clause-value
unfolding opening_refusal_of line_answer_number
returns-in-Err-clause-value c = c.number.ensures ∙ c.in-Err.ensures.refusal ∙ sym (not_met 13 _ _ (le-ltb _ _ c.if-record-lt-RECORD_LENGTH.false))

pub returns-in-Err-clause-record_after : goal.returns-in-Err-clause-record_after
unfolding list_opened line_answer_number
returns-in-Err-clause-record_after c =
    let none = ap deal_numbers c.without_protection-deal.ensures ∙ zeros ∙ sym (opened_none c.args.terms.now (refusal_some c.in-Err.refusal) c.in-Err.ensures.refusal) in
    c.put_record-in-Err.ensures ∙ ap (λ ns. overwrite ns c.args.«record».now) none ∙ sym (if_false _ _ _ (le-ltb _ _ c.if-record-lt-RECORD_LENGTH.false))
