-- `hadlephoga::hadlephoga_answer_book`: the parts of the reply in their places. Assumes nothing.
use Rattle.std.proofs.Common.{ap, sym, ◌∙◌}
use Rattle.book.specs.Reply.{reply_sent}
use Rattle.hadlephoga.proofs.hadlephoga_answer_book.Goals as goal

pub returns-in-Ok-clause-value : goal.returns-in-Ok-clause-value
unfolding reply_sent
returns-in-Ok-clause-value c = ap (λ r. r.refusal) (ap reply_sent (sym c.in-Ok.is) ∙ c.answer_book.ensures.0)

pub returns-in-Ok-clause-deals_after : goal.returns-in-Ok-clause-deals_after
unfolding reply_sent
returns-in-Ok-clause-deals_after c = ap (λ r. r.deals) (ap reply_sent (sym c.in-Ok.is) ∙ c.answer_book.ensures.0)

pub returns-in-Err-clause-value : goal.returns-in-Err-clause-value
unfolding reply_sent
returns-in-Err-clause-value c = c.number.ensures ∙ ap (λ r. r.refusal) (ap reply_sent (sym c.in-Err.is) ∙ c.answer_book.ensures.0)

pub returns-in-Err-clause-deals_after : goal.returns-in-Err-clause-deals_after
unfolding reply_sent
returns-in-Err-clause-deals_after c = ap (λ r. r.deals) (ap reply_sent (sym c.in-Err.is) ∙ c.answer_book.ensures.0)
