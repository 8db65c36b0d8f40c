use Rattle.std.proofs.Common.{ap, ◌∙◌}
use Rattle.mail.specs.Reply.{reply_sent}
use Rattle.hadlephoga.proofs.hadlephoga_repair_book.Goals as goal

pub returns-in-Ok-clause-value : goal.returns-in-Ok-clause-value
unfolding reply_sent
returns-in-Ok-clause-value c = ap (λ reply. reply.refusal) c.in-Ok.ensures.replied

pub returns-in-Ok-clause-bytes_after : goal.returns-in-Ok-clause-bytes_after
unfolding reply_sent
returns-in-Ok-clause-bytes_after c = ap (λ reply. reply.bytes) c.in-Ok.ensures.replied

pub returns-in-Ok-clause-lines_after : goal.returns-in-Ok-clause-lines_after
unfolding reply_sent
returns-in-Ok-clause-lines_after c = ap (λ reply. reply.lines) c.in-Ok.ensures.replied

pub returns-in-Err-clause-value : goal.returns-in-Err-clause-value
unfolding reply_sent
returns-in-Err-clause-value c = c.number.ensures ∙ ap (λ reply. reply.refusal) c.in-Err.ensures.replied

pub returns-in-Err-clause-bytes_after : goal.returns-in-Err-clause-bytes_after
unfolding reply_sent
returns-in-Err-clause-bytes_after c = ap (λ reply. reply.bytes) c.in-Err.ensures.replied

pub returns-in-Err-clause-lines_after : goal.returns-in-Err-clause-lines_after
unfolding reply_sent
returns-in-Err-clause-lines_after c = ap (λ reply. reply.lines) c.in-Err.ensures.replied
