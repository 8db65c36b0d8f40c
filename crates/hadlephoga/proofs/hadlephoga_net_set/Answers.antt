use Rattle.std.proofs.Common.{ap, ◌∙◌}
use Rattle.netting.specs.Reply.{NettingReply, reply_sent}
use Rattle.hadlephoga.specs.Netting.{numbers_sent}
use Rattle.hadlephoga.proofs.hadlephoga_net_set.Goals as goal

pub returns-in-Ok-clause-value : goal.returns-in-Ok-clause-value
unfolding numbers_sent reply_sent
returns-in-Ok-clause-value c = ap (λ (r : NettingReply). r.refusal) c.in-Ok.ensures.sent

pub returns-in-Ok-clause-exposure_after : goal.returns-in-Ok-clause-exposure_after
unfolding numbers_sent reply_sent
returns-in-Ok-clause-exposure_after c = ap (λ (r : NettingReply). r.exposure) c.in-Ok.ensures.sent

pub returns-in-Ok-clause-rwa_after : goal.returns-in-Ok-clause-rwa_after
unfolding numbers_sent reply_sent
returns-in-Ok-clause-rwa_after c = ap (λ (r : NettingReply). r.rwa) c.in-Ok.ensures.sent

pub returns-in-Err-clause-value : goal.returns-in-Err-clause-value
unfolding numbers_sent
returns-in-Err-clause-value c = c.number.ensures ∙ ap (λ (r : NettingReply). r.refusal) c.in-Err.ensures.sent

pub returns-in-Err-clause-exposure_after : goal.returns-in-Err-clause-exposure_after
unfolding numbers_sent
returns-in-Err-clause-exposure_after c = ap (λ (r : NettingReply). r.exposure) c.in-Err.ensures.sent

pub returns-in-Err-clause-rwa_after : goal.returns-in-Err-clause-rwa_after
unfolding numbers_sent
returns-in-Err-clause-rwa_after c = ap (λ (r : NettingReply). r.rwa) c.in-Err.ensures.sent
