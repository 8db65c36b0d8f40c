use Rattle.std.proofs.Common.{◌*◌, eqb, sym, ap, ap₂, ◌∙◌}
use Rattle.valuation.specs.Exposure.{risk_weighted_amount}
use Rattle.netting.specs.Exposure.{exposure_after_netting}
use Rattle.netting.specs.Reply.{OwnRefusal, positions_of, refused_reply, reply_sent, set_answer_number, set_reply, weighted_amount}
use Rattle.netting.proofs.Answered.{err_passed, refusal_nonzero, sent_refused}
use Rattle.netting.proofs.Refusing.{plain_set}
use Rattle.netting.proofs.Replies.{accepted_reply, refused_reply_lem, same_figures}
use Rattle.netting.proofs.set.NettingSet.reply.Goals as goal

pub returns-in_err-set-clause-sent : goal.returns-in_err-set-clause-sent
unfolding set_answer_number set_reply
returns-in_err-set-clause-sent c =
    let s = c.args.self in
    let e = c.in_err-set.ensures.refusal in
    sent_refused _ _ c.from_residual.ensures.1 ∙ ap refused_reply e
    ∙ sym (refused_reply_lem s.terms s.count (positions_of s) (ap (λ n. eqb n 0) (sym e) ∙ refusal_nonzero c.in_err-set.field-0.0))

pub returns-in_err-set-clause-own_refusal : goal.returns-in_err-set-clause-own_refusal
returns-in_err-set-clause-own_refusal c = err_passed OwnRefusal _ c.from_residual.ensures.1 c.in_err-set.ensures.own_refusal

pub weight_of-requires : goal.weight_of-requires
unfolding set_answer_number
weight_of-requires c =
    let s = c.args.self in
    (plain_set s.terms s.count (positions_of s) (sym c.in_ok-set.ensures.refusal)).terms

pub returns-clause-sent : goal.returns-clause-sent
unfolding reply_sent set_answer_number set_reply weighted_amount
returns-clause-sent c =
    let s = c.args.self in
    let same = c.in_ok-set.ensures.same in
    let e = c.exposure_after_netting-exposure.ensures.0 ∙ ap₂ exposure_after_netting same.0 same.1 in
    same_figures e (c.risk_weighted_amount.ensures ∙ ap risk_weighted_amount (ap₂ ◌*◌ e c.weight_of.ensures.0))
    ∙ sym (accepted_reply s.terms s.count (positions_of s) (sym c.in_ok-set.ensures.refusal))
