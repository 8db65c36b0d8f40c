-- `hadlephoga::adding::put_reply`: the deal is put where nothing was refused. Assumes nothing.
use Rattle.std.proofs.Common.{◌≡◌, ◌∙◌, ap, eqb, rules, sym, length, Err}
use Rattle.base.proofs.Choice.{if_false, if_true}
use Rattle.deal.specs.Answers.{answer_number}
use Rattle.deal.specs.Lists.{list_limit}
use Rattle.book.specs.Reply.{line_answer_number, line_refusal_number}
use Rattle.book.specs.declared.refusal.LineRefusal.TheVariants.{Refused}
use Rattle.book.proofs.Numbers.{refusal_some}
use Rattle.hadlephoga.proofs.Records.{HasPlaces, over_record}
use Rattle.hadlephoga.proofs.adding.put_reply.Goals as goal

pub returns-in_err-reply-clause-value : goal.returns-in_err-reply-clause-value
unfolding answer_number line_answer_number line_refusal_number
returns-in_err-reply-clause-value c =
    let e : c.from_residual.result ≡ Err (Refused c.in_err-reply.field-0.0) = search rules in
    ap line_answer_number e ∙ ap answer_number (sym c.in_err-reply.was)

pub returns-in_err-reply-clause-numbers_after : goal.returns-in_err-reply-clause-numbers_after
unfolding answer_number line_refusal_number
returns-in_err-reply-clause-numbers_after c =
    sym (if_false _ _ _ (ap (λ r. eqb (answer_number r) 0) c.in_err-reply.was ∙ refusal_some (Refused c.in_err-reply.field-0.0)))

pub returns-clause-value : goal.returns-clause-value
unfolding answer_number line_answer_number
returns-clause-value c = ap answer_number (sym c.in_ok-reply.was)

pub returns-clause-numbers_after : goal.returns-clause-numbers_after
unfolding answer_number
returns-clause-numbers_after c =
    let pledged : length c.args.reply.after.collateral.items ≡ list_limit = search rules in
    let guaranteed : length c.args.reply.after.guarantees.items ≡ list_limit = search rules in
    let places : HasPlaces c.args.reply.after = record { pledged = pledged; guaranteed = guaranteed } in
    c.put_record.ensures ∙ over_record _ places _ c.requires ∙ sym (if_true _ _ _ (ap (λ r. eqb (answer_number r) 0) c.in_ok-reply.was))
