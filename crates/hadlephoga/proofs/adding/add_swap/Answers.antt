-- `hadlephoga::adding::add_swap`: 11 and 40 by the lengths, then what adding answers. Assumes nothing.
use Rattle.std.proofs.Common.{◌≡◌, ap, rules, sym, ◌∙◌, Err}
use Rattle.deal.specs.Adding.{add_guarantee_refusal}
use Rattle.book.specs.Reply.{line_answer_number}
use Rattle.book.proofs.Numbers.{refusal_some}
use Rattle.hadlephoga.specs.Operations.{numbers_with_swap}
use Rattle.hadlephoga.proofs.Operations.{adding_before, adding_by_deal, kept_before}
use Rattle.hadlephoga.proofs.adding.add_swap.Goals as goal

pub returns-in_err-deal-clause-value : goal.returns-in_err-deal-clause-value
unfolding line_answer_number
returns-in_err-deal-clause-value c =
    let e : c.from_residual.result ≡ Err c.in_err-deal.field-0.0 = search rules in
    ap line_answer_number e ∙ sym (adding_before _ _ _ _ (refusal_some c.in_err-deal.field-0.0) c.in_err-deal.ensures.refusal)

pub returns-in_err-deal-clause-numbers_after : goal.returns-in_err-deal-clause-numbers_after
unfolding line_answer_number numbers_with_swap
returns-in_err-deal-clause-numbers_after c = sym (kept_before _ _ _ _ _ (refusal_some c.in_err-deal.field-0.0) c.in_err-deal.ensures.refusal)

pub returns-clause-value : goal.returns-clause-value
unfolding add_guarantee_refusal
returns-clause-value c =
    let read = c.in_ok-deal.ensures.read in
    let added = rw (read.0, c.guarantee_sent.ensures) at c.add_swap.ensures in
    c.put_reply.ensures.value ∙ added.0 ∙ sym (adding_by_deal _ _ _ _ read.1.0 read.1.1)

pub returns-clause-numbers_after : goal.returns-clause-numbers_after
unfolding numbers_with_swap add_guarantee_refusal
returns-clause-numbers_after c =
    let read = c.in_ok-deal.ensures.read in
    let added = rw (read.0, c.guarantee_sent.ensures) at c.add_swap.ensures in
    rw (added.0 ∙ sym (adding_by_deal _ _ _ _ read.1.0 read.1.1), added.1) at c.put_reply.ensures.numbers_after
