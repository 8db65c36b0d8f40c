-- `book::answer::answer_deals`: the deal that was read starts where the one before it ends. Assumes nothing.
use Rattle.std.proofs.Common.{◌∙◌, ◌≤◌, ap, arith, sym, drop, length}
use lib.ListN.{length-drop}
use Rattle.text.proofs.Lines.{rest_part}
use Rattle.book.specs.Deals.{opens_deal}
use Rattle.book.specs.Answers.{deal_answer}
use Rattle.book.specs.Reading.{DealRead}
use Rattle.book.specs.Start.{first_deal}
use Rattle.book.proofs.Grouping.{own_opens}
use Rattle.book.proofs.Numbers.{three}
use Rattle.book.proofs.Written.{all_written, fits, step}
use Rattle.book.proofs.answer.answer_deals.Goals as goal

pub answer_deal-answered-requires : goal.answer_deal-answered-requires
answer_deal-answered-requires c =
    let l = c.loop-at in
    let lines = c.args.lines.now in
    let part = rest_part lines l.at in
    let long = length-drop l.at lines in
    let h : 1 ≤ length (drop l.at lines) = omega (arith, long, c.loop-at-test.true) in
    (ap opens_deal part ∙ own_opens (drop l.at lines) l.invariant.begins h, omega (arith, ap length part, long, l.invariant.numbered, c.requires.1.0, c.loop-at-test.true))

pub put_answer-requires : goal.put_answer-requires
put_answer-requires c =
    let lines = c.args.lines.now in
    let part = rest_part lines c.loop-at.at in
    let t = three c.answer_deal-answered.result.result.answer in
    let read : DealRead c.loop-at.number (drop c.loop-at.at lines) c.answer_deal-answered.result.result.end c.answer_deal-answered.result.result.next = rw part at c.answer_deal-answered.ensures.deal_read in
    fits c.loop-at.invariant c.loop-at-test.true read (ap (λ x. deal_answer c.args.edition (first_deal c.loop-at.number x)) (sym part) ∙ c.answer_deal-answered.ensures.answered ∙ t.sent)

pub loop-at-preserved : goal.loop-at-preserved
loop-at-preserved c =
    let lines = c.args.lines.now in
    let part = rest_part lines c.loop-at.at in
    let t = three c.answer_deal-answered.result.result.answer in
    let read : DealRead c.loop-at.number (drop c.loop-at.at lines) c.answer_deal-answered.result.result.end c.answer_deal-answered.result.result.next = rw part at c.answer_deal-answered.ensures.deal_read in
    let next = step c.loop-at.invariant c.loop-at-test.true read (ap (λ x. deal_answer c.args.edition (first_deal c.loop-at.number x)) (sym part) ∙ c.answer_deal-answered.ensures.answered ∙ t.sent) in
    rw (c.put_answer.ensures, t.sent) next

pub returns : goal.returns
returns c = all_written c.loop-at.invariant c.loop-at-test.false
