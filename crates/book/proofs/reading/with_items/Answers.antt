-- `book::reading::with_items`: a line that is not refused is passed, and no other. Assumes nothing.
use Rattle.std.proofs.Common.{ℕ, List, ◌≡◌, ◌+◌, ◌-◌, length, refl, ◌∙◌, ap, arith, sym, take, drop, true}
use Rattle.base.proofs.Tests.{tests}
use Rattle.text.specs.Text.{first_line}
use Rattle.text.proofs.Lines.{line_part}
use Rattle.deal.specs.Records.{deal_of, record_allowed}
use Rattle.deal.specs.declared.terms.Terms.{Terms}
use Rattle.deal.proofs.Deals.{allowed_accepted, allowed_parts}
use Rattle.deal.proofs.Plain.{collateral_count, guarantee_count}
use Rattle.deal.proofs.Views.{accepted_view_lem}
use Rattle.relief.specs.Report.{full_report}
use Rattle.lines.specs.Lines.{line_of}
use Rattle.lines.specs.declared.line.Line.{Line}
use Rattle.book.specs.declared.reading.Items.{Items}
use Rattle.book.specs.Answers.{refused_at}
use Rattle.book.specs.Items.{item_refusal, with_item}
use Rattle.book.specs.Reply.{answer_sent, line_answer_number, line_refusal_number}
use Rattle.book.proofs.Answering.{componentwise}
use Rattle.book.proofs.Held.{LineDone, done_as, held_answer, held_first, held_next, held_refused, item_done}
use Rattle.book.proofs.Numbers.{refusal_some, unrefused}
use Rattle.book.proofs.Passing.{own_line_ends, passed_line, passed_on}
use Rattle.book.proofs.reading.with_items.Goals as goal

-- the line that was read, and what it does to the items
read : (text : List ℕ) (edition at : ℕ) {end : ℕ} {said : Line} → end ≡ at + length (first_line (drop at text)) → said ≡ line_of edition (take (end - at) (drop at text)) →
    said ≡ line_of edition (first_line (drop at text))
read text edition at e r = r ∙ ap (line_of edition) (ap (λ n. take (n - at) (drop at text)) e ∙ line_part text at)

done : (t : Terms) (i : Items) → record_allowed (deal_of t i.collateral i.guarantees) ≡ true → {said line : Line} {i' : Items} {refusal : ℕ} → said ≡ line → refusal ≡ item_refusal i said →
    i' ≡ with_item i said → LineDone t i.collateral i.guarantees line refusal i'.collateral i'.guarantees
done t i fits s r e = done_as (item_done t i fits _) s r (ap (λ x. x.collateral) e) (ap (λ x. x.guarantees) e)

pub loop-end-init : goal.loop-end-init
loop-end-init c =
    let first = held_first c.args.text.now c.args.start c.args.number c.args.deal.now.timed.terms c.args.deal.now.not_refused c.requires.0 in
    rw (c.empty.ensures, c.empty-2.ensures) first

pub slice_bounds-read_line-end : goal.slice_bounds-read_line-end
slice_bounds-read_line-end c =
    let ends = own_line_ends _ _ _ c.loop-end.invariant.passed.inside (sym c.own_line.ensures ∙ c.loop-end-test.true) c.line_end-end.ensures in
    search (tests, ends.inside)

pub returns-in-Err-clause-lines_read : goal.returns-in-Err-clause-lines_read
returns-in-Err-clause-lines_read c =
    let ends = own_line_ends _ _ _ c.loop-end.invariant.passed.inside (sym c.own_line.ensures ∙ c.loop-end-test.true) c.line_end-end.ensures in
    passed_on _ _ _ _ _ (passed_line _ _ _ _ _ c.loop-end.invariant.passed _ ends c.line_end-end.ensures) _ _ c.refused.ensures.lines_read

pub returns-in-Err-clause-text_value : goal.returns-in-Err-clause-text_value
unfolding line_answer_number refused_at
returns-in-Err-clause-text_value c =
    let text = c.args.text.now in
    let deal = c.args.deal.now in
    let ends = own_line_ends _ _ _ c.loop-end.invariant.passed.inside (sym c.own_line.ensures ∙ c.loop-end-test.true) c.line_end-end.ensures in
    let number : line_refusal_number c.in-Err.refusal ≡ item_refusal c.loop-end.items c.read_line-line.result = ap line_answer_number (sym c.in-Err.is) ∙ c.add.ensures.refusal in
    let line = read text deal.timed.terms.edition c.loop-end.at c.line_end-end.ensures c.read_line-line.ensures in
    held_refused _ _ _ _ _ _ _ _ c.loop-end.invariant _ ends c.line_end-end.ensures (done deal.timed.terms c.loop-end.items c.loop-end.invariant.fits line number c.add.ensures.items_after) (refusal_some _)
    ∙ sym c.refused.ensures.answer

pub loop-end-smaller : goal.loop-end-smaller
loop-end-smaller c =
    let ends = own_line_ends _ _ _ c.loop-end.invariant.passed.inside (sym c.own_line.ensures ∙ c.loop-end-test.true) c.line_end-end.ensures in
    omega (arith, ends.more, ends.inside)

pub loop-end-preserved : goal.loop-end-preserved
loop-end-preserved c =
    let text = c.args.text.now in
    let deal = c.args.deal.now in
    let ends = own_line_ends _ _ _ c.loop-end.invariant.passed.inside (sym c.own_line.ensures ∙ c.loop-end-test.true) c.line_end-end.ensures in
    let line = read text deal.timed.terms.edition c.loop-end.at c.line_end-end.ensures c.read_line-line.ensures in
    held_next _ _ _ _ _ _ _ _ c.loop-end.invariant _ ends c.line_end-end.ensures (done deal.timed.terms c.loop-end.items c.loop-end.invariant.fits line c.add.ensures.refusal c.add.ensures.items_after) (unrefused _ c.in_default.not-Err)

pub shared_ref_as_front-full_report : goal.shared_ref_as_front-full_report
shared_ref_as_front-full_report c = collateral_count _ (allowed_parts _ c.loop-end.invariant.fits).1.0

pub shared_ref_as_front-full_report-2 : goal.shared_ref_as_front-full_report-2
shared_ref_as_front-full_report-2 c = guarantee_count _ (allowed_parts _ c.loop-end.invariant.fits).1.1

pub full_report-report-requires : goal.full_report-report-requires
full_report-report-requires c = accepted_view_lem (deal_of c.args.deal.now.timed.terms c.loop-end.items.collateral c.loop-end.items.guarantees) (allowed_accepted _ c.loop-end.invariant.fits)

pub returns-clause-text_value : goal.returns-clause-text_value
unfolding full_report answer_sent
returns-clause-text_value c =
    let over = sym c.own_line.ensures ∙ c.loop-end-test.false in
    held_answer _ _ _ _ _ _ _ _ c.loop-end.invariant over ∙ sym (componentwise refl (ap (λ x. x.exposure) c.full_report-report.ensures) (ap (λ x. x.rwa) c.full_report-report.ensures))
