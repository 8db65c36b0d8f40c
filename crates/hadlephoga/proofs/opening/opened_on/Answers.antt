-- `hadlephoga::opening::opened_on`: 11, or what opening answers. Assumes nothing.
use Rattle.std.proofs.Common.{ap, sym, ◌∙◌, ◌≡◌, rules, Err}
use borrow.Author.Tests.{ne_eqb}
use Rattle.deal.specs.Answers.{answer_number}
use Rattle.deal.specs.Terms.{terms_refusal}
use Rattle.deal.specs.Opening.{opened_deal}
use Rattle.book.specs.Reply.{line_answer_number, line_refusal_number}
use Rattle.book.specs.declared.refusal.LineRefusal.TheVariants.{Refused}
use Rattle.hadlephoga.specs.Records.{deal_numbers}
use Rattle.hadlephoga.proofs.Operations.{opened_by_terms, opening_11, opening_by_terms}
use Rattle.hadlephoga.proofs.opening.opened_on.Goals as goal

pub returns-then-terms-ne-TERMS_WIDTH-clause-refusal : goal.returns-then-terms-ne-TERMS_WIDTH-clause-refusal
unfolding line_answer_number line_refusal_number
returns-then-terms-ne-TERMS_WIDTH-clause-refusal c = sym (opening_11 _ (ne_eqb _ _ c.if-terms-ne-TERMS_WIDTH.true))

pub returns-in_err-open-clause-refusal : goal.returns-in_err-open-clause-refusal
unfolding answer_number line_answer_number line_refusal_number
returns-in_err-open-clause-refusal c =
    let e : c.from_residual.result ≡ Err (Refused c.in_err-open.field-0.0) = search rules in
    ap line_answer_number e ∙ c.in_err-open.ensures.refusal ∙ ap terms_refusal c.terms_in.ensures ∙ sym (opening_by_terms _ c.if-terms-ne-TERMS_WIDTH.false)

pub returns-clause-refusal : goal.returns-clause-refusal
unfolding answer_number line_answer_number
returns-clause-refusal c = c.in_ok-open.ensures.refusal ∙ ap terms_refusal c.terms_in.ensures ∙ sym (opening_by_terms _ c.if-terms-ne-TERMS_WIDTH.false)

pub returns-clause-opened : goal.returns-clause-opened
returns-clause-opened c = ap deal_numbers (c.in_ok-open.ensures.opened ∙ ap opened_deal c.terms_in.ensures) ∙ sym (opened_by_terms _ c.if-terms-ne-TERMS_WIDTH.false)
