-- `deal::deal::Deal::add_guarantee`: 40 first, then its list decides. Assumes nothing.
use Rattle.std.proofs.Common.{ap, not, sym, ◌∙◌, refl}
use Rattle.base.proofs.FirstMet.{met_first}
use Rattle.base.proofs.Tests.{told_true, told_false}
use Rattle.deal.specs.Answers.{answer_number, refusal_number}
use Rattle.deal.specs.Adding.{add_guarantee_tests, add_guarantee_refusal}
use Rattle.deal.proofs.Deals.{guarantee_refused, guarantee_by_list, guarantee_with}
use Rattle.deal.proofs.deal.Deal.add_guarantee.Goals as goal

pub returns-then-not-allowed : goal.returns-then-not-allowed
unfolding add_guarantee_refusal add_guarantee_tests answer_number refusal_number
returns-then-not-allowed c =
    let e = met_first 40 _ _ (ap not (told_false _ _ c.allowed.ensures c.if-not-allowed.true)) in
    (sym e, sym (guarantee_refused _ _ (rw e refl)))

pub returns : goal.returns
returns c =
    let h = told_true _ _ c.allowed.ensures c.if-not-allowed.false in
    let a = c.add-added.ensures in
    (a.1 ∙ sym (guarantee_by_list _ _ h), rw a.0 (sym (guarantee_with _ _ h)))
