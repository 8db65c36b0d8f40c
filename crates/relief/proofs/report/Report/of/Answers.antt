-- `relief::report::Report::of`: 40 first, else the report of an accepted deal. Assumes nothing.
use Rattle.std.proofs.Common.{◌≡◌, ◌∙◌, ap, sym, map, true, false, []}
use Rattle.base.specs.FirstMet.{first_or}
use Rattle.base.proofs.FirstMet.{met_first, not_met}
use Rattle.base.proofs.Tests.{not_false, not_true, told_false, told_true}
use Rattle.deal.specs.Answers.{answer_number, refusal_number}
use Rattle.deal.specs.Records.{accepted}
use Rattle.deal.specs.declared.deal.Deal.{Deal}
use Rattle.deal.specs.Editions.{table_for}
use Rattle.deal.specs.Views.{view_of}
use Rattle.deal.proofs.Deals.{accepted_allowed, allowed_parts}
use Rattle.deal.proofs.Plain.{collateral_count, guarantee_count}
use Rattle.deal.proofs.Views.{accepted_view_lem}
use Rattle.relief.specs.ByNumber.{place_of, collateral_by_number, guarantees_by_number}
use Rattle.relief.specs.Report.{full_report, report_of, report_refusal}
use Rattle.relief.specs.declared.report.Report.{Report}
use Rattle.relief.proofs.ByNumber.{collateral_by_number_lem, guarantees_by_number_lem}
use Rattle.relief.proofs.Reports.{report_accepted, report_refused}
use Rattle.relief.proofs.report.Report.of.Goals as goal

-- a report that is the definition's says its items by number
by_number : (d : Deal) (r : Report) → r ≡ report_of d →
    (map (λ p. place_of p.outcome) r.collateral ≡ collateral_by_number d) × (map (λ p. place_of p.outcome) r.guarantees ≡ guarantees_by_number d)
by_number d r e =
    (ap (λ x. map (λ p. place_of p.outcome) x.collateral) e ∙ collateral_by_number_lem d, ap (λ x. map (λ p. place_of p.outcome) x.guarantees) e ∙ guarantees_by_number_lem d)

pub returns-then-not-accepted-clause-report : goal.returns-then-not-accepted-clause-report
unfolding report_refusal answer_number refusal_number
returns-then-not-accepted-clause-report c =
    let d = c.args.deal in
    let e : accepted d ≡ false = told_false _ _ c.accepted.ensures c.if-not-accepted.true in
    (ap (λ x. answer_number x.answer) c.refused.ensures ∙ sym (met_first 40 _ [] (not_true _ e)), c.refused.ensures ∙ sym (report_refused _ d e))

pub returns-then-not-accepted-clause-by_number : goal.returns-then-not-accepted-clause-by_number
returns-then-not-accepted-clause-by_number c =
    let d = c.args.deal in
    by_number d _ (c.refused.ensures ∙ sym (report_refused _ d (told_false _ _ c.accepted.ensures c.if-not-accepted.true)))

pub shared_ref_as_front-full_report : goal.shared_ref_as_front-full_report
shared_ref_as_front-full_report c = collateral_count _ (allowed_parts _ (accepted_allowed _ (told_true _ _ c.accepted.ensures c.if-not-accepted.false))).1.0

pub shared_ref_as_front-full_report-2 : goal.shared_ref_as_front-full_report-2
shared_ref_as_front-full_report-2 c = guarantee_count _ (allowed_parts _ (accepted_allowed _ (told_true _ _ c.accepted.ensures c.if-not-accepted.false))).1.1

pub full_report-requires : goal.full_report-requires
full_report-requires c = rw c.for_terms-accepted.ensures (accepted_view_lem c.args.deal (told_true _ _ c.accepted.ensures c.if-not-accepted.false))

pub for_terms-accepted-requires : goal.for_terms-accepted-requires
for_terms-accepted-requires c = (allowed_parts _ (accepted_allowed _ (told_true _ _ c.accepted.ensures c.if-not-accepted.false))).0

pub returns-clause-report : goal.returns-clause-report
unfolding report_refusal full_report answer_number refusal_number first_or
returns-clause-report c =
    let d = c.args.deal in
    let e : accepted d ≡ true = told_true _ _ c.accepted.ensures c.if-not-accepted.false in
    let r : c.full_report.result ≡ full_report (table_for d.terms) (view_of d) = rw c.for_terms-accepted.ensures at c.full_report.ensures in
    (ap (λ x. answer_number x.answer) r ∙ sym (not_met 40 _ [] (not_false _ e)), r ∙ sym (report_accepted _ d e))

pub returns-clause-by_number : goal.returns-clause-by_number
returns-clause-by_number c =
    let d = c.args.deal in
    let r : c.full_report.result ≡ full_report (table_for d.terms) (view_of d) = rw c.for_terms-accepted.ensures at c.full_report.ensures in
    by_number d _ (r ∙ sym (report_accepted _ d (told_true _ _ c.accepted.ensures c.if-not-accepted.false)))
