-- `hadlephoga::hadlephoga_report_deal`: by whether the lent list has room. Assumes nothing.
use Rattle.std.proofs.Common.{ap, sym, ◌∙◌}
use borrow.Author.Tests.{le-ltb, lt-ltb}
use Rattle.base.proofs.Choice.{if_false, if_true}
use Rattle.base.specs.Writing.{overwrite}
use Rattle.deal.specs.Answers.{answer_number}
use Rattle.hadlephoga.specs.Reports.{list_after, report_numbers, reporting_refusal}
use Rattle.hadlephoga.proofs.hadlephoga_report_deal.Goals as goal

pub returns-then-report-lt-REPORT_LENGTH-clause-value : goal.returns-then-report-lt-REPORT_LENGTH-clause-value
unfolding reporting_refusal
returns-then-report-lt-REPORT_LENGTH-clause-value c = sym (if_true _ _ _ (lt-ltb _ _ c.if-report-lt-REPORT_LENGTH.true))

pub returns-then-report-lt-REPORT_LENGTH-clause-report_after : goal.returns-then-report-lt-REPORT_LENGTH-clause-report_after
unfolding list_after
returns-then-report-lt-REPORT_LENGTH-clause-report_after c = sym (if_true _ _ _ (lt-ltb _ _ c.if-report-lt-REPORT_LENGTH.true))

pub returns-in-Ok-clause-value : goal.returns-in-Ok-clause-value
unfolding answer_number reporting_refusal
returns-in-Ok-clause-value c =
    ap answer_number (sym c.in-Ok.is) ∙ ap (λ r. answer_number r.answer) c.report_in-reported.ensures ∙ sym (if_false _ _ _ (le-ltb _ _ c.if-report-lt-REPORT_LENGTH.false))

pub returns-in-Ok-clause-report_after : goal.returns-in-Ok-clause-report_after
unfolding list_after
returns-in-Ok-clause-report_after c =
    c.put_report.ensures ∙ ap (λ r. overwrite (report_numbers r) c.args.report.now) c.report_in-reported.ensures ∙ sym (if_false _ _ _ (le-ltb _ _ c.if-report-lt-REPORT_LENGTH.false))

pub returns-in-Err-clause-value : goal.returns-in-Err-clause-value
unfolding answer_number reporting_refusal
returns-in-Err-clause-value c =
    c.number.ensures ∙ ap answer_number (sym c.in-Err.is) ∙ ap (λ r. answer_number r.answer) c.report_in-reported.ensures
    ∙ sym (if_false _ _ _ (le-ltb _ _ c.if-report-lt-REPORT_LENGTH.false))

pub returns-in-Err-clause-report_after : goal.returns-in-Err-clause-report_after
unfolding list_after
returns-in-Err-clause-report_after c =
    c.put_report.ensures ∙ ap (λ r. overwrite (report_numbers r) c.args.report.now) c.report_in-reported.ensures ∙ sym (if_false _ _ _ (le-ltb _ _ c.if-report-lt-REPORT_LENGTH.false))
