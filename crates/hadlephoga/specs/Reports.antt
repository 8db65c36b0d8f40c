-- Reporting a deal to callers in other languages, as numbers. 01: Reporting a deal; 02: L2
use Rattle.std.specs.Prelude.{ℕ, ◌+◌, ◌*◌, List, [], ◌∷◌, ◌++◌, eqb, ltb, length, if◌then◌else◌}
use Rattle.deal.specs.Answers.{answer_number}
use Rattle.deal.specs.Lists.{list_limit}
use Rattle.relief.specs.Outcomes.{outcome_ground, outcome_left_out, outcome_valuation}
use Rattle.relief.specs.Report.{refused_report, report_of}
use Rattle.relief.specs.declared.collateral.CollateralReport.{CollateralReport}
use Rattle.relief.specs.declared.guarantee.GuaranteeReport.{GuaranteeReport}
use Rattle.relief.specs.declared.outcome.Outcome.{Outcome}
use Rattle.relief.specs.declared.report.Report.{Report}
use Rattle.base.specs.Writing.{overwrite}
use Rattle.hadlephoga.specs.Records.{deal_in, in_order, record_length}

-- "for each item either its value or its ground": the value and the ground's number, at most one of which is not 0; then what the haircut took, what
-- the maturity step took, what was cut, and the amount left out (02: L2), each 0 where it does not apply
abbrev pub outcome_numbers : Outcome → List ℕ
outcome_numbers o =
    let v = outcome_valuation o in
    v.value ∷ outcome_ground o ∷ v.haircut_loss ∷ v.maturity_loss ∷ v.cut_loss ∷ outcome_left_out o ∷ []

abbrev pub collateral_numbers : CollateralReport → List ℕ
collateral_numbers c = outcome_numbers c.outcome

-- "each guarantee's portion" behind them, as the seventh
abbrev pub guarantee_numbers : GuaranteeReport → List ℕ
guarantee_numbers g = outcome_numbers g.outcome ++ (g.portion ∷ [])

-- how many numbers those are, for one item and for a list's sixteen places
abbrev pub outcome_width : ℕ
outcome_width = 6

abbrev pub guarantee_report_width : ℕ
guarantee_report_width = outcome_width + 1

abbrev pub collateral_reports_length : ℕ
collateral_reports_length = list_limit * outcome_width

abbrev pub guarantee_reports_length : ℕ
guarantee_reports_length = list_limit * guarantee_report_width

-- E*; the places of collateral; those of guarantees; the rest; the weighted amount
abbrev pub report_length : ℕ
report_length = 1 + collateral_reports_length + guarantee_reports_length + 1 + 1

unfoldable pub report_numbers : Report → List ℕ
report_numbers r =
    (r.exposure ∷ [])
    ++ in_order collateral_numbers r.collateral
    ++ in_order guarantee_numbers r.guarantees
    ++ (r.uncovered ∷ [])
    ++ (r.rwa ∷ [])

-- Of lists of another length than a record's or a report's the paper says nothing. Here numbers that are no record get the reply of a
-- record that is not accepted
unfoldable pub report_in : List ℕ → Report
report_in numbers = if eqb (length numbers) record_length then report_of (deal_in numbers) else refused_report

-- and a lent list that has fewer places than a report has numbers is 13, as one that is too short for a book's answers; otherwise what
-- reporting answers
unfoldable pub reporting_refusal : List ℕ → ℕ → ℕ
reporting_refusal numbers places = if ltb places report_length then 13 else answer_number (report_in numbers).answer

-- the lent list afterwards: the report's numbers from the front and nothing behind them; untouched with 13
unfoldable pub list_after : List ℕ → List ℕ → List ℕ
list_after numbers before =
    if ltb (length before) report_length then before else overwrite (report_numbers (report_in numbers)) before
