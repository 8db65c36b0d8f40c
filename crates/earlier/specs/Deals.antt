-- Opening, adding and reporting by a set of rules. Each follows the definition that it is named after (`deal_opened_by` of `opened_deal`, `report_by` of
-- `report_of`); by the rules in force it is proved to be that one, which the contracts name (proofs/Now)
use Rattle.std.specs.Prelude.{ℕ, Bool, not, ◌&&◌, List, [], ◌∷◌, eqb, if◌then◌else◌}
use Rattle.base.specs.FirstMet.{Test, ◌when◌, first_met}
use Rattle.deal.specs.Collateral.{append_collateral}
use Rattle.deal.specs.Fields.{zero_terms}
use Rattle.deal.specs.Guarantees.{append_guarantee}
use Rattle.deal.specs.Lists.{list_allowed, list_tests, unless_refused}
use Rattle.deal.specs.Records.{deal_of, without_protection}
use Rattle.deal.specs.Views.{view_of}
use Rattle.deal.specs.declared.terms.Terms.{Terms}
use Rattle.deal.specs.declared.collateral.Collateral.{Collateral}
use Rattle.deal.specs.declared.guarantee.Guarantee.{Guarantee}
use Rattle.deal.specs.declared.deal.Deal.{Deal}
use Rattle.relief.specs.Report.{full_report, refused_report}
use Rattle.relief.specs.declared.report.Report.{Report}
use Rattle.earlier.specs.Rules.{Rules}

-- Opening

unfoldable pub terms_refusal_by : Rules → Terms → ℕ
terms_refusal_by rules t = first_met (rules.terms_tests t)

unfoldable pub deal_opened_by : Rules → Terms → Deal
deal_opened_by rules t = unless_refused (terms_refusal_by rules t) (without_protection t) (without_protection zero_terms)

-- Which records are accepted

unfoldable pub collateral_refusal_by : Rules → Collateral → ℕ
collateral_refusal_by rules c = first_met (rules.collateral_tests c)

unfoldable pub guarantee_refusal_by : Rules → Guarantee → ℕ
guarantee_refusal_by rules g = first_met (rules.guarantee_tests g)

unfoldable pub accepted_by : Rules → Deal → Bool
accepted_by rules d =
    eqb (terms_refusal_by rules d.terms) 0
    && list_allowed (collateral_refusal_by rules) d.collateral.items d.collateral.count
    && list_allowed (guarantee_refusal_by rules) d.guarantees.items d.guarantees.count

-- Adding

abbrev pub record_tests_by : Rules → Deal → List (Test ℕ) → List (Test ℕ)
record_tests_by rules d tests = 40 when not (accepted_by rules d) ∷ tests

unfoldable pub add_collateral_refusal_by : Rules → Deal → Collateral → ℕ
add_collateral_refusal_by rules d c = first_met (record_tests_by rules d (list_tests rules.collateral_tests d.collateral.count c))

unfoldable pub add_guarantee_refusal_by : Rules → Deal → Guarantee → ℕ
add_guarantee_refusal_by rules d g = first_met (record_tests_by rules d (list_tests rules.guarantee_tests d.guarantees.count g))

unfoldable pub with_collateral_by : Rules → Deal → Collateral → Deal
with_collateral_by rules d c =
    unless_refused (add_collateral_refusal_by rules d c) (deal_of d.terms (append_collateral d.collateral c) d.guarantees) d

unfoldable pub with_guarantee_by : Rules → Deal → Guarantee → Deal
with_guarantee_by rules d g =
    unless_refused (add_guarantee_refusal_by rules d g) (deal_of d.terms d.collateral (append_guarantee d.guarantees g)) d

-- Reporting

unfoldable pub report_refusal_by : Rules → Deal → ℕ
report_refusal_by rules d = first_met (40 when not (accepted_by rules d) ∷ [])

unfoldable pub report_by : Rules → Deal → Report
report_by rules d = if accepted_by rules d then full_report (rules.table d.terms) (rules.taken (view_of d)) else refused_report
