-- A report worked out by the checker: `unfolding computed` opens every definition that a report comes from. Assumes nothing.
use mathlib.Core.List.{zip_with}
use Rattle.base.specs.FirstMet.{first_or}
use Rattle.base.specs.Least.{least, between}
use Rattle.base.specs.Range.{within}
use Rattle.base.specs.Rounding.{round_up}
use Rattle.base.specs.Sum.{sum_of}
use Rattle.tables.specs.Eligibility.{eligible, bank_debt_eligible, equity_or_gold}
use Rattle.tables.specs.Haircuts.{row_of, band_of, issuer_column, debt_haircut, haircut, lent_haircut}
use Rattle.tables.specs.Table.{table_of}
use Rattle.tables.specs.Version2023.{band_of_2023, counterparty_weight_2023, debt_haircut_2023, haircut_2023, lent_haircut_2023, other_issuers_haircut_2023, own_weight_2023, provider_weight_2023, table_weight_2023}
use Rattle.tables.specs.Weights.{at_least_sovereign, counterparty_weight, has_floor, own_weight, provider_weight, step_column, table_weight}
use Rattle.scaling.specs.Period.{minimum_period, holding_period, guarantee_period}
use Rattle.scaling.specs.Scaling.{scaled}
use Rattle.valuation.specs.Haircuts.{scaled_currency_haircut, combined_haircut}
use Rattle.valuation.specs.Protection.{keep_share, volatility_adjusted_value, mismatched, maturity_adjusted, recognised}
use Rattle.valuation.specs.Restructuring.{partially_recognised}
use Rattle.valuation.specs.Valuation.{valuation_of}
use Rattle.valuation.specs.Exposure.{volatility_adjusted_exposure, risk_weighted_amount}
use Rattle.cover.specs.Cover.{lower_weighted, equal, before, portion, covered_after, covered, uncovered, weighted_sum}
use Rattle.deal.specs.Parties.{party_step_allowed, party_steps_allowed, sovereign_step_allowed}
use Rattle.deal.specs.Assets.{asset_step_allowed, life_allowed}
use Rattle.deal.specs.Terms.{terms_tests, terms_refusal}
use Rattle.deal.specs.Collateral.{collateral_tests, collateral_refusal, collateral_list_allowed}
use Rattle.deal.specs.Guarantees.{guarantee_tests, guarantee_refusal, guarantee_list_allowed}
use Rattle.deal.specs.Records.{accepted, record_allowed}
use Rattle.deal.specs.Editions.{table_for}
use Rattle.deal.specs.declared.deal.Deal.{Deal}
use Rattle.relief.specs.declared.report.Report.{Report}
use Rattle.relief.specs.Grounds.{ground_number, ground_with}
use Rattle.relief.specs.Outcomes.{outcome_valuation, outcome_ground, outcome_left_out, outcome_for}
use Rattle.relief.specs.Maturity.{short_original, short_residual}
use Rattle.relief.specs.Collateral.{combined_haircut_of, collateral_valuation, collateral_grounds, collateral_ground, collateral_outcome}
use Rattle.relief.specs.Guarantees.{hedged_amount, guarantee_valuation, guarantee_grounds, guarantee_ground, guarantee_outcome}
use Rattle.relief.specs.Exposure.{scaled_lent_haircut, adjusted_exposure_of, collateral_total, exposure_after, risk_weighted_amount_of}
use Rattle.relief.specs.Report.{full_report, report_under, report_of}

unfoldable pub computed : Deal → Report
unfolding accepted record_allowed table_for table_of collateral_list_allowed guarantee_list_allowed terms_refusal terms_tests collateral_refusal collateral_tests guarantee_refusal guarantee_tests first_or within party_step_allowed sovereign_step_allowed party_steps_allowed asset_step_allowed life_allowed least between round_up sum_of zip_with eligible bank_debt_eligible equity_or_gold row_of band_of issuer_column debt_haircut haircut lent_haircut step_column table_weight own_weight has_floor at_least_sovereign counterparty_weight provider_weight band_of_2023 other_issuers_haircut_2023 debt_haircut_2023 haircut_2023 lent_haircut_2023 table_weight_2023 own_weight_2023 counterparty_weight_2023 provider_weight_2023 minimum_period holding_period guarantee_period scaled scaled_currency_haircut combined_haircut keep_share volatility_adjusted_value mismatched maturity_adjusted recognised valuation_of volatility_adjusted_exposure risk_weighted_amount lower_weighted equal before portion covered_after covered uncovered weighted_sum ground_number ground_with outcome_valuation outcome_ground outcome_left_out outcome_for short_original short_residual combined_haircut_of collateral_valuation collateral_grounds collateral_ground collateral_outcome partially_recognised hedged_amount guarantee_valuation guarantee_grounds guarantee_ground guarantee_outcome scaled_lent_haircut adjusted_exposure_of collateral_total exposure_after risk_weighted_amount_of full_report report_under
computed d = report_of d
