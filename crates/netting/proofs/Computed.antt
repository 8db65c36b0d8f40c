-- A reply worked out by the checker: `unfolding computed` opens every definition that a reply comes from. Assumes nothing.
use Prim.Native.Nat.{ℕ}
use mathlib.Core.List.{List}
use Rattle.base.specs.Any.{any, any_two}
use Rattle.base.specs.FirstMet.{first_or}
use Rattle.base.specs.Least.{least, between}
use Rattle.base.specs.Range.{within}
use Rattle.base.specs.Rounding.{round_up}
use Rattle.base.specs.Sum.{sum_of}
use Rattle.tables.specs.Eligibility.{eligible, bank_debt_eligible, equity_or_gold}
use Rattle.tables.specs.Haircuts.{row_of, band_of, issuer_column, debt_haircut, haircut, lent_haircut}
use Rattle.tables.specs.Table.{table_of}
use Rattle.tables.specs.Version2023.{band_of_2023, counterparty_weight_2023, debt_haircut_2023, haircut_2023, lent_haircut_2023, other_issuers_haircut_2023, own_weight_2023, table_weight_2023}
use Rattle.tables.specs.Weights.{at_least_sovereign, counterparty_weight, has_floor, own_weight, step_column, table_weight}
use Rattle.scaling.specs.Scaling.{scaled}
use Rattle.valuation.specs.Exposure.{risk_weighted_amount}
use Rattle.deal.specs.Assets.{asset_step_allowed, life_allowed}
use Rattle.deal.specs.Parties.{party_step_allowed, party_steps_allowed, sovereign_step_allowed}
use Rattle.signed.specs.Signed.{◌less◌, ceiling, at_least_zero}
use Rattle.netting.specs.Exposure.{currency_add_on, currency_figure, exposure, exposure_after_netting, net_exposure, security_add_on, security_figure}
use Rattle.netting.specs.Haircuts.{currency_haircut_over, security_haircut, set_period}
use Rattle.netting.specs.Nets.{lent, net, only, received}
use Rattle.netting.specs.Once.{sum_once}
use Rattle.netting.specs.Positions.{fields_of_each, position_tests, security_allowed}
use Rattle.netting.specs.Refusals.{disagree, received_not_eligible, set_refusal, set_tests, tests_over_all}
use Rattle.netting.specs.Reply.{reply_to, set_weight, weighted_amount}
use Rattle.netting.specs.Terms.{set_terms_tests}
use Rattle.netting.specs.declared.position.Position.{Position}
use Rattle.netting.specs.Reply.{NettingReply}
use Rattle.netting.specs.declared.terms.SetTerms.{SetTerms}

unfoldable pub computed : SetTerms → ℕ → List Position → NettingReply
unfolding reply_to any any_two first_or least between within round_up sum_of eligible bank_debt_eligible equity_or_gold row_of band_of issuer_column debt_haircut haircut lent_haircut table_of band_of_2023 counterparty_weight_2023 debt_haircut_2023 haircut_2023 lent_haircut_2023 other_issuers_haircut_2023 own_weight_2023 table_weight_2023 at_least_sovereign counterparty_weight has_floor own_weight step_column table_weight scaled risk_weighted_amount asset_step_allowed life_allowed party_step_allowed party_steps_allowed sovereign_step_allowed ◌less◌ ceiling at_least_zero currency_add_on currency_figure exposure exposure_after_netting net_exposure security_add_on security_figure currency_haircut_over security_haircut set_period lent net only received sum_once fields_of_each position_tests security_allowed disagree received_not_eligible set_refusal set_tests tests_over_all set_weight weighted_amount set_terms_tests
computed t count ps = reply_to t count ps
