-- `relief::bare::bare_amounts`: all of the exposure bears the counterparty's weight. Assumes nothing.
use Rattle.std.proofs.Common.{◌≡◌, ◌*◌, ◌≤◌, refl, sym, ap, ◌∙◌, arith, []}
use Rattle.base.specs.Sum.{sum_of}
use Rattle.valuation.specs.Exposure.{risk_weighted_amount}
use Rattle.cover.specs.Cover.{weighted_sum}
use Rattle.cover.proofs.Bounds.{none_covers}
use Rattle.deal.specs.Editions.{table_for}
use Rattle.deal.specs.Views.{unprotected}
use Rattle.deal.specs.declared.terms.Terms.{Terms}
use Rattle.deal.specs.Terms.{terms_refusal}
use Rattle.deal.proofs.Plain.{plain_terms}
use Rattle.relief.specs.Weights.{counterparty_weight_of}
use Rattle.relief.specs.Exposure.{collateral_total, exposure_after, risk_weighted_amount_of}
use Rattle.relief.proofs.ValueBounds.{sum_low}
use Rattle.relief.proofs.bare.bare_amounts.Goals as goal

module _ (c : goal.After-weight_of-weight) where
  abbrev terms : Terms
  terms = c.args.terms

  exposure-is : c.exposure_after-exposure.result ≡ exposure_after (table_for terms) (unprotected terms)
  unfolding exposure_after collateral_total sum_of
  exposure-is = c.exposure_after-exposure.ensures

  sum_is : c.exposure_after-exposure.result * c.weight_of-weight.result ≡
      weighted_sum (counterparty_weight_of (table_for terms) terms) (exposure_after (table_for terms) (unprotected terms)) []
  sum_is =
      ap (λ E. E * c.weight_of-weight.result) exposure-is
      ∙ ap (λ W. exposure_after (table_for terms) (unprotected terms) * W) c.weight_of-weight.ensures
      ∙ sym (none_covers _ _)

  not_refused : terms_refusal terms ≡ 0
  not_refused = c.before.before.before.requires.0

  low : c.exposure_after-exposure.result * c.weight_of-weight.result ≤ 1000000000000 * 1000
  low = omega (arith, sum_is, sum_low (unprotected terms) (plain_terms terms not_refused) refl)

pub overflow_mul-exposure : goal.overflow_mul-exposure
overflow_mul-exposure c = omega (arith, low c)

pub risk_weighted_amount-requires : goal.risk_weighted_amount-requires
risk_weighted_amount-requires c = omega (arith, low c)

pub returns : goal.returns
unfolding risk_weighted_amount_of
returns c = (exposure-is c.before, c.risk_weighted_amount.ensures ∙ ap risk_weighted_amount (sum_is c.before))
