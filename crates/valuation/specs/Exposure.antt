-- Amounts rounded up. 01: From items to the weighted amount, 3 and 5
use Rattle.std.specs.Prelude.{ℕ, ◌+◌, ◌*◌}
use Rattle.base.specs.Rounding.{round_up}

-- "The exposure is raised by the lent goods' haircut, rounded up". CRE22.40, E · (1 + He)
unfoldable pub volatility_adjusted_exposure : ℕ → ℕ → ℕ
volatility_adjusted_exposure amount haircut = round_up (amount * (1000000 + haircut)) 1000000

-- "the sum of portion × weight, divided by 100 once and rounded up". CRE22.41, CRE22.91(1)
unfoldable pub risk_weighted_amount : ℕ → ℕ
risk_weighted_amount sum = round_up sum 100
