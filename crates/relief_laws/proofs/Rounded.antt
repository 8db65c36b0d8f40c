-- The laws of amounts rounded up: the volatility-adjusted exposure and the weighted amount. Assumes nothing.
use Prim.Native.Nat.{ℕ, ◌+◌, ◌*◌, ◌≤◌}
use native.Mathlib.Omega.{arith}
use native.Mathlib.Nat.{mul-le-mul}
use Rattle.base.specs.Least.{Least}
use Rattle.base.proofs.Rounding.{round_up_mono, round_up_is}
use Rattle.valuation.specs.Exposure.{volatility_adjusted_exposure, risk_weighted_amount}

-- a larger haircut of the goods lent, no smaller an exposure
pub adjusted_exposure_mono : {a a' haircut haircut' : ℕ} → a ≤ a' → haircut ≤ haircut' → volatility_adjusted_exposure a haircut ≤ volatility_adjusted_exposure a' haircut'
unfolding volatility_adjusted_exposure
adjusted_exposure_mono ha hc = round_up_mono 1000000 (mul-le-mul ha (omega arith))

-- rounded up: the least amount whose millionfold covers amount × (1,000,000 + haircut)
pub adjusted_exposure_is : (a haircut : ℕ) → Least (λ m. a * (1000000 + haircut) ≤ m * 1000000) (volatility_adjusted_exposure a haircut)
unfolding volatility_adjusted_exposure
adjusted_exposure_is a haircut = round_up_is (a * (1000000 + haircut)) 1000000 (omega arith)

-- never below the amount
pub adjusted_exposure_least : (a haircut : ℕ) → a ≤ volatility_adjusted_exposure a haircut
adjusted_exposure_least a haircut = omega (arith, (adjusted_exposure_is a haircut).passes)

pub risk_weighted_mono : {x y : ℕ} → x ≤ y → risk_weighted_amount x ≤ risk_weighted_amount y
unfolding risk_weighted_amount
risk_weighted_mono h = round_up_mono 100 h

-- the least amount of which x is at most a hundredfold
pub risk_weighted_is : (x : ℕ) → Least (λ m. x ≤ m * 100) (risk_weighted_amount x)
unfolding risk_weighted_amount
risk_weighted_is x = round_up_is x 100 (omega arith)
