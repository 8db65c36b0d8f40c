-- Scaled haircuts: each by itself, and a bound of the currency haircut. Assumes nothing.
use Prim.Native.Nat.{ℕ, ◌≤◌}
use mathlib.Core.Path.{◌≡◌, refl}
use native.Mathlib.Omega.{arith}
use lib.Dec.{eqb}
use Rattle.base.specs.Least.{least, between}
use Rattle.base.proofs.Choice.{either}
use Rattle.scaling.specs.Scaling.{scaled}
use Rattle.scaling.proofs.Scaled.{scaled_bound, scaled_wide}
use Rattle.valuation.specs.Haircuts.{scaled_currency_haircut, combined_haircut}

-- each haircut is scaled by itself: the sum of 20000 and 80000 scaled to 20 days would be 141422, one too few
each_by_itself : combined_haircut 20000 840 978 20 ≡ 141423
unfolding combined_haircut scaled_currency_haircut scaled least between
each_by_itself = refl

-- a bound, for sums to fit
pub currency_bound : (a b : ℕ) {n : ℕ} → n ≤ 1000 → scaled_currency_haircut a b n ≤ 10000000
unfolding scaled_currency_haircut
currency_bound a b hn = either (λ c. c ≤ 10000000) (eqb a b) (λ e. omega arith) (λ e. scaled_bound (omega arith) hn)

-- and one for periods that no deal has
pub currency_wide : (a b : ℕ) {n : ℕ} → n ≤ 2000 → scaled_currency_haircut a b n ≤ 20000000
unfolding scaled_currency_haircut
currency_wide a b hn = either (λ c. c ≤ 20000000) (eqb a b) (λ e. omega arith) (λ e. scaled_wide (omega arith) hn)
