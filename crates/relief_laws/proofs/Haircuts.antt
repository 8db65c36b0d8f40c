-- Scaled haircuts: a smaller haircut, more frequent revaluation or the deal's own currency never makes them larger. Assumes nothing.
use Prim.Native.Nat.{ℕ, ◌≤◌}
use mathlib.Core.Path.{◌≡◌, refl}
use native.Mathlib.Omega.{arith}
use lib.Dec.{eqb}
use borrow.Author.Tests.{eq-eqb}
use Rattle.base.proofs.Choice.{either₂, if_true}
use Rattle.scaling.specs.Period.{holding_period, guarantee_period}
use Rattle.scaling.proofs.Scaled.{scaled_mono}
use Rattle.valuation.specs.Haircuts.{scaled_currency_haircut, combined_haircut}

-- more frequent revaluation, no longer a period
pub period_mono : (kind : ℕ) {i j : ℕ} → i ≤ j → holding_period kind i ≤ holding_period kind j
unfolding holding_period
period_mono kind h = omega arith

pub guarantee_mono : {i j : ℕ} → i ≤ j → guarantee_period i ≤ guarantee_period j
unfolding guarantee_period
guarantee_mono h = omega arith

-- a smaller haircut, a shorter period: no larger
pub currency_mono : (a b : ℕ) {n n' : ℕ} → n ≤ n' → scaled_currency_haircut a b n ≤ scaled_currency_haircut a b n'
unfolding scaled_currency_haircut
currency_mono a b h = either₂ ◌≤◌ (eqb a b) (λ e. omega arith) (λ e. scaled_mono (omega arith) h)

pub collateral_mono : {H H' n n' : ℕ} (a b : ℕ) → H ≤ H' → n ≤ n' → combined_haircut H a b n ≤ combined_haircut H' a b n'
unfolding combined_haircut
collateral_mono a b p q = omega (arith, scaled_mono p q, currency_mono a b q)

-- the deal's own currency: nothing, so no larger
pub currency_same : (b n : ℕ) → scaled_currency_haircut b b n ≡ 0
unfolding scaled_currency_haircut
currency_same b n = if_true _ _ _ (eq-eqb b b refl)

pub collateral_same : (H a b n : ℕ) → combined_haircut H b b n ≤ combined_haircut H a b n
unfolding combined_haircut
collateral_same H a b n = omega (arith, currency_same b n)
