-- Bounds of holding periods, and the paper's periods computed. Assumes nothing.
use Prim.Native.Nat.{ℕ, ◌+◌, ◌≤◌}
use native.Mathlib.Omega.{arith}
use mathlib.Core.Path.{◌≡◌, refl}
use mathlib.Core.List.{[], ◌∷◌, map}
use lib.Dec.{eqb}
use Rattle.base.proofs.Choice.{either}
use Rattle.tables.specs.Kinds.{repo_style, other_capital_market}
use Rattle.scaling.specs.Period.{minimum_period, holding_period, guarantee_period}

minimum_bound : (kind : ℕ) → minimum_period kind ≤ 20
unfolding minimum_period
minimum_bound kind =
    either (λ m. m ≤ 20) (eqb kind repo_style) (λ e. omega arith) (λ e. either (λ m. m ≤ 20) (eqb kind other_capital_market) (λ e. omega arith) (λ e. omega arith))

pub period_bound : (kind interval : ℕ) → holding_period kind interval ≤ interval + 20
unfolding holding_period
period_bound kind interval = omega (arith, minimum_bound kind)

pub guarantee_bound : (interval : ℕ) → guarantee_period interval ≤ interval + 9
unfolding guarantee_period
guarantee_bound interval = omega arith

-- the paper's periods
pub periods : (map (λ k. holding_period k 1) (1 ∷ 2 ∷ 3 ∷ []) ≡ 5 ∷ 10 ∷ 20 ∷ []) × (map guarantee_period (1 ∷ 11 ∷ 250 ∷ []) ≡ 10 ∷ 20 ∷ 259 ∷ [])
unfolding holding_period minimum_period guarantee_period
periods = (refl, refl)

-- longer intervals, day for day
pub longer_periods : map (λ i. map (λ k. holding_period k i) (1 ∷ 2 ∷ 3 ∷ [])) (2 ∷ 10 ∷ 250 ∷ []) ≡ (6 ∷ 11 ∷ 21 ∷ []) ∷ (14 ∷ 19 ∷ 29 ∷ []) ∷ (254 ∷ 259 ∷ 269 ∷ []) ∷ []
unfolding holding_period minimum_period
longer_periods = refl
