-- Bounds of the figures of 2019, whatever the arguments. Assumes nothing.
use Prim.Native.Nat.{ℕ, ◌-◌, ◌≤◌, ◌<◌}
use mathlib.Core.Path.{refl}
use mathlib.Core.Bool.{Bool}
use mathlib.Core.List.{[]}
use native.Mathlib.Omega.{arith}
use lib.Dec.{leb, eqb}
use lib.ListN.{get_or}
use borrow.Author.Tests.{leb-true, eqb-false}
use Rattle.base.proofs.Choice.{either}
use Rattle.base.proofs.Every.{every, every_at}
use Rattle.tables.specs.Classes.{retail, sovereign}
use Rattle.tables.specs.Goods.{sovereign_debt, securitisation}
use Rattle.tables.specs.Haircuts.{row_of, issuer_column}
use Rattle.tables.specs.Weights.{at_least_sovereign, counterparty_weight, own_weight, provider_weight, step_column, table_weight, weights}

pub row_below : (step : ℕ) → row_of step < 3
unfolding row_of
row_below step =
    either (λ r. r < 3) (eqb step 1) (λ e. omega arith) (λ e. either (λ r. r < 3) (eqb step 4) (λ e. omega arith) (λ e. omega arith))

pub column_below : (goods : ℕ) → issuer_column goods < 3
unfolding issuer_column
column_below goods =
    either (λ c. c < 3) (eqb goods sovereign_debt) (λ e. omega arith)
    (λ e. either (λ c. c < 3) (eqb goods securitisation) (λ e. omega arith) (λ e. omega arith))

abbrev weight_bounded : ℕ → ℕ → Bool
weight_bounded c s = leb (get_or (get_or weights c []) (step_column s) 0) 150

pub table_bound : (class step : ℕ) → class ≤ 3 → step ≤ 6 → table_weight class step ≤ 150
unfolding table_weight step_column
table_bound class step hc hs =
    leb-true _ _ (every_at 7 (weight_bounded (class - 1)) (every_at 3 (λ c. every 7 (weight_bounded c)) refl (class - 1) (omega arith)) step (omega arith))

pub own_bound : (class step : ℕ) → class ≤ 4 → step ≤ 6 → own_weight class step ≤ 150
unfolding own_weight
own_bound class step hc hs =
    either (λ w. w ≤ 150) (eqb class retail) (λ e. omega arith) (λ e. table_bound class step (omega (arith, eqb-false class retail e)) hs)

pub floor_bound : (applies : Bool) (own sovereign_step : ℕ) → own ≤ 150 → sovereign_step ≤ 6 → at_least_sovereign applies own sovereign_step ≤ 150
unfolding at_least_sovereign
floor_bound applies own sovereign_step ho hs =
    either (λ w. w ≤ 150) applies (λ e. omega (arith, table_bound sovereign sovereign_step (omega arith) hs)) (λ e. ho)

pub provider_bound : (edition class step sovereign_step : ℕ) → class ≤ 3 → step ≤ 6 → sovereign_step ≤ 6 → provider_weight edition class step sovereign_step ≤ 150
unfolding provider_weight
provider_bound edition class step sovereign_step hc hs hk = floor_bound _ _ sovereign_step (table_bound class step hc hs) hk

pub counterparty_bound : (edition class step sovereign_step : ℕ) → class ≤ 4 → step ≤ 6 → sovereign_step ≤ 6 → counterparty_weight edition class step sovereign_step ≤ 150
unfolding counterparty_weight
counterparty_bound edition class step sovereign_step hc hs hk = floor_bound _ _ sovereign_step (own_bound class step hc hs) hk
