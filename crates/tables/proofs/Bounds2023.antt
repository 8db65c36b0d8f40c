-- Bounds of the figures of 2023, whatever the arguments. Assumes nothing.
use Prim.Native.Nat.{ℕ, ◌≤◌}
use mathlib.Core.Bool.{◌&&◌}
use native.Mathlib.Omega.{arith}
use lib.Dec.{eqb}
use borrow.Author.Tests.{eqb-false}
use Rattle.base.proofs.Choice.{either}
use Rattle.tables.specs.Classes.{bank, corporate, retail}
use Rattle.tables.specs.Version2023.{counterparty_weight_2023, own_weight_2023, provider_weight_2023, table_weight_2023}
use Rattle.tables.proofs.Bounds.{floor_bound, own_bound, table_bound}

abbrev Light : ℕ → Type 0
Light w = w ≤ 150

table_bound_2023 : (class step : ℕ) → class ≤ 3 → step ≤ 6 → Light (table_weight_2023 class step)
unfolding table_weight_2023
table_bound_2023 class step hc hs =
    either Light (eqb class bank && eqb step 2) (λ e. omega arith)
    (λ e. either Light (eqb class corporate && eqb step 3) (λ e. omega arith)
    (λ e. either Light (eqb class bank && eqb step 0) (λ e. omega arith) (λ e. table_bound class step hc hs)))

own_bound_2023 : (class step : ℕ) → class ≤ 4 → step ≤ 6 → Light (own_weight_2023 class step)
unfolding own_weight_2023
own_bound_2023 class step hc hs =
    either Light (eqb class retail) (λ e. own_bound class step hc hs) (λ e. table_bound_2023 class step (omega (arith, eqb-false class retail e)) hs)

pub provider_bound_2023 : (class step sovereign_step : ℕ) → class ≤ 3 → step ≤ 6 → sovereign_step ≤ 6 → Light (provider_weight_2023 class step sovereign_step)
unfolding provider_weight_2023
provider_bound_2023 class step sovereign_step hc hs hk = floor_bound _ _ sovereign_step (table_bound_2023 class step hc hs) hk

pub counterparty_bound_2023 : (class step sovereign_step : ℕ) → class ≤ 4 → step ≤ 6 → sovereign_step ≤ 6 → Light (counterparty_weight_2023 class step sovereign_step)
unfolding counterparty_weight_2023
counterparty_bound_2023 class step sovereign_step hc hs hk = floor_bound _ _ sovereign_step (own_bound_2023 class step hc hs) hk
