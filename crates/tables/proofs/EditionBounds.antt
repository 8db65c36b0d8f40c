-- Bounds of the figures of every edition: what the sums and products above them need to fit. Assumes nothing.
use Prim.Native.Nat.{ℕ, ◌≤◌}
use mathlib.Core.Path.{refl}
use lib.Dec.{eqb, leb}
use borrow.Author.Tests.{leb-true}
use Rattle.base.proofs.Choice.{either}
use Rattle.tables.specs.Table.{Table, table_of}
use Rattle.tables.specs.Version2023.{edition_2023}
use Rattle.tables.proofs.Bounds.{counterparty_bound, provider_bound}
use Rattle.tables.proofs.Bounds2023.{counterparty_bound_2023, provider_bound_2023}
use Rattle.tables.proofs.EveryHaircut.{every_haircut, every_lent_haircut}

-- haircuts to 30 percent
pub haircut_low : (edition goods step life : ℕ) → (table_of edition).haircut goods step life ≤ 300000
haircut_low edition goods step life = leb-true _ _ (every_haircut (λ h. leb h 300000) refl edition goods step life)

pub lent_low : (edition goods step life : ℕ) → (table_of edition).lent_haircut goods step life ≤ 300000
lent_low edition goods step life = leb-true _ _ (every_lent_haircut (λ h. leb h 300000) refl edition goods step life)

-- weights to 150 percent
pub provider_low : (edition class step sovereign_step : ℕ) → class ≤ 3 → step ≤ 6 → sovereign_step ≤ 6 → (table_of edition).provider_weight class step sovereign_step ≤ 150
unfolding table_of
provider_low edition class step sovereign_step hc hs hk =
    either (λ (t : Table). t.provider_weight class step sovereign_step ≤ 150) (eqb edition edition_2023)
    (λ e. provider_bound_2023 class step sovereign_step hc hs hk) (λ e. provider_bound edition class step sovereign_step hc hs hk)

pub counterparty_low : (edition class step sovereign_step : ℕ) → class ≤ 4 → step ≤ 6 → sovereign_step ≤ 6 → (table_of edition).counterparty_weight class step sovereign_step ≤ 150
unfolding table_of
counterparty_low edition class step sovereign_step hc hs hk =
    either (λ (t : Table). t.counterparty_weight class step sovereign_step ≤ 150) (eqb edition edition_2023)
    (λ e. counterparty_bound_2023 class step sovereign_step hc hs hk) (λ e. counterparty_bound edition class step sovereign_step hc hs hk)
