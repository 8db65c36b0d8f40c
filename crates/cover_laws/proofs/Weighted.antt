-- More protection, or less exposure, never raises the weighted sum. Assumes nothing.
use Prim.Native.Nat.{ℕ, suc, ◌*◌, ◌-◌, ◌≤◌, ◌<◌}
use mathlib.Core.List.{List}
use mathlib.Core.Logic.{⊎_elim}
use native.Mathlib.Omega.{arith}
use Rattle.base.specs.Sum.{sum_of}
use Rattle.cover.specs.Cover.{lower_weighted, weighted_sum}
use Rattle.cover.specs.declared.protection.Protection.{Protection}
use Rattle.base.proofs.Compare.{side}
use Rattle.cover.proofs.Levels.{lower_weighted_in, lower_weighted_out}
use Rattle.cover_laws.specs.Layers.{EachLowerWeighted}
use Rattle.cover_laws.proofs.Layers.{weighted_layers}
use Rattle.base.proofs.SumBelow.{below_mono, below_same}

-- more value, no more weight: no less below any weight
pub lower_weighted_mono : (w : ℕ) (p p' : Protection) → p.value ≤ p'.value → p'.weight ≤ p.weight → lower_weighted w p ≤ lower_weighted w p'
lower_weighted_mono w p p' hv hw =
    ⊎_elim
    (λ (h : p.weight < w). omega (arith, lower_weighted_in w p h, lower_weighted_in w p' (omega arith)))
    (λ (h : w ≤ p.weight). omega (arith, lower_weighted_out w p h))
    (side p.weight w)

-- no less exposure, and no more protection up to any weight below the counterparty's: no smaller sum
pub weighted_mono : (W E E' : ℕ) (ps ps' : List Protection) → EachLowerWeighted W ps → EachLowerWeighted W ps' → E ≤ E' →
    ((l : ℕ) → l < W → sum_of (lower_weighted (suc l)) ps' ≤ sum_of (lower_weighted (suc l)) ps) → weighted_sum W E ps ≤ weighted_sum W E' ps'
weighted_mono W E E' ps ps' h h' e less =
    omega (
      arith,
      weighted_layers W E ps h,
      weighted_layers W E' ps' h',
      below_mono W (λ l. E - sum_of (lower_weighted (suc l)) ps) (λ l. E' - sum_of (lower_weighted (suc l)) ps') (λ l k. omega (arith, less l k)),
    )

-- protection never costs
pub weighted_bound : (W E : ℕ) (ps : List Protection) → EachLowerWeighted W ps → weighted_sum W E ps ≤ E * W
weighted_bound W E ps h =
    omega (arith, weighted_layers W E ps h, below_mono W (λ l. E - sum_of (lower_weighted (suc l)) ps) (λ l. E) (λ l k. omega arith), below_same W E)
