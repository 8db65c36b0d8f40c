-- The weighted sum by layers: each percent of the counterparty's weight is borne by what lower-weighted pieces leave uncovered.
use Rattle.std.specs.Prelude.{ℕ, suc, ◌-◌, ◌<◌, ◌≡◌, List, ◌⊎◌}
use Rattle.base.specs.Sum.{sum_below, sum_of}
use Rattle.base.specs.Each.{Each}
use Rattle.cover.specs.Cover.{lower_weighted}
use Rattle.cover.specs.declared.protection.Protection.{Protection}

-- a guarantee that is worth 0, as one left out is, or that has a lower weight than the counterparty
abbrev pub LeftOutOrLowerWeighted : ℕ → Protection → Type 0
LeftOutOrLowerWeighted W p = (p.value ≡ 0) ⊎ (p.weight < W)

abbrev pub EachLowerWeighted : ℕ → List Protection → Type 0
EachLowerWeighted W ps = Each (LeftOutOrLowerWeighted W) ps

-- for each percent l below W, what the pieces of weight l or less leave of E
abbrev pub layers : ℕ → ℕ → List Protection → ℕ
layers W E ps = sum_below W (λ l. E - sum_of (lower_weighted (suc l)) ps)
