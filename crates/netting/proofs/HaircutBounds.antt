-- The haircuts of a set are below the whole, and those of one position together are too, under every table. Assumes nothing.
use Prim.Native.Nat.{◌+◌, ◌≤◌}
use mathlib.Core.Path.{◌≡◌}
use native.Mathlib.Omega.{arith}
use Rattle.tables.specs.Kinds.{repo_style}
use Rattle.tables.proofs.EditionBounds.{lent_low}
use Rattle.scaling.specs.Period.{holding_period, minimum_period}
use Rattle.scaling.proofs.Scaled.{scaled_le, scaled_mono}
use Rattle.netting.specs.Haircuts.{currency_haircut_over, security_haircut, set_period}
use Rattle.netting.specs.declared.position.Position.{Position}
use Rattle.netting.specs.declared.terms.SetTerms.{SetTerms}

-- "n is interval plus 4": the period of a repo-style transaction
pub repo_period : (t : SetTerms) → holding_period repo_style t.interval ≡ set_period t
unfolding holding_period minimum_period set_period
repo_period t = omega arith

module _ (t : SetTerms) where
  period_low : t.interval ≤ 60 → set_period t ≤ 64
  unfolding set_period
  period_low h = omega arith

  -- up to 30 percent over up to 64 days
  security_within : (p : Position) → t.interval ≤ 60 → security_haircut t p ≤ 758947
  unfolding security_haircut
  security_within p h =
      omega (
        arith,
        scaled_mono {H' = 300000} {n = set_period t} {n' = 64} (lent_low t.table p.asset.goods p.asset.step p.asset.life) (period_low h),
        scaled_le 300000 64 {b = 758947} (omega arith),
      )

  -- 8 percent
  currency_within : t.interval ≤ 60 → currency_haircut_over t ≤ 202386
  unfolding currency_haircut_over
  currency_within h = omega (arith, scaled_mono {H = 80000} {H' = 80000} {n = set_period t} {n' = 64} (omega arith) (period_low h), scaled_le 80000 64 {b = 202386} (omega arith))

  pub security_low : (p : Position) → t.interval ≤ 60 → security_haircut t p ≤ 1000000
  security_low p h = omega (arith, security_within p h)

  pub currency_low : t.interval ≤ 60 → currency_haircut_over t ≤ 1000000
  currency_low h = omega (arith, currency_within h)

  -- both of one position: 961,333 millionths at most
  pub together_low : (p : Position) → t.interval ≤ 60 → security_haircut t p + currency_haircut_over t ≤ 961333
  together_low p h = omega (arith, security_within p h, currency_within h)
