-- Which collateral is recognised, and what it is worth, under a table. 01: Grounds for leaving an item out; From items to the weighted
-- amount, 1 and 2; 02: L2
use Rattle.std.specs.Prelude.{ℕ, not, List, [], ◌∷◌, eqb}
use Rattle.base.specs.FirstMet.{Test, ◌when◌, first_met}
use Rattle.tables.specs.Table.{Table}
use Rattle.scaling.specs.Period.{holding_period}
use Rattle.valuation.specs.Haircuts.{combined_haircut}
use Rattle.valuation.specs.Valuation.{valuation_of}
use Rattle.valuation.specs.declared.protection.Valuation.{Valuation}
use Rattle.deal.specs.declared.terms.Terms.{Terms}
use Rattle.deal.specs.declared.collateral.Collateral.{Collateral}
use Rattle.relief.specs.declared.outcome.Outcome.{Outcome}
use Rattle.relief.specs.Outcomes.{outcome_for}
use Rattle.relief.specs.Maturity.{short_original, short_residual}

-- the haircut of its goods and, in another currency than the deal's, the currency haircut, each scaled over the deal's own n
unfoldable pub combined_haircut_of : Table → Terms → Collateral → ℕ
combined_haircut_of table t c =
    combined_haircut (table.haircut c.asset.goods c.asset.step c.asset.life) c.currency t.currency (holding_period t.kind t.interval)

-- what it is worth where no ground leaves it out, and where the rest went: nothing of collateral is cut, its whole amount counts
unfoldable pub collateral_valuation : Table → Terms → Collateral → Valuation
collateral_valuation table t c = valuation_of c.amount c.amount (combined_haircut_of table t c) c.residual t.residual

-- "21 not lawful; 22 related; 23 already in the rating; 24 not eligible by type and step ..; 25 mismatch with original term under 360;
-- 26 mismatch with residual term of 90 or less"
unfoldable pub collateral_grounds : Table → Terms → Collateral → List (Test ℕ)
collateral_grounds table t c =
    21 when eqb c.lawful 0
    ∷ 22 when eqb c.unrelated 0
    ∷ 23 when eqb c.not_in_rating 0
    ∷ 24 when not (table.eligible c.asset.goods c.asset.step c.listed)
    ∷ 25 when short_original t c.residual c.original
    ∷ 26 when short_residual t c.residual
    ∷ []

-- "First that applies", or 0
unfoldable pub collateral_ground : Table → Terms → Collateral → ℕ
collateral_ground table t c = first_met (collateral_grounds table t c)

unfoldable pub collateral_outcome : Table → Terms → Collateral → Outcome
collateral_outcome table t c = outcome_for (collateral_ground table t c) c.amount (collateral_valuation table t c)
