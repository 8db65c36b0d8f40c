-- Goods lent or pledged. 01: What a deal holds.
use Rattle.std.specs.Prelude.{ℕ, Bool, eqb, if◌then◌else◌}
use Rattle.base.specs.Range.{within}
use Rattle.tables.specs.Goods.{cash, sovereign_debt, resecuritisation, gold}
use Rattle.deal.specs.Ranges.{step_allowed, days_allowed}
use Rattle.deal.specs.declared.asset.Asset.{Asset}

-- types 1 to 9
abbrev pub goods_known : Asset → Bool
goods_known asset = within cash gold asset.goods

-- debt, securitisations included: types 2 to 6, which are all but "Types 1, 7, 8, 9". Other numbers are refused by 2 before this
-- is asked for
abbrev pub is_debt : ℕ → Bool
is_debt goods = within sovereign_debt resecuritisation goods

-- "Types 1, 7, 8, 9 have step 0 .."
unfoldable pub asset_step_allowed : Asset → Bool
asset_step_allowed asset = if is_debt asset.goods then step_allowed asset.step else eqb asset.step 0

-- ".. and issue life 0; the rest have issue life 1 to" the limit of days "(the security's own residual life, never the term of the pledge)"
unfoldable pub life_allowed : ℕ → Asset → Bool
life_allowed limit asset = if is_debt asset.goods then days_allowed limit asset.life else eqb asset.life 0
