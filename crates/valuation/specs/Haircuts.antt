-- Haircuts scaled to a holding period n, in millionths.
-- 01: Haircuts in millionths, "Each haircut is scaled by itself, before any sum"
use Rattle.std.specs.Prelude.{ℕ, ◌+◌, eqb, if◌then◌else◌}
use Rattle.tables.specs.Haircuts.{currency_haircut}
use Rattle.scaling.specs.Scaling.{scaled}

-- "Different currencies: 80000 besides". CRE22.46 for collateral; for a guarantee, which has no other haircut,
-- CRE22.94 and CRE22.95
unfoldable pub scaled_currency_haircut : ℕ → ℕ → ℕ → ℕ
scaled_currency_haircut currency deal_currency n = if eqb currency deal_currency then 0 else scaled currency_haircut n

-- collateral: its table haircut, and the currency's. CRE22.40, Hc + Hfx
unfoldable pub combined_haircut : ℕ → ℕ → ℕ → ℕ → ℕ
combined_haircut haircut currency deal_currency n = scaled haircut n + scaled_currency_haircut currency deal_currency n
