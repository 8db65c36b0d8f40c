-- Holding periods in business days. CRE22.60, CRE22.61, CRE22.64; 01: Haircuts in millionths, "Holding periods"
use Rattle.std.specs.Prelude.{ℕ, ◌+◌, ◌-◌, eqb, if◌then◌else◌}
use Rattle.tables.specs.Kinds.{repo_style, other_capital_market}

-- "kinds 1, 2, 3 have minimum 5, 10, 20 business days". CRE22.61
unfoldable pub minimum_period : ℕ → ℕ
minimum_period kind = if eqb kind repo_style then 5 else if eqb kind other_capital_market then 10 else 20

-- "Let n be the interval plus that minimum less 1": of a deal's collateral, its currency haircut too, and of its goods lent. CRE22.64, N_R + (T_M − 1)
unfoldable pub holding_period : ℕ → ℕ → ℕ
holding_period kind interval = interval + minimum_period kind - 1

-- "The currency haircut of a guarantee always uses n = interval + 9": a minimum of ten days for every kind. CRE22.95
unfoldable pub guarantee_period : ℕ → ℕ
guarantee_period interval = interval + 9
