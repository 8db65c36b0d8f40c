-- The value of protection that no ground leaves out. 01: From items to the weighted amount, 1 and 2
use Rattle.std.specs.Prelude.{ℕ, ◌*◌, ◌-◌, ◌/◌, min, Bool, ltb, if◌then◌else◌}

-- "Keep share: 1,000,000 less the item's scaled haircuts, or 0 if they reach 1,000,000". The term is document 01's own; CRE22.40 has it as
-- 1 − Hc − Hfx. (The library's difference is never below 0)
unfoldable pub keep_share : ℕ → ℕ
keep_share haircut = 1000000 - haircut

-- "amount × share / 1,000,000, rounded down". CRE22.40, CRE22.94
unfoldable pub volatility_adjusted_value : ℕ → ℕ → ℕ
volatility_adjusted_value amount haircut = amount * keep_share haircut / 1000000

-- "with T the smaller of the deal's term and 1,800, and t the smaller of T and the cover's term, the value becomes
-- value × (t − 90) / (T − 90), rounded down again". CRE22.100; five years are 1,800 days, three months 90
unfoldable pub mismatched : ℕ → ℕ → ℕ → ℕ
mismatched value cover term =
    let T = min term 1800 in
    let t = min T cover in
    value * (t - 90) / (T - 90)

-- "Cover shorter than the deal's residual term is a mismatch". CRE22.97
abbrev pub is_mismatch : ℕ → ℕ → Bool
is_mismatch cover term = ltb cover term

unfoldable pub maturity_adjusted : ℕ → ℕ → ℕ → ℕ
maturity_adjusted value cover term = if is_mismatch cover term then mismatched value cover term else value

-- haircuts first, then a mismatch. CRE22.100(2)
unfoldable pub recognised : ℕ → ℕ → ℕ → ℕ → ℕ
recognised amount haircut cover term = maturity_adjusted (volatility_adjusted_value amount haircut) cover term
