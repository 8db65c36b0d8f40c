-- The ranges of single fields. 01: What a deal holds.
use Rattle.std.specs.Prelude.{ℕ, Bool, leb}
use Rattle.base.specs.Range.{within}

-- "An amount is 0 to 1,000,000,000,000 currency units, already converted to the reporting currency"
abbrev pub amount_limit : ℕ
amount_limit = 1000000000000

abbrev pub amount_allowed : ℕ → Bool
amount_allowed amount = leb amount amount_limit

-- "A currency is its ISO 4217 number, 1 to 999"
abbrev pub currency_allowed : ℕ → Bool
currency_allowed currency = within 1 999 currency

-- "Raise the limit of issue life and of all terms to 100,000 .. (For lives and terms 5 now begins above 100,000.)" (02: L11)
abbrev pub days_limit : ℕ
days_limit = 100000

-- "Days of life or cover are 1 to" a limit: issue lives, the residual term of a deal, both terms of an item. The limit is an argument so
-- that the earlier one can be spoken of too (crates/earlier); the rule uses `days_limit`
abbrev pub days_allowed : ℕ → ℕ → Bool
days_allowed limit days = within 1 limit days

-- "revaluation interval, 1 to 250 business days"
abbrev pub interval_allowed : ℕ → Bool
interval_allowed interval = within 1 250 interval

-- "A rating step is 1 AAA to AA−, 2 A+ to A−, 3 BBB+ to BBB−, 4 BB+ to BB−, 5 B+ to B−, 6 below B−, 0 unrated; a short-term A-1, A-2,
-- A-3/P-3 is sent as 1, 2, 3"
abbrev pub step_allowed : ℕ → Bool
step_allowed step = leb step 6

-- "A condition is 1 met or 0 not met"
abbrev pub condition_allowed : ℕ → Bool
condition_allowed condition = leb condition 1
