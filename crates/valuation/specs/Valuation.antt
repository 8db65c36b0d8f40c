-- What an item is worth and where the rest of its amount went. 02: L2
use Rattle.std.specs.Prelude.{ℕ, ◌-◌}
use Rattle.valuation.specs.declared.protection.Valuation.{Valuation}
use Rattle.valuation.specs.Protection.{volatility_adjusted_value, recognised}

-- of an item that no ground leaves out, of this amount, of which so much (never more than it) is not cut, with these haircuts and so many days of
-- cover, in a deal of this term: "how much the haircut took and how much the maturity step took", and the cut, "a third loss". Each step takes from
-- what the one before it left: the cut, the haircut, the maturity step; what a step rounds away is its own loss
unfoldable pub valuation_of : ℕ → ℕ → ℕ → ℕ → ℕ → Valuation
valuation_of amount uncut haircut cover term =
    let adjusted = volatility_adjusted_value uncut haircut in
    let value = recognised uncut haircut cover term in
    record { value = value; haircut_loss = uncut - adjusted; maturity_loss = adjusted - value; cut_loss = amount - uncut }

-- where there is no item, "places past a count hold 0 in all of these", and of one that is left out, "no loss"
abbrev pub no_valuation : Valuation
no_valuation = record { value = 0; haircut_loss = 0; maturity_loss = 0; cut_loss = 0 }
