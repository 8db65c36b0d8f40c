-- Where the value went: the losses at their edges, computed, and that value and losses add up to the amount. Assumes nothing.
use Prim.Native.Nat.{ℕ, ◌+◌, ◌≤◌}
use mathlib.Core.Path.{◌≡◌, refl}
use native.Mathlib.Omega.{arith}
use Rattle.valuation.specs.Protection.{keep_share, volatility_adjusted_value, mismatched, maturity_adjusted, recognised}
use Rattle.valuation.specs.declared.protection.Valuation.{Valuation}
use Rattle.valuation.specs.Valuation.{valuation_of, no_valuation}
use Rattle.valuation.proofs.Values.{adjusted_value_le, maturity_adjusted_le}

-- a step's loss stands in its own place, the rounding of the step with it: of 1,010, of which 1,001 are not cut, a haircut of a tenth leaves 900 and nine
-- tenths, and cover of 945 days of 1,800 leaves half of 900. Each step alone: the cut, the haircut, the maturity step. None; and of everything, by the
-- haircut, and by maturity where cover is three months or less
edges :
    (valuation_of 1010 1001 100000 945 1800 ≡ record { value = 450; haircut_loss = 101; maturity_loss = 450; cut_loss = 9 })
    × ((valuation_of 1010 1001 0 1800 1800 ≡ record { value = 1001; haircut_loss = 0; maturity_loss = 0; cut_loss = 9 })
    × ((valuation_of 1001 1001 100000 1800 1800 ≡ record { value = 900; haircut_loss = 101; maturity_loss = 0; cut_loss = 0 })
    × ((valuation_of 1001 1001 0 945 1800 ≡ record { value = 500; haircut_loss = 0; maturity_loss = 501; cut_loss = 0 })
    × ((valuation_of 1001 1001 0 1800 1800 ≡ record { value = 1001; haircut_loss = 0; maturity_loss = 0; cut_loss = 0 })
    × ((valuation_of 1001 1001 1000001 945 1800 ≡ record { value = 0; haircut_loss = 1001; maturity_loss = 0; cut_loss = 0 })
    × ((valuation_of 1001 1001 100000 90 1800 ≡ record { value = 0; haircut_loss = 101; maturity_loss = 900; cut_loss = 0 })
    × (valuation_of 0 0 100000 945 1800 ≡ no_valuation)))))))
unfolding valuation_of volatility_adjusted_value keep_share recognised maturity_adjusted mismatched
edges = (refl, (refl, (refl, (refl, (refl, (refl, (refl, refl)))))))

-- value and losses together
unfoldable pub value_and_losses : Valuation → ℕ
value_and_losses v = v.value + v.haircut_loss + v.maturity_loss + v.cut_loss

-- VALUE AND LOSSES ADD UP TO THE AMOUNT
pub adds_up : (amount uncut haircut cover term : ℕ) → uncut ≤ amount → value_and_losses (valuation_of amount uncut haircut cover term) ≡ amount
unfolding valuation_of recognised value_and_losses
adds_up amount uncut haircut cover term h =
    let adjusted = volatility_adjusted_value uncut haircut in
    omega (arith, adjusted_value_le uncut haircut, maturity_adjusted_le adjusted cover term)
