-- The laws of a recognised value. Assumes nothing.
use Prim.Native.Nat.{ℕ, ◌-◌, ◌≤◌, ◌<◌, min}
use mathlib.Core.Path.{◌≡◌, refl, ◌∙◌}
use mathlib.Core.List.{[], ◌∷◌, map}
use native.Mathlib.Omega.{arith}
use native.Mathlib.Nat.{le_trans, mul-zero, zero-div}
use lib.Dec.{ltb}
use borrow.Author.Tests.{lt-ltb}
use Rattle.base.proofs.Choice.{either, if_true}
use Rattle.base.proofs.Rounding.{share_le}
use Rattle.valuation.specs.Protection.{keep_share, volatility_adjusted_value, mismatched, maturity_adjusted, recognised}

-- rounded down: of an amount of 1 a haircut of a millionth leaves nothing, where rounding up would leave 1
rounds_down : volatility_adjusted_value 1 1 ≡ 0
unfolding volatility_adjusted_value keep_share
rounds_down = refl

pub share_bound : (haircut : ℕ) → keep_share haircut ≤ 1000000
unfolding keep_share
share_bound haircut = omega arith

-- no more than the amount
pub adjusted_value_le : (a haircut : ℕ) → volatility_adjusted_value a haircut ≤ a
unfolding volatility_adjusted_value
adjusted_value_le a haircut = share_le a (share_bound haircut)

pub mismatched_le : (v cover term : ℕ) → mismatched v cover term ≤ v
unfolding mismatched
mismatched_le v cover term = share_le v (omega arith)

-- cover that is short, and of three months or less, is worth nothing
pub maturity_adjusted_none : (v cover term : ℕ) → cover < term → cover ≤ 90 → maturity_adjusted v cover term ≡ 0
unfolding maturity_adjusted mismatched
maturity_adjusted_none v cover term short h =
    let e : min (min term 1800) cover - 90 ≡ 0 = omega arith in
    if_true _ _ _ (lt-ltb cover term short) ∙ rw (e, mul-zero, zero-div)

pub maturity_adjusted_le : (v cover term : ℕ) → maturity_adjusted v cover term ≤ v
unfolding maturity_adjusted
maturity_adjusted_le v cover term =
    either (λ x. x ≤ v) (ltb cover term) (λ e. mismatched_le v cover term) (λ e. omega arith)

pub recognised_le : (a haircut cover term : ℕ) → recognised a haircut cover term ≤ a
unfolding recognised
recognised_le a haircut cover term = le_trans (maturity_adjusted_le (volatility_adjusted_value a haircut) cover term) (adjusted_value_le a haircut)

-- deals beyond five years: T is 1,800, and cover of five years or more is worth its whole value
beyond_five_years : (maturity_adjusted 1000000 900 3600 ≡ 473684) × (maturity_adjusted 1000000 1800 3600 ≡ 1000000)
unfolding maturity_adjusted mismatched
beyond_five_years = (refl, refl)

-- terms above 36,000, and those that a narrower number would cut: cover of 945 days is half of 1,800 over 90, cover of five years is whole
long_terms :
    map (λ term. maturity_adjusted 1000 945 term) (36001 ∷ 65536 ∷ 65600 ∷ 100000 ∷ []) ≡ 500 ∷ 500 ∷ 500 ∷ 500 ∷ []
unfolding maturity_adjusted mismatched
long_terms = refl

long_covers : map (λ cover. maturity_adjusted 1000 cover 100000) (1800 ∷ 36001 ∷ 65536 ∷ 65600 ∷ 100000 ∷ []) ≡ 1000 ∷ 1000 ∷ 1000 ∷ 1000 ∷ 1000 ∷ []
unfolding maturity_adjusted mismatched
long_covers = refl
