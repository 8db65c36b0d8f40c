-- The laws of a recognised value: how it is rounded, and that a larger amount, a smaller haircut or longer cover never makes it smaller.
-- Assumes nothing.
use Prim.Native.Nat.{ℕ, ◌+◌, ◌*◌, ◌-◌, ◌/◌, ◌≤◌, ◌<◌, min}
use mathlib.Core.Path.{◌≡◌, refl, ◌∙◌}
use mathlib.Core.List.{List}
use mathlib.Core.Logic.{⊎_elim, ◌≢◌}
use native.Mathlib.Omega.{arith}
use native.Mathlib.Nat.{le_trans, mul-le-mul, mul-zero}
use lib.Dec.{ltb}
use borrow.Author.Tests.{ltb-true, ltb-false, lt-ltb, le-ltb}
use Rattle.base.specs.FirstMet.{Test, first_met, NoneMet}
use Rattle.base.proofs.Choice.{either, if_true, if_false}
use Rattle.base.proofs.Rounding.{div_mono}
use Rattle.valuation.specs.Protection.{keep_share, volatility_adjusted_value, mismatched, maturity_adjusted, recognised}
use Rattle.valuation.specs.Valuation.{no_valuation}
use Rattle.valuation.specs.declared.protection.Valuation.{Valuation}
use Rattle.valuation.proofs.Values.{mismatched_le}
use Rattle.relief.specs.declared.outcome.Outcome.{Outcome}
use Rattle.relief.specs.declared.outcome.Outcome.TheVariants.{Valued, LeftOut}
use Rattle.relief.specs.Outcomes.{outcome_valuation, outcome_value, outcome_ground, outcome_for}
use Rattle.relief.proofs.Outcomes.{LeaveOut, value_recognised, value_or_none}

-- a larger amount, a smaller haircut: no smaller
pub adjusted_value_mono : {a a' haircut haircut' : ℕ} → a ≤ a' → haircut' ≤ haircut → volatility_adjusted_value a haircut ≤ volatility_adjusted_value a' haircut'
unfolding volatility_adjusted_value keep_share
adjusted_value_mono ha hc = div_mono 1000000 (mul-le-mul ha (omega arith))

-- rounded down: the largest value whose millionfold is within amount × share
pub adjusted_value_is : (a haircut : ℕ) → (volatility_adjusted_value a haircut * 1000000 ≤ a * keep_share haircut) × (a * keep_share haircut < (volatility_adjusted_value a haircut + 1) * 1000000)
unfolding volatility_adjusted_value
adjusted_value_is a haircut = omega arith

-- haircuts that reach the whole leave nothing
pub adjusted_value_none : (a haircut : ℕ) → 1000000 ≤ haircut → volatility_adjusted_value a haircut ≡ 0
unfolding volatility_adjusted_value keep_share
adjusted_value_none a haircut h =
    let e : 1000000 - haircut ≡ 0 = omega arith in
    rw (e, mul-zero)

mismatched_mono : {v v' cover cover' : ℕ} (term : ℕ) → v ≤ v' → cover ≤ cover' → mismatched v cover term ≤ mismatched v' cover' term
unfolding mismatched
mismatched_mono term hv hc = div_mono (min term 1800 - 90) (mul-le-mul hv (omega arith))

-- cover as long as the deal is worth its whole value
pub maturity_adjusted_matched : (v cover term : ℕ) → term ≤ cover → maturity_adjusted v cover term ≡ v
unfolding maturity_adjusted
maturity_adjusted_matched v cover term h = if_false _ _ _ (le-ltb cover term h)

-- shorter cover is a mismatch
pub maturity_adjusted_mismatched : (v cover term : ℕ) → cover < term → maturity_adjusted v cover term ≡ mismatched v cover term
unfolding maturity_adjusted
maturity_adjusted_mismatched v cover term short = if_true _ _ _ (lt-ltb cover term short)

-- of a deal within five years
pub maturity_adjusted_short : (v cover term : ℕ) → cover < term → term ≤ 1800 → maturity_adjusted v cover term ≡ v * (cover - 90) / (term - 90)
unfolding mismatched
maturity_adjusted_short v cover term short h =
    let e : min term 1800 ≡ term = omega arith in
    let f : min term cover ≡ cover = omega arith in
    maturity_adjusted_mismatched v cover term short ∙ rw (e, f)

-- a larger value, longer cover: no smaller
pub maturity_adjusted_mono : {v v' cover cover' : ℕ} (term : ℕ) → v ≤ v' → cover ≤ cover' → maturity_adjusted v cover term ≤ maturity_adjusted v' cover' term
unfolding maturity_adjusted
maturity_adjusted_mono {v} {v'} {cover} {cover'} term hv hc =
    either (λ x. x ≤ maturity_adjusted v' cover' term) (ltb cover term)
    (λ e. either (λ y. mismatched v cover term ≤ y) (ltb cover' term) (λ e'. mismatched_mono term hv hc) (λ e'. le_trans (mismatched_le v cover term) hv))
    (λ e. either (λ y. v ≤ y) (ltb cover' term) (λ e'. omega (arith, ltb-false cover term e, ltb-true cover' term e')) (λ e'. hv))

pub recognised_mono :
    {a a' haircut haircut' cover cover' : ℕ} (term : ℕ) → a ≤ a' → haircut' ≤ haircut → cover ≤ cover' → recognised a haircut cover term ≤ recognised a' haircut' cover' term
unfolding recognised
recognised_mono term ha hc hr = maturity_adjusted_mono term (adjusted_value_mono ha hc) hr

-- an outcome with a ground has value 0, and no loss
pub left_out_nothing : (o : Outcome) → outcome_ground o ≢ 0 → outcome_valuation o ≡ no_valuation
unfolding outcome_ground outcome_valuation
left_out_nothing (Valued v) h = absurd (h refl)
left_out_nothing (LeftOut g a) h = refl

-- no smaller, where recognition and then the value are kept
pub value_mono :
    (a a' : ℕ) (v v' : Valuation) (ts ts' : List (Test ℕ)) → LeaveOut a v ts → (NoneMet ts → NoneMet ts' × (v.value ≤ v'.value)) →
    outcome_value (outcome_for (first_met ts) a v) ≤ outcome_value (outcome_for (first_met ts') a' v')
value_mono a a' v v' ts ts' out kept =
    ⊎_elim (λ z. omega (arith, z))
    (λ n. omega (arith, value_recognised a v ts n, value_recognised a' v' ts' (kept n).0, (kept n).1))
    (value_or_none a v ts out)
