-- A haircut of 2023 depends on the issue life by its band of five alone; each of these lies within one of the three of 2019. Assumes nothing.
use Prim.Native.Nat.{ℕ, zero, suc, ◌≤◌, ◌<◌}
use mathlib.Core.Path.{◌≡◌, refl, sym, ap, ◌∙◌}
use native.Mathlib.Omega.{arith}
use lib.Dec.{leb, eqb}
use borrow.Author.Tests.{eqb-true, leb-false, leb-true, le-leb, lt-leb}
use Rattle.base.proofs.Choice.{either, if_false, if_true}
use Rattle.base.proofs.Every.{every_at}
use Rattle.tables.specs.Haircuts.{band_of, debt_haircut}
use Rattle.tables.specs.Version2023.{band_of_2023, debt_haircut_2023, haircut_2023, lent_haircut_2023, other_issuers_haircut_2023}
use Rattle.tables.proofs.Bands.{first_band, middle_band, last_band}

pub band_below_2023 : (life : ℕ) → band_of_2023 life < 5
unfolding band_of_2023
band_below_2023 life =
    either (λ b. b < 5) (leb life 360) (λ e. omega arith)
    (λ e. either (λ b. b < 5) (leb life 1080) (λ e. omega arith)
    (λ e. either (λ b. b < 5) (leb life 1800) (λ e. omega arith)
    (λ e. either (λ b. b < 5) (leb life 3600) (λ e. omega arith) (λ e. omega arith))))

-- each band by its first and last day
pub band_1 : (life : ℕ) → life ≤ 360 → band_of_2023 life ≡ 0
unfolding band_of_2023
band_1 life h = if_true _ _ _ (le-leb life 360 h)

pub band_2 : (life : ℕ) → 361 ≤ life → life ≤ 1080 → band_of_2023 life ≡ 1
unfolding band_of_2023
band_2 life l h = if_false _ _ _ (lt-leb life 360 l) ∙ if_true _ _ _ (le-leb life 1080 h)

pub band_3 : (life : ℕ) → 1081 ≤ life → life ≤ 1800 → band_of_2023 life ≡ 2
unfolding band_of_2023
band_3 life l h = if_false _ _ _ (lt-leb life 360 (omega arith)) ∙ if_false _ _ _ (lt-leb life 1080 l) ∙ if_true _ _ _ (le-leb life 1800 h)

pub band_4 : (life : ℕ) → 1801 ≤ life → life ≤ 3600 → band_of_2023 life ≡ 3
unfolding band_of_2023
band_4 life l h =
    if_false _ _ _ (lt-leb life 360 (omega arith)) ∙ if_false _ _ _ (lt-leb life 1080 (omega arith)) ∙ if_false _ _ _ (lt-leb life 1800 l)
    ∙ if_true _ _ _ (le-leb life 3600 h)

pub band_5 : (life : ℕ) → 3601 ≤ life → band_of_2023 life ≡ 4
unfolding band_of_2023
band_5 life l =
    if_false _ _ _ (lt-leb life 360 (omega arith)) ∙ if_false _ _ _ (lt-leb life 1080 (omega arith)) ∙ if_false _ _ _ (lt-leb life 1800 (omega arith))
    ∙ if_false _ _ _ (lt-leb life 3600 l)

-- the band of 2019 that it lies within
abbrev pub within_2019 : ℕ → ℕ
within_2019 zero = 0
within_2019 (suc zero) = 1
within_2019 (suc (suc zero)) = 1
within_2019 (suc (suc (suc n))) = 2

abbrev In2019 : ℕ → ℕ → Type 0
In2019 life band = band_of life ≡ within_2019 band

pub band_within : (life : ℕ) → In2019 life (band_of_2023 life)
unfolding band_of_2023
band_within life =
    either (In2019 life) (leb life 360) (λ e. first_band life (leb-true life 360 e))
    (λ a. either (In2019 life) (leb life 1080) (λ e. middle_band life (leb-false life 360 a) (omega (arith, leb-true life 1080 e)))
    (λ b. either (In2019 life) (leb life 1800) (λ e. middle_band life (leb-false life 360 a) (leb-true life 1800 e))
    (λ c. either (In2019 life) (leb life 3600) (λ e. last_band life (leb-false life 1800 c)) (λ e. last_band life (leb-false life 1800 c)))))

-- a life of each band
abbrev pub sample_2023 : ℕ → ℕ
sample_2023 zero = 360
sample_2023 (suc zero) = 1080
sample_2023 (suc (suc zero)) = 1800
sample_2023 (suc (suc (suc zero))) = 3600
sample_2023 (suc (suc (suc (suc n)))) = 3601

band_sample : (life : ℕ) → band_of_2023 (sample_2023 (band_of_2023 life)) ≡ band_of_2023 life
unfolding band_of_2023
band_sample life =
    eqb-true _ _ (every_at 5 (λ b. eqb (band_of_2023 (sample_2023 b)) b) refl (band_of_2023 life) (band_below_2023 life))

-- and so for the bands of 2019
earlier_sample : (life : ℕ) → band_of (sample_2023 (band_of_2023 life)) ≡ band_of life
earlier_sample life = band_within _ ∙ ap within_2019 (band_sample life) ∙ sym (band_within life)

pub haircut_sample_2023 : (goods step life : ℕ) → haircut_2023 goods step (sample_2023 (band_of_2023 life)) ≡ haircut_2023 goods step life
unfolding haircut_2023 debt_haircut_2023 other_issuers_haircut_2023 debt_haircut
haircut_sample_2023 goods step life = rw (band_sample life, earlier_sample life)

pub lent_sample_2023 : (goods step life : ℕ) → lent_haircut_2023 goods step (sample_2023 (band_of_2023 life)) ≡ lent_haircut_2023 goods step life
unfolding lent_haircut_2023
lent_sample_2023 goods step life = rw (haircut_sample_2023 goods step life)
