-- A haircut depends on the issue life by its band alone. Assumes nothing.
use Prim.Native.Nat.{ℕ, zero, suc, ◌≤◌, ◌<◌}
use mathlib.Core.Path.{◌≡◌, refl, ◌∙◌}
use native.Mathlib.Omega.{arith}
use lib.Dec.{leb, eqb}
use borrow.Author.Tests.{eqb-true, le-leb, lt-leb}
use Rattle.base.proofs.Choice.{either, if_false, if_true}
use Rattle.base.proofs.Every.{every_at}
use Rattle.tables.specs.Haircuts.{band_of, debt_haircut, haircut, lent_haircut}

pub band_below : (life : ℕ) → band_of life < 3
unfolding band_of
band_below life =
    either (λ b. b < 3) (leb life 360) (λ e. omega arith) (λ e. either (λ b. b < 3) (leb life 1800) (λ e. omega arith) (λ e. omega arith))

-- each band by its first and last day
pub first_band : (life : ℕ) → life ≤ 360 → band_of life ≡ 0
unfolding band_of
first_band life h = if_true _ _ _ (le-leb life 360 h)

pub middle_band : (life : ℕ) → 361 ≤ life → life ≤ 1800 → band_of life ≡ 1
unfolding band_of
middle_band life l h = if_false _ _ _ (lt-leb life 360 l) ∙ if_true _ _ _ (le-leb life 1800 h)

pub last_band : (life : ℕ) → 1801 ≤ life → band_of life ≡ 2
unfolding band_of
last_band life l = if_false _ _ _ (lt-leb life 360 (omega arith)) ∙ if_false _ _ _ (lt-leb life 1800 l)

-- a life of each band
abbrev pub sample : ℕ → ℕ
sample zero = 360
sample (suc zero) = 1800
sample (suc (suc n)) = 1801

band_sample : (life : ℕ) → band_of (sample (band_of life)) ≡ band_of life
unfolding band_of
band_sample life =
    eqb-true _ _ (every_at 3 (λ b. eqb (band_of (sample b)) b) refl (band_of life) (band_below life))

pub haircut_sample : (goods step life : ℕ) → haircut goods step (sample (band_of life)) ≡ haircut goods step life
unfolding haircut debt_haircut
haircut_sample goods step life = rw (band_sample life)

pub lent_sample : (goods step life : ℕ) → lent_haircut goods step (sample (band_of life)) ≡ lent_haircut goods step life
unfolding lent_haircut
lent_sample goods step life = rw (haircut_sample goods step life)
