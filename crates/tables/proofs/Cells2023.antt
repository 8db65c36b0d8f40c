-- The tables of 2023 as the code holds them, whole: at each place is the figure of the definitions. Assumes nothing.
use Prim.Native.Nat.{ℕ, suc, ◌-◌, ◌≤◌, ◌<◌}
use mathlib.Core.Path.{◌≡◌, refl, ap, ◌∙◌}
use mathlib.Core.Bool.{Bool, true, false, ◌&&◌}
use mathlib.Core.List.{List, [], ◌∷◌, map}
use native.Mathlib.Omega.{arith}
use lib.Dec.{eqb}
use lib.ListN.{get_or}
use borrow.Author.Tests.{eqb-true}
use Rattle.base.proofs.Every.{every, every_at, both}
use Rattle.tables.specs.Goods.{sovereign_debt, securitisation}
use Rattle.tables.specs.Haircuts.{cell, debt_haircut, issuer_column, row_of}
use Rattle.tables.specs.Version2023.{band_of_2023, debt_haircut_2023, not_eligible_2023, other_issuers_2023, other_issuers_haircut_2023, table_weight_2023}
use Rattle.tables.specs.Weights.{step_column, table_weight}
use Rattle.tables.proofs.Bands2023.{band_below_2023, band_within, within_2019}
use Rattle.tables.proofs.Bounds.{row_below}

-- DEBT: a row for each row of steps; in it, for each band of five: sovereign / other / securitisation
abbrev band_of_row : ℕ → ℕ → List ℕ
band_of_row r b = cell r (within_2019 b) 0 ∷ get_or (get_or other_issuers_2023 r []) b not_eligible_2023 ∷ cell r (within_2019 b) 2 ∷ []

abbrev pub debt_2023 : List (List (List ℕ))
debt_2023 = map (λ r. map (band_of_row r) (0 ∷ 1 ∷ 2 ∷ 3 ∷ 4 ∷ [])) (0 ∷ 1 ∷ 2 ∷ [])

abbrev held : ℕ → ℕ → ℕ → ℕ
held row band column = get_or (get_or (get_or debt_2023 row []) band []) column 0

-- what stands there
abbrev right : ℕ → ℕ → Bool
right r b =
    eqb (held r b 0) (cell r (within_2019 b) 0)
    && eqb (held r b 1) (get_or (get_or other_issuers_2023 r []) b not_eligible_2023)
    && eqb (held r b 2) (cell r (within_2019 b) 2)

rows_right : (r b : ℕ) → r < 3 → b < 5 → right r b ≡ true
rows_right r b h k = every_at 5 (right r) (every_at 3 (λ r. every 5 (right r)) refl r h) b k

module _ (goods step life : ℕ) where
  found : right (row_of step) (band_of_2023 life) ≡ true
  found = rows_right (row_of step) (band_of_2023 life) (row_below step) (band_below_2023 life)

  pub debt_cell : held (row_of step) (band_of_2023 life) (issuer_column goods) ≡ debt_haircut_2023 goods step life
  unfolding issuer_column debt_haircut_2023 debt_haircut other_issuers_haircut_2023
  debt_cell = go (eqb goods sovereign_debt) (eqb goods securitisation) refl refl
    where
      inner : (eqb (held (row_of step) (band_of_2023 life) 0) (cell (row_of step) (within_2019 (band_of_2023 life)) 0) ≡ true)
          × (eqb (held (row_of step) (band_of_2023 life) 1) (get_or (get_or other_issuers_2023 (row_of step) []) (band_of_2023 life) not_eligible_2023) ≡ true)
      inner = both _ _ (both _ _ found).0

      go : (s t : Bool) → eqb goods sovereign_debt ≡ s → eqb goods securitisation ≡ t → held (row_of step) (band_of_2023 life) (issuer_column goods) ≡ debt_haircut_2023 goods step life
      go true t e h = rw (e, band_within life) (eqb-true _ _ inner.0)
      go false true e h = rw (e, h, band_within life) (eqb-true _ _ (both (eqb (held (row_of step) (band_of_2023 life) 0) (cell (row_of step) (within_2019 (band_of_2023 life)) 0) && eqb (held (row_of step) (band_of_2023 life) 1) (get_or (get_or other_issuers_2023 (row_of step) []) (band_of_2023 life) not_eligible_2023)) _ found).1)
      go false false e h = rw (e, h) (eqb-true _ _ inner.1)

-- RISK WEIGHTS: a row for each class, unrated first
abbrev pub weights_2023 : List (List ℕ)
weights_2023 = map (λ i. map (table_weight_2023 (suc i)) (0 ∷ 1 ∷ 2 ∷ 3 ∷ 4 ∷ 5 ∷ 6 ∷ [])) (0 ∷ 1 ∷ 2 ∷ [])

abbrev same : ℕ → ℕ → Bool
same i s = eqb (get_or (get_or weights_2023 i []) s 0) (table_weight_2023 (suc i) s)

place_right : (i s : ℕ) → i < 3 → s < 7 → get_or (get_or weights_2023 i []) s 0 ≡ table_weight_2023 (suc i) s
unfolding table_weight_2023 table_weight step_column
place_right i s h k = eqb-true _ _ (every_at 7 (same i) (every_at 3 (λ i. every 7 (same i)) refl i h) s k)

pub weight_cell : (class step : ℕ) → 1 ≤ class → class ≤ 3 → step ≤ 6 → get_or (get_or weights_2023 (class - 1) []) step 0 ≡ table_weight_2023 class step
weight_cell class step h k l =
    place_right (class - 1) step (omega arith) (omega arith) ∙ ap (λ c. table_weight_2023 c step) (let e : suc (class - 1) ≡ class = omega arith in e)
