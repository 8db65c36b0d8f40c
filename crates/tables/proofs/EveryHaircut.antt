-- A test that every printed haircut passes is passed by the haircut of whatever goods, under every edition. Assumes nothing.
use Prim.Native.Nat.{ℕ}
use mathlib.Core.Path.{◌≡◌}
use mathlib.Core.Bool.{Bool, true, ◌&&◌, ◌||◌}
use mathlib.Core.List.{[]}
use lib.Dec.{eqb}
use lib.ListN.{get_or}
use Rattle.base.proofs.Choice.{either}
use Rattle.base.proofs.Every.{both, every, every_at}
use Rattle.tables.specs.Eligibility.{eligible}
use Rattle.tables.specs.Goods.{cash, sovereign_debt, securitisation, main_index_equity, other_listed_equity, gold}
use Rattle.tables.specs.Haircuts.{band_of, cell, debt_haircut, haircut, issuer_column, lent_haircut, row_of}
use Rattle.tables.specs.Table.{Table, table_of}
use Rattle.tables.specs.Version2023.{band_of_2023, debt_haircut_2023, edition_2023, haircut_2023, lent_haircut_2023, not_eligible_2023, other_issuers_2023, other_issuers_haircut_2023}
use Rattle.tables.proofs.Bands.{band_below}
use Rattle.tables.proofs.Bands2023.{band_below_2023}
use Rattle.tables.proofs.Bounds.{column_below, row_below}

module _ (test : ℕ → Bool) where
  abbrev debt : Bool
  debt = every 3 (λ r. every 3 (λ b. every 3 (λ c. test (cell r b c))))

  abbrev others : Bool
  others = every 3 (λ r. every 5 (λ b. test (get_or (get_or other_issuers_2023 r []) b not_eligible_2023)))

  -- THE TEST OF ALL: cash, equity, gold and goods that are not eligible, and debt
  abbrev pub all : Bool
  all = test 0 && test 150000 && test 250000 && test 200000 && test 300000 && debt && others

module _ (test : ℕ → Bool) (passed : all test ≡ true) where
  abbrev Passes : ℕ → Type 0
  Passes h = test h ≡ true

  abbrev six : (test 0 && test 150000 && test 250000 && test 200000 && test 300000 && debt test) ≡ true
  six = (both (test 0 && test 150000 && test 250000 && test 200000 && test 300000 && debt test) (others test) passed).0

  abbrev five : (test 0 && test 150000 && test 250000 && test 200000 && test 300000) ≡ true
  five = (both (test 0 && test 150000 && test 250000 && test 200000 && test 300000) (debt test) six).0

  abbrev four : (test 0 && test 150000 && test 250000 && test 200000) ≡ true
  four = (both (test 0 && test 150000 && test 250000 && test 200000) (test 300000) five).0

  abbrev three : (test 0 && test 150000 && test 250000) ≡ true
  three = (both (test 0 && test 150000 && test 250000) (test 200000) four).0

  abbrev two : (test 0 && test 150000) ≡ true
  two = (both (test 0 && test 150000) (test 250000) three).0

  debt_passes : (goods step life : ℕ) → Passes (debt_haircut goods step life)
  unfolding debt_haircut
  debt_passes goods step life =
      every_at 3 (λ c. test (cell (row_of step) (band_of life) c))
      (every_at 3 (λ b. every 3 (λ c. test (cell (row_of step) b c)))
      (every_at 3 (λ r. every 3 (λ b. every 3 (λ c. test (cell r b c)))) (both (test 0 && test 150000 && test 250000 && test 200000 && test 300000) (debt test) six).1 (row_of step) (row_below step))
      (band_of life) (band_below life))
      (issuer_column goods) (column_below goods)

  others_pass : (step life : ℕ) → Passes (other_issuers_haircut_2023 step life)
  unfolding other_issuers_haircut_2023
  others_pass step life =
      every_at 5 (λ b. test (get_or (get_or other_issuers_2023 (row_of step) []) b not_eligible_2023))
      (every_at 3 (λ r. every 5 (λ b. test (get_or (get_or other_issuers_2023 r []) b not_eligible_2023)))
      (both (test 0 && test 150000 && test 250000 && test 200000 && test 300000 && debt test) (others test) passed).1 (row_of step) (row_below step))
      (band_of_2023 life) (band_below_2023 life)

  of_2019 : (goods step life : ℕ) → Passes (haircut goods step life)
  unfolding haircut
  of_2019 goods step life =
      either Passes (eqb goods cash) (λ e. (both (test 0) _ two).0)
      (λ e. either Passes (eqb goods main_index_equity) (λ e. (both (test 0) _ two).1)
      (λ e. either Passes (eqb goods gold) (λ e. (both (test 0) _ two).1)
      (λ e. either Passes (eqb goods other_listed_equity) (λ e. (both (test 0 && test 150000) _ three).1) (λ e. debt_passes goods step life))))

  of_2023 : (goods step life : ℕ) → Passes (haircut_2023 goods step life)
  unfolding haircut_2023 debt_haircut_2023
  of_2023 goods step life =
      either Passes (eqb goods cash) (λ e. (both (test 0) _ two).0)
      (λ e. either Passes (eqb goods main_index_equity) (λ e. (both (test 0 && test 150000 && test 250000) _ four).1)
      (λ e. either Passes (eqb goods gold) (λ e. (both (test 0 && test 150000 && test 250000) _ four).1)
      (λ e. either Passes (eqb goods other_listed_equity) (λ e. (both (test 0 && test 150000 && test 250000 && test 200000) _ five).1)
      (λ e. either Passes (eqb goods sovereign_debt || eqb goods securitisation) (λ e. debt_passes goods step life) (λ e. others_pass step life)))))

  lent_2019 : (goods step life : ℕ) → Passes (lent_haircut goods step life)
  unfolding lent_haircut
  lent_2019 goods step life = either Passes (eligible goods step 0) (λ e. of_2019 goods step life) (λ e. (both (test 0 && test 150000) _ three).1)

  lent_2023 : (goods step life : ℕ) → Passes (lent_haircut_2023 goods step life)
  unfolding lent_haircut_2023
  lent_2023 goods step life =
      either Passes (eligible goods step 0) (λ e. of_2023 goods step life) (λ e. (both (test 0 && test 150000 && test 250000 && test 200000) _ five).1)

  -- the haircut of collateral
  pub every_haircut : (edition goods step life : ℕ) → test ((table_of edition).haircut goods step life) ≡ true
  unfolding table_of
  every_haircut edition goods step life =
      either (λ (t : Table). Passes (t.haircut goods step life)) (eqb edition edition_2023) (λ e. of_2023 goods step life) (λ e. of_2019 goods step life)

  -- that of goods lent
  pub every_lent_haircut : (edition goods step life : ℕ) → test ((table_of edition).lent_haircut goods step life) ≡ true
  unfolding table_of
  every_lent_haircut edition goods step life =
      either (λ (t : Table). Passes (t.lent_haircut goods step life)) (eqb edition edition_2023) (λ e. lent_2023 goods step life) (λ e. lent_2019 goods step life)
