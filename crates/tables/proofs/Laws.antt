-- The tables of every edition have the laws of any such set: each version's pass the test over all their cells. Assumes nothing.
use Prim.Native.Nat.{ℕ}
use mathlib.Core.Path.{◌≡◌, refl}
use mathlib.Core.Bool.{Bool, true, false}
use lib.Dec.{eqb}
use Rattle.base.specs.Range.{within}
use Rattle.base.proofs.Choice.{either}
use Rattle.tables.specs.Eligibility.{eligible, bank_debt_eligible, equity_or_gold}
use Rattle.tables.specs.Haircuts.{band_of, row_of, issuer_column, debt_haircut, haircut, lent_haircut}
use Rattle.tables.specs.Table.{TableLaws, table_2019, table_2023, table_of}
use Rattle.tables.specs.Version2023.{band_of_2023, debt_haircut_2023, edition_2023, haircut_2023, lent_haircut_2023, other_issuers_haircut_2023, provider_weight_2023, table_weight_2023}
use Rattle.tables.specs.Weights.{at_least_sovereign, has_floor, provider_weight, step_column, table_weight}
use Rattle.tables.proofs.Bands.{sample, band_below, haircut_sample, lent_sample}
use Rattle.tables.proofs.Bands2023.{sample_2023, band_below_2023, haircut_sample_2023, lent_sample_2023}
use Rattle.tables.proofs.TableTest.{test, laws_from_test}

-- THE VERSION OF 2019, without the floor and with it

abbrev test_2019 : ℕ → Bool
test_2019 edition = test (table_2019 edition) sample 3

passes_1 : test_2019 1 ≡ true
unfolding eligible bank_debt_eligible equity_or_gold within row_of band_of issuer_column debt_haircut haircut lent_haircut step_column table_weight at_least_sovereign has_floor provider_weight
passes_1 = refl

passes_2 : test_2019 2 ≡ true
unfolding eligible bank_debt_eligible equity_or_gold within row_of band_of issuer_column debt_haircut haircut lent_haircut step_column table_weight at_least_sovereign has_floor provider_weight
passes_2 = refl

-- of an edition the test asks no more than whether it has the floor
passes_2019 : (edition : ℕ) → test_2019 edition ≡ true
unfolding has_floor provider_weight
passes_2019 edition = go (eqb edition 1) refl
  where
    go : (first : Bool) → eqb edition 1 ≡ first → test_2019 edition ≡ true
    go true e = rw e passes_1
    go false e = rw e passes_2

pub lawful_2019 : (edition : ℕ) → TableLaws (table_2019 edition)
lawful_2019 edition = laws_from_test (table_2019 edition) sample band_of 3 band_below haircut_sample lent_sample (passes_2019 edition)

-- THE VERSION OF 2023

passes_2023 : test table_2023 sample_2023 5 ≡ true
unfolding eligible bank_debt_eligible equity_or_gold within row_of band_of issuer_column debt_haircut haircut lent_haircut step_column table_weight at_least_sovereign has_floor band_of_2023 other_issuers_haircut_2023 debt_haircut_2023 haircut_2023 lent_haircut_2023 table_weight_2023 provider_weight_2023
passes_2023 = refl

pub lawful_2023 : TableLaws table_2023
lawful_2023 = laws_from_test table_2023 sample_2023 band_of_2023 5 band_below_2023 haircut_sample_2023 lent_sample_2023 passes_2023

-- THE TABLES OF EVERY EDITION HAVE THE LAWS
pub lawful : (edition : ℕ) → TableLaws (table_of edition)
unfolding table_of
lawful edition = either TableLaws (eqb edition edition_2023) (λ e. lawful_2023) (λ e. lawful_2019 edition)
