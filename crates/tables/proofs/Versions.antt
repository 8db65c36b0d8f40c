-- Which version's tables an edition has, and what no version changes. Assumes nothing.
use Prim.Native.Nat.{ℕ}
use mathlib.Core.Path.{◌≡◌, refl}
use mathlib.Core.Bool.{true, false}
use lib.Dec.{eqb}
use Rattle.base.proofs.Choice.{either, if_false, if_true}
use Rattle.tables.specs.Eligibility.{eligible}
use Rattle.tables.specs.Table.{Table, table_2019, table_2023, table_of}
use Rattle.tables.specs.Version2023.{edition_2023}

pub of_2023 : (edition : ℕ) → eqb edition edition_2023 ≡ true → table_of edition ≡ table_2023
unfolding table_of
of_2023 edition e = if_true _ _ _ e

pub of_2019 : (edition : ℕ) → eqb edition edition_2023 ≡ false → table_of edition ≡ table_2019 edition
unfolding table_of
of_2019 edition e = if_false _ _ _ e

-- which goods are eligible
pub eligible_same : (edition goods step listed : ℕ) → (table_of edition).eligible goods step listed ≡ eligible goods step listed
unfolding table_of
eligible_same edition goods step listed = either (λ (t : Table). t.eligible goods step listed ≡ eligible goods step listed) (eqb edition edition_2023) (λ e. refl) (λ e. refl)
