-- The figures that depend on type, class and step, as one set, by edition, and laws of such a set that suffice for 01: Betterments:
-- with them a better step of goods, of a provider or of its sovereign, or a listing, never raises the weighted amount
use Rattle.std.specs.Prelude.{ℕ, ◌≤◌, ◌≡◌, Bool, true, eqb, if◌then◌else◌}
use Rattle.tables.specs.Classes.{sovereign, other_entity}
use Rattle.tables.specs.Goods.{cash, gold}
use Rattle.tables.specs.Eligibility
use Rattle.tables.specs.Haircuts
use Rattle.tables.specs.Weights
use Rattle.tables.specs.Version2023

pub record Table : Type 0 where
  -- by type, step and the condition "listed senior bank paper"
  pub eligible : ℕ → ℕ → ℕ → Bool
  -- by type, step and issue life
  pub haircut : ℕ → ℕ → ℕ → ℕ
  pub lent_haircut : ℕ → ℕ → ℕ → ℕ
  -- by class, step and the sovereign's step
  pub counterparty_weight : ℕ → ℕ → ℕ → ℕ
  pub provider_weight : ℕ → ℕ → ℕ → ℕ

-- CRE20 and CRE22, version of 2019, as document 01 reads them: for edition 1 without the sovereign floor of CRE20.11 and CRE20.17, for edition 2 with
-- it (02: L5)
abbrev pub table_2019 : ℕ → Table
table_2019 edition = record {
  eligible = Eligibility.eligible;
  haircut = Haircuts.haircut;
  lent_haircut = Haircuts.lent_haircut;
  counterparty_weight = Weights.counterparty_weight edition;
  provider_weight = Weights.provider_weight edition;
}

-- the version of 2023, with the floor (02: L9)
abbrev pub table_2023 : Table
table_2023 = record {
  eligible = Eligibility.eligible;
  haircut = Version2023.haircut_2023;
  lent_haircut = Version2023.lent_haircut_2023;
  counterparty_weight = Version2023.counterparty_weight_2023;
  provider_weight = Version2023.provider_weight_2023;
}

-- the tables of an edition, which is the number in a book's header: 3 chooses the version of 2023. Editions but 1, 2 and 3 are refused by opening,
-- adding and reporting, and all but 2 and 3 by netting a set
unfoldable pub table_of : ℕ → Table
table_of edition = if eqb edition Version2023.edition_2023 then table_2023 else table_2019 edition

-- a type of goods
abbrev pub Goods : ℕ → Type 0
Goods goods = (cash ≤ goods) × (goods ≤ gold)

-- a provider's class
abbrev pub Provider : ℕ → Type 0
Provider class = (sovereign ≤ class) × (class ≤ other_entity)

-- a new step no worse than the old, both of them rated
abbrev pub NoWorseStep : ℕ → ℕ → Type 0
NoWorseStep step' step = (1 ≤ step') × ((step' ≤ step) × (step ≤ 6))

-- WHAT ANY SET OF TABLES MUST HAVE for betterments never to raise the weighted amount. 02: L9
pub record TableLaws (t : Table) : Type 0 where
  -- a better step stays eligible
  pub step_eligible :
      (goods step step' listed : ℕ) → Goods goods → NoWorseStep step' step → listed ≤ 1 → t.eligible goods step listed ≡ true →
      t.eligible goods step' listed ≡ true
  -- and has no larger haircut
  pub step_haircut :
      (goods step step' listed life : ℕ) → Goods goods → NoWorseStep step' step → listed ≤ 1 → t.eligible goods step listed ≡ true →
      t.haircut goods step' life ≤ t.haircut goods step life
  -- nor have goods lent, whether eligible or not
  pub step_lent :
      (goods step step' life : ℕ) → Goods goods → NoWorseStep step' step → t.lent_haircut goods step' life ≤ t.lent_haircut goods step life
  -- a better step of a provider weighs no more
  pub step_weight :
      (class step step' sovereign_step : ℕ) → Provider class → NoWorseStep step' step → sovereign_step ≤ 6 →
      t.provider_weight class step' sovereign_step ≤ t.provider_weight class step sovereign_step
  -- nor does a better step of its sovereign, whatever its own
  pub sovereign_weight :
      (class step sovereign_step sovereign_step' : ℕ) → Provider class → step ≤ 6 → NoWorseStep sovereign_step' sovereign_step →
      t.provider_weight class step sovereign_step' ≤ t.provider_weight class step sovereign_step
  -- a listing takes nothing away
  pub listed_eligible :
      (goods step : ℕ) → Goods goods → step ≤ 6 → t.eligible goods step 0 ≡ true → t.eligible goods step 1 ≡ true
