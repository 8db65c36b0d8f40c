-- What the versions share: how a haircut and a weight come from a version's own figures. At the figures of 2019 these are `haircut`, `lent_haircut` and
-- `own_weight` (specs/Haircuts, specs/Weights), at those of 2023 `haircut_2023`, `lent_haircut_2023` and `own_weight_2023` (specs/Version2023)
use Rattle.std.specs.Prelude.{ℕ, eqb, if◌then◌else◌}
use Rattle.tables.specs.Classes.{retail}
use Rattle.tables.specs.Eligibility.{eligible}
use Rattle.tables.specs.Goods.{cash, main_index_equity, other_listed_equity, gold}

-- main index equity and gold have one figure, other equity has one, and debt goes by type, step and life
unfoldable pub haircut_by : ℕ → ℕ → (ℕ → ℕ → ℕ → ℕ) → ℕ → ℕ → ℕ → ℕ
haircut_by main_index_or_gold other_listed debt goods step life =
    if eqb goods cash then 0 else
    if eqb goods main_index_equity then main_index_or_gold else
    if eqb goods gold then main_index_or_gold else
    if eqb goods other_listed_equity then other_listed else
    debt goods step life

-- goods lent that are not eligible have one figure
unfoldable pub lent_haircut_by : ℕ → ℕ → ℕ → (ℕ → ℕ → ℕ → ℕ) → ℕ → ℕ → ℕ → ℕ
lent_haircut_by not_eligible main_index_or_gold other_listed debt goods step life =
    if eligible goods step 0 then haircut_by main_index_or_gold other_listed debt goods step life else not_eligible

-- retail weighs 75 in every version
unfoldable pub own_weight_by : (ℕ → ℕ → ℕ) → ℕ → ℕ → ℕ
own_weight_by weight class step = if eqb class retail then 75 else weight class step
