-- The figures of the 2023 version (edition 3): those that 02: L9 lists, "and is all that changes". Every other figure is that of 2019 (specs/Haircuts,
-- specs/Weights), and periods, scaling, the currency haircut and grounds do not depend on the version
use Rattle.std.specs.Prelude.{ℕ, ◌&&◌, ◌||◌, List, [], ◌∷◌, leb, eqb, get_or, if◌then◌else◌}
use Rattle.tables.specs.Classes.{bank, corporate, retail}
use Rattle.tables.specs.Eligibility.{eligible}
use Rattle.tables.specs.Goods.{cash, sovereign_debt, securitisation, main_index_equity, other_listed_equity, gold}
use Rattle.tables.specs.Haircuts.{debt_haircut, row_of}
use Rattle.tables.specs.Weights.{at_least_sovereign, floor_for_counterparty, floor_for_provider, own_weight, table_weight}

-- "A header second field of 3 chooses it"
abbrev pub edition_2023 : ℕ
edition_2023 = 3

-- HAIRCUTS in millionths, for a holding period of ten business days

-- "For other issuers, step 1 has 1, 3, 4, 6, 12 percent and steps 2 and 3 have 2, 4, 6, 12, 20": a row each, by band of life. Bank debt is among
-- other issuers', as before
abbrev pub other_issuers_2023 : List (List ℕ)
other_issuers_2023 =
    (10000 ∷ 30000 ∷ 40000 ∷ 60000 ∷ 120000 ∷ [])
    ∷ (20000 ∷ 40000 ∷ 60000 ∷ 120000 ∷ 200000 ∷ [])
    ∷ []

-- "Life bands become up to 1, 3, 5, 10 years and above"; a year is 360 days
unfoldable pub band_of_2023 : ℕ → ℕ
band_of_2023 life =
    if leb life 360 then 0 else
    if leb life 1080 then 1 else
    if leb life 1800 then 2 else
    if leb life 3600 then 3 else
    4

-- "lent goods not eligible, 30"
abbrev pub not_eligible_2023 : ℕ
not_eligible_2023 = 300000

-- rows by step as before, unrated listed senior bank paper in the second. Steps 4 to 6, other unrated debt and re-securitisations are not eligible,
-- and no answer depends on their figure
unfoldable pub other_issuers_haircut_2023 : ℕ → ℕ → ℕ
other_issuers_haircut_2023 step life = get_or (get_or other_issuers_2023 (row_of step) []) (band_of_2023 life) not_eligible_2023

-- "The sovereign and securitisation figures keep their earlier bands"
unfoldable pub debt_haircut_2023 : ℕ → ℕ → ℕ → ℕ
debt_haircut_2023 goods step life =
    if eqb goods sovereign_debt || eqb goods securitisation then debt_haircut goods step life else
    other_issuers_haircut_2023 step life

-- "Main index equity and gold become 20 percent; other equity .. 30"
unfoldable pub haircut_2023 : ℕ → ℕ → ℕ → ℕ
haircut_2023 goods step life =
    if eqb goods cash then 0 else
    if eqb goods main_index_equity then 200000 else
    if eqb goods gold then 200000 else
    if eqb goods other_listed_equity then 300000 else
    debt_haircut_2023 goods step life

-- which goods are eligible does not change; goods lent have no listing condition, so unrated bank debt is not
unfoldable pub lent_haircut_2023 : ℕ → ℕ → ℕ → ℕ
lent_haircut_2023 goods step life = if eligible goods step 0 then haircut_2023 goods step life else not_eligible_2023

-- RISK WEIGHTS in percent

-- "Bank step 2 weighs 30, corporate and other entity step 3 weighs 75. An unrated bank weighs 150." A provider of a bank's class may be a
-- securities firm, and other entity has the corporate's number
unfoldable pub table_weight_2023 : ℕ → ℕ → ℕ
table_weight_2023 class step =
    if eqb class bank && eqb step 2 then 30 else
    if eqb class corporate && eqb step 3 then 75 else
    if eqb class bank && eqb step 0 then 150 else
    table_weight class step

-- a counterparty's own; retail's stays
unfoldable pub own_weight_2023 : ℕ → ℕ → ℕ
own_weight_2023 class step = if eqb class retail then own_weight class step else table_weight_2023 class step

-- "Our supervisor keeps the sovereign floor": for the same parties as under 2
unfoldable pub counterparty_weight_2023 : ℕ → ℕ → ℕ → ℕ
counterparty_weight_2023 class step sovereign_step =
    at_least_sovereign (floor_for_counterparty edition_2023 class step) (own_weight_2023 class step) sovereign_step

unfoldable pub provider_weight_2023 : ℕ → ℕ → ℕ → ℕ
provider_weight_2023 class step sovereign_step =
    at_least_sovereign (floor_for_provider edition_2023 class step) (table_weight_2023 class step) sovereign_step
