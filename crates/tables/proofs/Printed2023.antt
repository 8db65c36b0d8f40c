-- The figures of 2023, computed cell by cell, and which of 2019 they are. 02: L9. Assumes nothing.
use Prim.Native.Nat.{ℕ}
use mathlib.Core.Path.{◌≡◌, refl}
use mathlib.Core.List.{List, [], ◌∷◌, map}
use lib.ListN.{replicate}
use Rattle.base.specs.Range.{within}
use Rattle.tables.specs.Classes.{sovereign, bank, corporate, retail, bank_or_securities_firm, other_entity}
use Rattle.tables.specs.Eligibility.{eligible, bank_debt_eligible, equity_or_gold}
use Rattle.tables.specs.Haircuts.{band_of, row_of, issuer_column, debt_haircut}
use Rattle.tables.specs.Table.{table_2019, table_2023, table_of}
use Rattle.tables.specs.Version2023.{band_of_2023, counterparty_weight_2023, debt_haircut_2023, haircut_2023, lent_haircut_2023, other_issuers_haircut_2023, own_weight_2023, provider_weight_2023, table_weight_2023}
use Rattle.tables.specs.Weights.{at_least_sovereign, has_floor, own_weight, step_column, table_weight}

-- the first and last day of each of the five bands
abbrev lives : List ℕ
lives = 1 ∷ 360 ∷ 361 ∷ 1080 ∷ 1081 ∷ 1800 ∷ 1801 ∷ 3600 ∷ 3601 ∷ 100000 ∷ []

abbrev cells : ℕ → ℕ → List ℕ
cells goods step = map (haircut_2023 goods step) lives

abbrev bands : ℕ → ℕ → ℕ → ℕ → ℕ → List ℕ
bands a b c d e = a ∷ a ∷ b ∷ b ∷ c ∷ c ∷ d ∷ d ∷ e ∷ e ∷ []

-- "For other issuers, step 1 has 1, 3, 4, 6, 12 percent and steps 2 and 3 have 2, 4, 6, 12, 20", unrated listed senior bank paper among the latter
pub other_issuers :
    (map (λ g. cells g 1) (3 ∷ 4 ∷ []) ≡ replicate 2 (bands 10000 30000 40000 60000 120000))
    × (map (cells 3) (2 ∷ 3 ∷ []) ≡ replicate 2 (bands 20000 40000 60000 120000 200000))
    × (map (cells 4) (0 ∷ 2 ∷ 3 ∷ []) ≡ replicate 3 (bands 20000 40000 60000 120000 200000))
unfolding row_of band_of_2023 other_issuers_haircut_2023 debt_haircut_2023 haircut_2023
other_issuers = (refl, refl, refl)

-- "The sovereign and securitisation figures keep their earlier bands": 361 to 1,800 is one
pub sovereign_and_securitisation :
    (map (cells 2) (1 ∷ 2 ∷ 3 ∷ 4 ∷ []) ≡
    bands 5000 20000 20000 40000 40000 ∷ bands 10000 30000 30000 60000 60000 ∷ bands 10000 30000 30000 60000 60000 ∷ bands 150000 150000 150000 150000 150000 ∷ [])
    × (map (cells 5) (1 ∷ 2 ∷ 3 ∷ []) ≡
    bands 20000 80000 80000 160000 160000 ∷ bands 40000 120000 120000 240000 240000 ∷ bands 40000 120000 120000 240000 240000 ∷ [])
unfolding row_of band_of issuer_column debt_haircut debt_haircut_2023 haircut_2023
sovereign_and_securitisation = (refl, refl)

-- "Main index equity and gold become 20 percent; other equity, and lent goods not eligible, 30"; cash has none
pub equity_and_gold : map (λ g. haircut_2023 g 0 0) (1 ∷ 7 ∷ 8 ∷ 9 ∷ []) ≡ 0 ∷ 200000 ∷ 300000 ∷ 200000 ∷ []
unfolding haircut_2023
equity_and_gold = refl

-- goods lent, types 2 to 6, by step, unrated first, in the second band
abbrev steps : List ℕ
steps = 0 ∷ 1 ∷ 2 ∷ 3 ∷ 4 ∷ 5 ∷ 6 ∷ []

pub lent :
    (map (λ g. map (λ s. lent_haircut_2023 g s 361) steps) (2 ∷ 3 ∷ 4 ∷ 5 ∷ 6 ∷ []) ≡
    (300000 ∷ 20000 ∷ 30000 ∷ 30000 ∷ 150000 ∷ 300000 ∷ 300000 ∷ [])
    ∷ (300000 ∷ 30000 ∷ 40000 ∷ 40000 ∷ 300000 ∷ 300000 ∷ 300000 ∷ [])
    ∷ (300000 ∷ 30000 ∷ 40000 ∷ 40000 ∷ 300000 ∷ 300000 ∷ 300000 ∷ [])
    ∷ (300000 ∷ 80000 ∷ 120000 ∷ 120000 ∷ 300000 ∷ 300000 ∷ 300000 ∷ [])
    ∷ (300000 ∷ 300000 ∷ 300000 ∷ 300000 ∷ 300000 ∷ 300000 ∷ 300000 ∷ [])
    ∷ [])
    × (map (lent_haircut_2023 3 1) lives ≡ bands 10000 30000 40000 60000 120000)
    × (map (lent_haircut_2023 4 2) lives ≡ bands 20000 40000 60000 120000 200000)
    × (map (λ g. lent_haircut_2023 g 0 0) (1 ∷ 7 ∷ 8 ∷ 9 ∷ []) ≡ 0 ∷ 200000 ∷ 300000 ∷ 200000 ∷ [])
unfolding eligible bank_debt_eligible equity_or_gold within row_of band_of issuer_column debt_haircut band_of_2023 other_issuers_haircut_2023 debt_haircut_2023 haircut_2023 lent_haircut_2023
lent = (refl, refl, refl, refl)

-- weights, unrated first, under a sovereign of step 1, which never weighs more
abbrev weights : List (List ℕ)
weights = (100 ∷ 0 ∷ 20 ∷ 50 ∷ 100 ∷ 100 ∷ 150 ∷ []) ∷ (150 ∷ 20 ∷ 30 ∷ 50 ∷ 100 ∷ 100 ∷ 150 ∷ []) ∷ (100 ∷ 20 ∷ 50 ∷ 75 ∷ 100 ∷ 150 ∷ 150 ∷ []) ∷ []

pub weighed :
    (map (λ c. map (λ s. counterparty_weight_2023 c s 1) steps) (sovereign ∷ bank ∷ corporate ∷ []) ≡ weights)
    × (map (λ c. map (λ s. provider_weight_2023 c s 1) steps) (sovereign ∷ bank_or_securities_firm ∷ other_entity ∷ []) ≡ weights)
    × (map (counterparty_weight_2023 retail 0) steps ≡ replicate 7 75)
unfolding step_column table_weight own_weight has_floor at_least_sovereign table_weight_2023 own_weight_2023 counterparty_weight_2023 provider_weight_2023
weighed = (refl, refl, refl)

-- the floor, by the sovereign's step, unrated first: a bank weighs 150 by itself, and no sovereign more; a corporate 100. Nobody else has it
pub floored :
    (map (counterparty_weight_2023 bank 0) steps ≡ replicate 7 150)
    × (map (counterparty_weight_2023 corporate 0) steps ≡ 100 ∷ 100 ∷ 100 ∷ 100 ∷ 100 ∷ 100 ∷ 150 ∷ [])
    × (map (provider_weight_2023 bank_or_securities_firm 0) steps ≡ replicate 7 150)
    × (map (provider_weight_2023 other_entity 0) steps ≡ replicate 7 100)
    × (map (λ s. counterparty_weight_2023 corporate s 6) (1 ∷ 2 ∷ 3 ∷ 4 ∷ 5 ∷ 6 ∷ []) ≡ 20 ∷ 50 ∷ 75 ∷ 100 ∷ 150 ∷ 150 ∷ [])
    × (map (λ s. provider_weight_2023 bank_or_securities_firm s 6) (1 ∷ 2 ∷ 3 ∷ 4 ∷ 5 ∷ 6 ∷ []) ≡ 20 ∷ 30 ∷ 50 ∷ 100 ∷ 100 ∷ 150 ∷ [])
unfolding step_column table_weight own_weight has_floor at_least_sovereign table_weight_2023 own_weight_2023 counterparty_weight_2023 provider_weight_2023
floored = (refl, refl, refl, refl, refl, refl)

-- the bands by day, and lives that a narrower number would cut
bands_of_lives : map band_of_2023 (1 ∷ 360 ∷ 361 ∷ 1080 ∷ 1081 ∷ 1800 ∷ 1801 ∷ 3600 ∷ 3601 ∷ 36001 ∷ 65536 ∷ 65600 ∷ 100000 ∷ []) ≡ 0 ∷ 0 ∷ 1 ∷ 1 ∷ 2 ∷ 2 ∷ 3 ∷ 3 ∷ 4 ∷ 4 ∷ 4 ∷ 4 ∷ 4 ∷ []
unfolding band_of_2023
bands_of_lives = refl

-- each edition's set of tables, whole
editions : map table_of (1 ∷ 2 ∷ 3 ∷ []) ≡ table_2019 1 ∷ table_2019 2 ∷ table_2023 ∷ []
unfolding table_of
editions = refl
