-- The paper's tables, computed cell by cell. Assumes nothing.
use Prim.Native.Nat.{ℕ}
use mathlib.Core.Path.{◌≡◌, refl}
use mathlib.Core.List.{List, [], ◌∷◌, map}
use lib.ListN.{drop, replicate}
use Rattle.base.specs.Range.{within}
use Rattle.tables.specs.Classes.{sovereign, bank, corporate, retail, bank_or_securities_firm, other_entity}
use Rattle.tables.specs.Eligibility.{eligible, bank_debt_eligible, equity_or_gold}
use Rattle.tables.specs.Haircuts.{band_of, row_of, issuer_column, debt_haircut, haircut, lent_haircut}
use Rattle.tables.specs.Weights.{at_least_sovereign, counterparty_weight, has_floor, own_weight, provider_weight, step_column, table_weight}

-- at both ends of each band
abbrev cells : ℕ → ℕ → List ℕ
cells goods step = map (haircut goods step) (1 ∷ 360 ∷ 361 ∷ 1800 ∷ 1801 ∷ 100000 ∷ [])

abbrev bands : ℕ → ℕ → ℕ → List ℕ
bands a b c = a ∷ a ∷ b ∷ b ∷ c ∷ c ∷ []

abbrev steps : List ℕ
steps = 0 ∷ 1 ∷ 2 ∷ 3 ∷ 4 ∷ 5 ∷ 6 ∷ []

pub first_row : map (λ g. cells g 1) (2 ∷ 3 ∷ 4 ∷ 5 ∷ []) ≡ bands 5000 20000 40000 ∷ bands 10000 40000 80000 ∷ bands 10000 40000 80000 ∷ bands 20000 80000 160000 ∷ []
unfolding within row_of band_of issuer_column debt_haircut haircut
first_row = refl

pub second_row :
    (map (cells 2) (2 ∷ 3 ∷ []) ≡ bands 10000 30000 60000 ∷ bands 10000 30000 60000 ∷ [])
    × ((map (cells 3) (2 ∷ 3 ∷ []) ≡ bands 20000 60000 120000 ∷ bands 20000 60000 120000 ∷ [])
    × ((map (cells 4) (0 ∷ 2 ∷ 3 ∷ []) ≡ bands 20000 60000 120000 ∷ bands 20000 60000 120000 ∷ bands 20000 60000 120000 ∷ [])
    × (map (cells 5) (2 ∷ 3 ∷ []) ≡ bands 40000 120000 240000 ∷ bands 40000 120000 240000 ∷ [])))
unfolding within row_of band_of issuer_column debt_haircut haircut
second_row = (refl, (refl, (refl, refl)))

pub others : (cells 2 4 ≡ bands 150000 150000 150000) × (map (λ g. haircut g 0 0) (1 ∷ 7 ∷ 8 ∷ 9 ∷ []) ≡ 0 ∷ 150000 ∷ 250000 ∷ 150000 ∷ [])
unfolding within row_of band_of issuer_column debt_haircut haircut
others = (refl, refl)

-- goods lent, types 2 to 6, by step
pub lent : map (λ g. map (λ s. lent_haircut g s 361) steps) (2 ∷ 3 ∷ 4 ∷ 5 ∷ 6 ∷ []) ≡
    (250000 ∷ 20000 ∷ 30000 ∷ 30000 ∷ 150000 ∷ 250000 ∷ 250000 ∷ [])
    ∷ (250000 ∷ 40000 ∷ 60000 ∷ 60000 ∷ 250000 ∷ 250000 ∷ 250000 ∷ [])
    ∷ (250000 ∷ 40000 ∷ 60000 ∷ 60000 ∷ 250000 ∷ 250000 ∷ 250000 ∷ [])
    ∷ (250000 ∷ 80000 ∷ 120000 ∷ 120000 ∷ 250000 ∷ 250000 ∷ 250000 ∷ [])
    ∷ (250000 ∷ 250000 ∷ 250000 ∷ 250000 ∷ 250000 ∷ 250000 ∷ 250000 ∷ [])
    ∷ []
unfolding eligible bank_debt_eligible equity_or_gold within row_of band_of issuer_column debt_haircut haircut lent_haircut
lent = refl

-- the classes by their names, at step 1 and unrated
pub named :
    (map (λ c. counterparty_weight 1 c 1 0) (sovereign ∷ bank ∷ corporate ∷ []) ≡ 0 ∷ 20 ∷ 20 ∷ [])
    × (map (λ c. counterparty_weight 1 c 0 0) (bank ∷ corporate ∷ retail ∷ []) ≡ 50 ∷ 100 ∷ 75 ∷ [])
    × (map (λ c. provider_weight 1 c 1 0) (sovereign ∷ bank_or_securities_firm ∷ other_entity ∷ []) ≡ 0 ∷ 20 ∷ 20 ∷ [])
    × (map (λ c. provider_weight 1 c 0 0) (bank_or_securities_firm ∷ other_entity ∷ []) ≡ 50 ∷ 100 ∷ [])
unfolding step_column table_weight own_weight has_floor at_least_sovereign counterparty_weight provider_weight
named = (refl, refl, refl, refl)

-- weights without the floor, unrated first, and as often for each sovereign's step
abbrev weights : List (List ℕ)
weights = (100 ∷ 0 ∷ 20 ∷ 50 ∷ 100 ∷ 100 ∷ 150 ∷ []) ∷ (50 ∷ 20 ∷ 50 ∷ 50 ∷ 100 ∷ 100 ∷ 150 ∷ []) ∷ (100 ∷ 20 ∷ 50 ∷ 100 ∷ 100 ∷ 150 ∷ 150 ∷ []) ∷ []

pub weighed :
    (map (λ k. map (λ c. map (λ s. counterparty_weight 1 c s k) steps) (1 ∷ 2 ∷ 3 ∷ [])) steps ≡ replicate 7 weights)
    × ((map (λ k. map (λ c. map (λ s. provider_weight 1 c s k) steps) (1 ∷ 2 ∷ 3 ∷ [])) steps ≡ replicate 7 weights)
    × (map (λ k. counterparty_weight 1 4 0 k) steps ≡ replicate 7 75))
unfolding step_column table_weight own_weight has_floor at_least_sovereign counterparty_weight provider_weight
weighed = (refl, (refl, refl))

-- with the floor: the unrated by their sovereign's step, unrated first. A bank weighs 50 by itself, a corporate 100
pub floored :
    (map (counterparty_weight 2 bank 0) steps ≡ 100 ∷ 50 ∷ 50 ∷ 50 ∷ 100 ∷ 100 ∷ 150 ∷ [])
    × ((map (counterparty_weight 2 corporate 0) steps ≡ 100 ∷ 100 ∷ 100 ∷ 100 ∷ 100 ∷ 100 ∷ 150 ∷ [])
    × (map (provider_weight 2 bank_or_securities_firm 0) steps ≡ 100 ∷ 50 ∷ 50 ∷ 50 ∷ 100 ∷ 100 ∷ 150 ∷ []))
unfolding step_column table_weight own_weight has_floor at_least_sovereign counterparty_weight provider_weight
floored = (refl, (refl, refl))

-- and nothing else: rated parties, sovereigns, retail and an unrated other entity weigh what they weigh without it
abbrev rated : List ℕ
rated = 1 ∷ 2 ∷ 3 ∷ 4 ∷ 5 ∷ 6 ∷ []

abbrev rated_weights : List (List ℕ)
rated_weights = map (drop 1) weights

pub not_floored :
    (map (λ k. map (λ c. map (λ s. counterparty_weight 2 c s k) rated) (1 ∷ 2 ∷ 3 ∷ [])) steps ≡ replicate 7 rated_weights)
    × ((map (λ k. map (λ c. map (λ s. provider_weight 2 c s k) rated) (1 ∷ 2 ∷ 3 ∷ [])) steps ≡ replicate 7 rated_weights)
    × ((map (counterparty_weight 2 sovereign 0) steps ≡ replicate 7 100)
    × ((map (counterparty_weight 2 retail 0) steps ≡ replicate 7 75)
    × ((map (provider_weight 2 sovereign 0) steps ≡ replicate 7 100) × (map (provider_weight 2 other_entity 0) steps ≡ replicate 7 100)))))
unfolding step_column table_weight own_weight has_floor at_least_sovereign counterparty_weight provider_weight
not_floored = (refl, (refl, (refl, (refl, (refl, refl)))))

-- lives above 36,000, and those that a narrower number would cut, are in the last band
bands_of_lives : map band_of (360 ∷ 361 ∷ 1800 ∷ 1801 ∷ 36001 ∷ 65536 ∷ 65600 ∷ 100000 ∷ []) ≡ 0 ∷ 1 ∷ 1 ∷ 2 ∷ 2 ∷ 2 ∷ 2 ∷ 2 ∷ []
unfolding band_of
bands_of_lives = refl
