-- Risk weights in percent, version of 2019 (editions 1 and 2). CRE20.4, CRE20.14 option 2, CRE20.17, CRE20.20; 01: Risk weights in percent;
-- and the sovereign floor of CRE20.11, CRE20.17; 02: L5. Other classes and steps are refused by opening, adding and reporting
use Rattle.std.specs.Prelude.{ℕ, ◌-◌, max, Bool, not, ◌&&◌, ◌||◌, List, [], ◌∷◌, eqb, get_or, if◌then◌else◌}
use Rattle.tables.specs.Classes.{sovereign, bank, corporate, retail, bank_or_securities_firm}

-- a row for each class: sovereign; bank; corporate and other entity. In a row: steps 1 to 6, unrated
abbrev pub weights : List (List ℕ)
weights =
    (0 ∷ 20 ∷ 50 ∷ 100 ∷ 100 ∷ 150 ∷ 100 ∷ [])
    ∷ (20 ∷ 50 ∷ 50 ∷ 100 ∷ 100 ∷ 150 ∷ 50 ∷ [])
    ∷ (20 ∷ 50 ∷ 100 ∷ 100 ∷ 150 ∷ 150 ∷ 100 ∷ [])
    ∷ []

-- the column of a step; step 0 is unrated, the seventh
unfoldable pub step_column : ℕ → ℕ
step_column step = if eqb step 0 then 6 else step - 1

unfoldable pub table_weight : ℕ → ℕ → ℕ
table_weight class step = get_or (get_or weights (class - 1) []) (step_column step) 0

-- a counterparty's own weight. "Retail is 75"
unfoldable pub own_weight : ℕ → ℕ → ℕ
own_weight class step = if eqb class retail then 75 else table_weight class step

-- THE SOVEREIGN FLOOR. "an unrated bank or corporate may not weigh less than its sovereign of incorporation"

-- "The header's second field becomes 2, and a book headed 1 reads as before with no floor"; under 3 "Our supervisor keeps the sovereign floor" (02: L9)
unfoldable pub has_floor : ℕ → Bool
has_floor edition = not (eqb edition 1)

-- which parties it is for, by edition, class and step; "an unrated other entity still has ground 28"
abbrev pub floor_for_counterparty : ℕ → ℕ → ℕ → Bool
floor_for_counterparty edition class step = has_floor edition && eqb step 0 && (eqb class bank || eqb class corporate)

abbrev pub floor_for_provider : ℕ → ℕ → ℕ → Bool
floor_for_provider edition class step = has_floor edition && eqb step 0 && eqb class bank_or_securities_firm

-- where it applies, "the larger of its own weight and the sovereign's", whose step 0 is an unrated sovereign
unfoldable pub at_least_sovereign : Bool → ℕ → ℕ → ℕ
at_least_sovereign applies own sovereign_step = if applies then max own (table_weight sovereign sovereign_step) else own

-- A PARTY'S WEIGHT in the tables of 2019, by the edition, its class, its step and its sovereign's step

unfoldable pub counterparty_weight : ℕ → ℕ → ℕ → ℕ → ℕ
counterparty_weight edition class step sovereign_step = at_least_sovereign (floor_for_counterparty edition class step) (own_weight class step) sovereign_step

-- a provider of protection, a securities firm as a bank (CRE20.16). CRE22.91(1)
unfoldable pub provider_weight : ℕ → ℕ → ℕ → ℕ → ℕ
provider_weight edition class step sovereign_step = at_least_sovereign (floor_for_provider edition class step) (table_weight class step) sovereign_step
