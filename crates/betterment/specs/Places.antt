-- Which numbers of terms and items betterments change, by their places in a record (deal/specs/Fields; that each
-- place is the field of its name: `collateral_named`, `guarantee_named`, `terms_named`). 01: Betterments; 02: L1, L5
use Rattle.std.specs.Prelude.{ℕ, List, [], ◌∷◌, set}
use Rattle.deal.specs.Fields.{collateral_fields, collateral_in, guarantee_fields, guarantee_in, terms_fields, terms_in}
use Rattle.deal.specs.declared.terms.Terms.{Terms}
use Rattle.deal.specs.declared.collateral.Collateral.{Collateral}
use Rattle.deal.specs.declared.guarantee.Guarantee.{Guarantee}

-- of an item
pub record Places : Type 0 where
  -- "a higher amount, residual term or original term of an item"
  pub higher : List ℕ
  -- "a smaller step, old and new both 1 to 6, of an item"; "A better step of a guarantor's sovereign, between rated steps" (02: L5)
  pub steps : List ℕ
  -- "an item's currency made the deal's"
  pub currencies : List ℕ
  -- "an item's condition from 0 to 1"
  pub conditions : List ℕ

abbrev pub collateral_places : Places
collateral_places =
    let amount : ℕ = 0 in
    let step : ℕ = 2 in
    let currency : ℕ = 4 in
    let residual : ℕ = 5 in
    let original : ℕ = 6 in
    let lawful : ℕ = 7 in
    let unrelated : ℕ = 8 in
    let not_in_rating : ℕ = 9 in
    let listed : ℕ = 10 in
    record {
      higher = amount ∷ residual ∷ original ∷ [];
      steps = step ∷ [];
      currencies = currency ∷ [];
      conditions = lawful ∷ unrelated ∷ not_in_rating ∷ listed ∷ [];
    }

abbrev pub guarantee_places : Places
guarantee_places =
    let amount : ℕ = 0 in
    let step : ℕ = 2 in
    let sovereign_step : ℕ = 3 in
    let currency : ℕ = 4 in
    let residual : ℕ = 5 in
    let original : ℕ = 6 in
    let lawful : ℕ = 7 in
    let direct : ℕ = 8 in
    let not_in_rating : ℕ = 9 in
    record {
      higher = amount ∷ residual ∷ original ∷ [];
      steps = step ∷ sovereign_step ∷ [];
      currencies = currency ∷ [];
      conditions = lawful ∷ direct ∷ not_in_rating ∷ [];
    }

-- of the terms: the revaluation interval, and the step of the goods lent
abbrev pub interval_place : ℕ
interval_place = 6

abbrev pub lent_step_place : ℕ
lent_step_place = 9

-- "all else unchanged" (00, demand 3)
abbrev pub changed : {A : Type 0} → (A → List ℕ) → (List ℕ → A) → ℕ → ℕ → A → A
changed numbers read place new x = read (set (numbers x) place new)

abbrev pub changed_collateral : ℕ → ℕ → Collateral → Collateral
changed_collateral = changed collateral_fields collateral_in

abbrev pub changed_guarantee : ℕ → ℕ → Guarantee → Guarantee
changed_guarantee = changed guarantee_fields guarantee_in

abbrev pub changed_terms : ℕ → ℕ → Terms → Terms
changed_terms = changed terms_fields terms_in
