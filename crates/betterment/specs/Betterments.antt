-- Betterments of a deal, lists of them, and demand 3. 01: Betterments; 02: L1, L5
use Rattle.std.specs.Prelude.{ℕ, ◌≤◌, ◌<◌, ◌≡◌, true, false, List, ◌∷◌, get_or}
use Rattle.tables.specs.Table.{Table}
use Rattle.deal.specs.Fields.{collateral_fields, collateral_in, guarantee_fields, guarantee_in}
use Rattle.deal.specs.Instruments.{as_swap, swap_without_restructuring}
use Rattle.deal.specs.Records.{accepted, without_protection}
use Rattle.deal.specs.declared.terms.Terms.{Terms}
use Rattle.deal.specs.declared.collateral.Collateral.{Collateral}
use Rattle.deal.specs.declared.guarantee.Guarantee.{Guarantee}
use Rattle.deal.specs.declared.deal.Deal.{Deal}
use Rattle.relief.specs.Report.{report_under, report_of}
use Rattle.betterment.specs.Places.{Places, changed, changed_terms, collateral_places, guarantee_places, interval_place, lent_step_place}
use Rattle.deal.specs.Views.{View, view_of, accepted_view}

-- "a smaller step, old and new both 1 to 6"
abbrev pub SmallerStep : ℕ → ℕ → Type 0
SmallerStep old new = (1 ≤ new) × ((new < old) × (old ≤ 6))

-- one of these places
pub data OneOf (place : ℕ) : List ℕ → Type 0 where
  here : {places : List ℕ} → OneOf place (place ∷ places)
  later : {other : ℕ} {places : List ℕ} → OneOf place places → OneOf place (other ∷ places)

-- of an item under a deal in this currency: "a higher amount, residual term or original term of an item; .. a smaller step, old and new
-- both 1 to 6, of an item ..; an item's currency made the deal's" (or it is so already); "an item's condition from 0 to 1"; "A better step of a
-- guarantor's sovereign, between rated steps, joins the betterments" (02: L5)
pub data BetterItem {A : Type 0} (numbers : A → List ℕ) (read : List ℕ → A) (places : Places) (currency : ℕ) : A → A → Type 0 where
  -- a higher amount, residual term or original term
  higher : {x : A} {place : ℕ} → OneOf place places.higher → (new : ℕ) → get_or (numbers x) place 0 < new →
      BetterItem numbers read places currency x (changed numbers read place new x)
  -- a smaller step, or one of a guarantor's sovereign, old and new both rated
  smaller_step : {x : A} {place : ℕ} → OneOf place places.steps → (new : ℕ) → SmallerStep (get_or (numbers x) place 0) new →
      BetterItem numbers read places currency x (changed numbers read place new x)
  -- the deal's currency
  deal_currency : {x : A} {place : ℕ} → OneOf place places.currencies →
      BetterItem numbers read places currency x (changed numbers read place currency x)
  -- a condition now met
  now_met : {x : A} {place : ℕ} → OneOf place places.conditions → get_or (numbers x) place 0 ≡ 0 →
      BetterItem numbers read places currency x (changed numbers read place 1 x)

abbrev pub BetterCollateral : ℕ → Collateral → Collateral → Type 0
BetterCollateral = BetterItem collateral_fields collateral_in collateral_places

-- "The rule on betterments now includes swaps and this condition" (02: L1)
pub data BetterGuarantee (currency : ℕ) : Guarantee → Guarantee → Type 0 where
  -- of a guarantee or a swap, which stays what it is
  better_number : {g g' : Guarantee} → BetterItem guarantee_fields guarantee_in guarantee_places currency g g' → BetterGuarantee currency g g'
  -- of a swap, restructuring from 0 to 1
  restructuring_met : {g : Guarantee} → g.instrument ≡ swap_without_restructuring →
      BetterGuarantee currency g (as_swap 1 g)

-- "a smaller step .. of the goods lent"; "a smaller interval"
pub data BetterTerms : Terms → Terms → Type 0 where
  smaller_lent_step : {t : Terms} (new : ℕ) → SmallerStep t.lent.step new → BetterTerms t (changed_terms lent_step_place new t)
  smaller_interval : {t : Terms} (new : ℕ) → new < t.interval → BetterTerms t (changed_terms interval_place new t)

-- one item of a list changed, wherever it stands
pub data OneChanged {A : Type 0} (Change : A → A → Type 0) : List A → List A → Type 0 where
  here : {old new : A} {items : List A} → Change old new → OneChanged Change (old ∷ items) (new ∷ items)
  later : {item : A} {old new : List A} → OneChanged Change old new → OneChanged Change (item ∷ old) (item ∷ new)

-- "one more item, anywhere in its list"
pub data OneMore {A : Type 0} : List A → List A → Type 0 where
  here : {item : A} {items : List A} → OneMore items (item ∷ items)
  later : {item : A} {old new : List A} → OneMore old new → OneMore (item ∷ old) (item ∷ new)

-- A BETTERMENT: from a deal to the deal that is proposed, all else unchanged
pub data Better : View → View → Type 0 where
  better_terms : {t t' : Terms} {cs : List Collateral} {gs : List Guarantee} → BetterTerms t t' →
      Better (record { terms = t; collateral = cs; guarantees = gs }) (record { terms = t'; collateral = cs; guarantees = gs })
  better_collateral : {t : Terms} {cs cs' : List Collateral} {gs : List Guarantee} → OneChanged (BetterCollateral t.currency) cs cs' →
      Better (record { terms = t; collateral = cs; guarantees = gs }) (record { terms = t; collateral = cs'; guarantees = gs })
  more_collateral : {t : Terms} {cs cs' : List Collateral} {gs : List Guarantee} → OneMore cs cs' →
      Better (record { terms = t; collateral = cs; guarantees = gs }) (record { terms = t; collateral = cs'; guarantees = gs })
  better_guarantee : {t : Terms} {cs : List Collateral} {gs gs' : List Guarantee} → OneChanged (BetterGuarantee t.currency) gs gs' →
      Better (record { terms = t; collateral = cs; guarantees = gs }) (record { terms = t; collateral = cs; guarantees = gs' })
  more_guarantees : {t : Terms} {cs : List Collateral} {gs gs' : List Guarantee} → OneMore gs gs' →
      Better (record { terms = t; collateral = cs; guarantees = gs }) (record { terms = t; collateral = cs; guarantees = gs' })

-- A LIST OF BETTERMENTS, from the deal before it to the deal after it. "One is refused where reporting would refuse the new deal, one more
-- item on a full list included; the deal then stays as it was and the next one follows. Each meets the deal that the one before it left"
pub data Betterments : Deal → Deal → Type 0 where
  no_more : {d : Deal} → Betterments d d
  -- no betterment: the same deal, its record held otherwise. "unchanged is said of its fields and items, not of how a record holds them"
  held_otherwise : {d d' e : Deal} → view_of d ≡ view_of d' → accepted d' ≡ true → Betterments d' e → Betterments d e
  made : {d d' e : Deal} → Better (view_of d) (view_of d') → accepted d' ≡ true → Betterments d' e → Betterments d e
  refused : {d e : Deal} (proposed : View) → Better (view_of d) proposed → accepted_view proposed ≡ false → Betterments d e → Betterments d e

-- "It compares weighted amounts ..: the one after the list with the one before it, and with that of the deal as it then stands, without
-- protection"
abbrev pub NoHigher : (Deal → ℕ) → Deal → Deal → Type 0
NoHigher amount before after = (amount after ≤ amount before) × (amount after ≤ amount (without_protection after.terms))

-- "a single claim about the whole list"
abbrev pub NeverRaises : (Deal → ℕ) → Type 0
NeverRaises amount = (before after : Deal) → accepted before ≡ true → Betterments before after → NoHigher amount before after

-- under one table for all deals, whichever it is
abbrev pub NeverRaisedUnder : Table → Type 0
NeverRaisedUnder table = NeverRaises (λ d. (report_under table d).rwa)

-- DEMAND 3, of the "weighted amounts that reporting gives"
abbrev pub NeverRaised : Type 0
NeverRaised = NeverRaises (λ d. (report_of d).rwa)
