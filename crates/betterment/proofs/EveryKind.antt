-- Each kind of betterment in the paper's words, for every value and at any place of a list: no constructor is narrower. Assumes nothing.
use Prim.Native.Nat.{ℕ, ◌≤◌, ◌<◌}
use mathlib.Core.Path.{◌≡◌, refl}
use mathlib.Core.Bool.{true, false}
use mathlib.Core.List.{List, [], ◌∷◌, ◌++◌, map}
use native.Mathlib.Omega.{arith}
use lib.ListN.{get_or, set}
use Rattle.deal.specs.Fields.{collateral_fields, guarantee_fields, terms_fields}
use Rattle.deal.specs.Instruments.{as_swap, swap_without_restructuring}
use Rattle.deal.specs.Records.{accepted}
use Rattle.deal.specs.declared.terms.Terms.{Terms}
use Rattle.deal.specs.declared.collateral.Collateral.{Collateral}
use Rattle.deal.specs.declared.guarantee.Guarantee.{Guarantee}
use Rattle.deal.specs.declared.deal.Deal.{Deal}
use Rattle.betterment.specs.Places.{changed_collateral, changed_guarantee, changed_terms, collateral_places, guarantee_places, interval_place, lent_step_place}
use Rattle.deal.specs.Views.{View, view_of, accepted_view}
use Rattle.betterment.specs.Betterments.{OneOf, BetterItem, BetterCollateral, BetterGuarantee, better_number, restructuring_met, BetterTerms, OneChanged, OneMore, Better, Betterments}

-- the places are those of the fields that the paper names
abbrev at : List ℕ → List ℕ → List ℕ
at numbers places = map (λ k. get_or numbers k 0) places

pub collateral_named : (c : Collateral) →
    (at (collateral_fields c) collateral_places.higher ≡ c.amount ∷ c.residual ∷ c.original ∷ [])
    × ((at (collateral_fields c) (collateral_places.steps ++ collateral_places.currencies) ≡ c.asset.step ∷ c.currency ∷ [])
    × (at (collateral_fields c) collateral_places.conditions ≡ c.lawful ∷ c.unrelated ∷ c.not_in_rating ∷ c.listed ∷ []))
collateral_named c = (refl, (refl, refl))

pub guarantee_named : (g : Guarantee) →
    (at (guarantee_fields g) guarantee_places.higher ≡ g.amount ∷ g.residual ∷ g.original ∷ [])
    × ((at (guarantee_fields g) (guarantee_places.steps ++ guarantee_places.currencies) ≡ g.provider.step ∷ g.provider.sovereign_step ∷ g.currency ∷ [])
    × (at (guarantee_fields g) guarantee_places.conditions ≡ g.lawful ∷ g.direct ∷ g.not_in_rating ∷ []))
guarantee_named g = (refl, (refl, refl))

pub terms_named : (t : Terms) → at (terms_fields t) (interval_place ∷ lent_step_place ∷ []) ≡ t.interval ∷ t.lent.step ∷ []
terms_named t = refl

-- and nothing but the number in its place is changed
pub collateral_else : (c : Collateral) (new : ℕ) →
    (let places : List ℕ = collateral_places.higher ++ collateral_places.steps ++ collateral_places.currencies ++ collateral_places.conditions in
    map (λ k. collateral_fields (changed_collateral k new c)) places ≡ map (λ k. set (collateral_fields c) k new) places)
collateral_else c new = refl

pub guarantee_else : (g : Guarantee) (new : ℕ) →
    (let places : List ℕ = guarantee_places.higher ++ guarantee_places.steps ++ guarantee_places.currencies ++ guarantee_places.conditions in
    map (λ k. guarantee_fields (changed_guarantee k new g)) places ≡ map (λ k. set (guarantee_fields g) k new) places)
guarantee_else g new = refl

pub terms_else : (t : Terms) (new : ℕ) →
    map (λ k. terms_fields (changed_terms k new t)) (interval_place ∷ lent_step_place ∷ []) ≡ map (λ k. set (terms_fields t) k new) (interval_place ∷ lent_step_place ∷ [])
terms_else t new = refl

-- at any place of a list
changed_at : {A : Type 0} (Change : A → A → Type 0) (front back : List A) (old new : A) → Change old new →
    OneChanged Change (front ++ old ∷ back) (front ++ new ∷ back)
changed_at Change [] back old new c = OneChanged.here c
changed_at Change (x ∷ front) back old new c = OneChanged.later (changed_at Change front back old new c)

more_at : {A : Type 0} (front back : List A) (item : A) → OneMore (front ++ back) (front ++ item ∷ back)
more_at [] back item = OneMore.here
more_at (x ∷ front) back item = OneMore.later (more_at front back item)

abbrev view : Terms → List Collateral → List Guarantee → View
view t cs gs = record { terms = t; collateral = cs; guarantees = gs }

module _ (t : Terms) (gs : List Guarantee) (front back : List Collateral) (c : Collateral) where
  -- from the item to another in its place
  abbrev To : Collateral → Type 0
  To c' = Better (view t (front ++ c ∷ back) gs) (view t (front ++ c' ∷ back) gs)

  to : {c' : Collateral} → BetterCollateral t.currency c c' → To c'
  to {c'} b = Better.better_collateral (changed_at (BetterCollateral t.currency) front back c c' b)

  -- "a higher amount, residual term or original term of an item"
  pub collateral_amount : (new : ℕ) → c.amount < new → To (changed_collateral 0 new c)
  collateral_amount new h = to (BetterItem.higher OneOf.here new (omega arith))

  pub collateral_residual : (new : ℕ) → c.residual < new → To (changed_collateral 5 new c)
  collateral_residual new h = to (BetterItem.higher (OneOf.later OneOf.here) new (omega arith))

  pub collateral_original : (new : ℕ) → c.original < new → To (changed_collateral 6 new c)
  collateral_original new h = to (BetterItem.higher (OneOf.later (OneOf.later OneOf.here)) new (omega arith))

  -- "a smaller step, old and new both 1 to 6, of an item"
  pub collateral_step : (new : ℕ) → 1 ≤ new → new < c.asset.step → c.asset.step ≤ 6 → To (changed_collateral 2 new c)
  collateral_step new one less six = to (BetterItem.smaller_step OneOf.here new (omega arith))

  -- "an item's currency made the deal's"
  pub collateral_currency : To (changed_collateral 4 t.currency c)
  collateral_currency = to (BetterItem.deal_currency OneOf.here)

  -- "an item's condition from 0 to 1"
  pub collateral_lawful : c.lawful ≡ 0 → To (changed_collateral 7 1 c)
  collateral_lawful e = to (BetterItem.now_met OneOf.here e)

  pub collateral_unrelated : c.unrelated ≡ 0 → To (changed_collateral 8 1 c)
  collateral_unrelated e = to (BetterItem.now_met (OneOf.later OneOf.here) e)

  pub collateral_not_in_rating : c.not_in_rating ≡ 0 → To (changed_collateral 9 1 c)
  collateral_not_in_rating e = to (BetterItem.now_met (OneOf.later (OneOf.later OneOf.here)) e)

  pub collateral_listed : c.listed ≡ 0 → To (changed_collateral 10 1 c)
  collateral_listed e = to (BetterItem.now_met (OneOf.later (OneOf.later (OneOf.later OneOf.here))) e)

  -- "one more item, anywhere in its list"
  pub collateral_more : Better (view t (front ++ back) gs) (view t (front ++ c ∷ back) gs)
  collateral_more = Better.more_collateral (more_at front back c)

module _ (t : Terms) (cs : List Collateral) (front back : List Guarantee) (g : Guarantee) where
  abbrev GuaranteeTo : Guarantee → Type 0
  GuaranteeTo g' = Better (view t cs (front ++ g ∷ back)) (view t cs (front ++ g' ∷ back))

  guarantee_to : {g' : Guarantee} → BetterGuarantee t.currency g g' → GuaranteeTo g'
  guarantee_to {g'} b = Better.better_guarantee (changed_at (BetterGuarantee t.currency) front back g g' b)

  pub guarantee_amount : (new : ℕ) → g.amount < new → GuaranteeTo (changed_guarantee 0 new g)
  guarantee_amount new h = guarantee_to (better_number (BetterItem.higher OneOf.here new (omega arith)))

  pub guarantee_residual : (new : ℕ) → g.residual < new → GuaranteeTo (changed_guarantee 5 new g)
  guarantee_residual new h = guarantee_to (better_number (BetterItem.higher (OneOf.later OneOf.here) new (omega arith)))

  pub guarantee_original : (new : ℕ) → g.original < new → GuaranteeTo (changed_guarantee 6 new g)
  guarantee_original new h = guarantee_to (better_number (BetterItem.higher (OneOf.later (OneOf.later OneOf.here)) new (omega arith)))

  pub guarantee_step : (new : ℕ) → 1 ≤ new → new < g.provider.step → g.provider.step ≤ 6 → GuaranteeTo (changed_guarantee 2 new g)
  guarantee_step new one less six = guarantee_to (better_number (BetterItem.smaller_step OneOf.here new (omega arith)))

  -- "A better step of a guarantor's sovereign, between rated steps" (02: L5)
  pub guarantee_sovereign : (new : ℕ) → 1 ≤ new → new < g.provider.sovereign_step → g.provider.sovereign_step ≤ 6 → GuaranteeTo (changed_guarantee 3 new g)
  guarantee_sovereign new one less six = guarantee_to (better_number (BetterItem.smaller_step (OneOf.later OneOf.here) new (omega arith)))

  pub guarantee_currency : GuaranteeTo (changed_guarantee 4 t.currency g)
  guarantee_currency = guarantee_to (better_number (BetterItem.deal_currency OneOf.here))

  pub guarantee_lawful : g.lawful ≡ 0 → GuaranteeTo (changed_guarantee 7 1 g)
  guarantee_lawful e = guarantee_to (better_number (BetterItem.now_met OneOf.here e))

  pub guarantee_direct : g.direct ≡ 0 → GuaranteeTo (changed_guarantee 8 1 g)
  guarantee_direct e = guarantee_to (better_number (BetterItem.now_met (OneOf.later OneOf.here) e))

  pub guarantee_not_in_rating : g.not_in_rating ≡ 0 → GuaranteeTo (changed_guarantee 9 1 g)
  guarantee_not_in_rating e = guarantee_to (better_number (BetterItem.now_met (OneOf.later (OneOf.later OneOf.here)) e))

  -- "this condition": a swap's restructuring from 0 to 1 (02: L1)
  pub swap_restructuring : g.instrument ≡ swap_without_restructuring → GuaranteeTo (as_swap 1 g)
  swap_restructuring e = guarantee_to (restructuring_met e)

  -- one more guarantee, or swap
  pub guarantees_more : Better (view t cs (front ++ back)) (view t cs (front ++ g ∷ back))
  guarantees_more = Better.more_guarantees (more_at front back g)

module _ (t : Terms) (cs : List Collateral) (gs : List Guarantee) where
  -- "a smaller step .. of the goods lent"
  pub lent_step : (new : ℕ) → 1 ≤ new → new < t.lent.step → t.lent.step ≤ 6 → Better (view t cs gs) (view (changed_terms lent_step_place new t) cs gs)
  lent_step new one less six = Better.better_terms (BetterTerms.smaller_lent_step {t = t} new (omega arith))

  -- "a smaller interval"
  pub interval : (new : ℕ) → new < t.interval → Better (view t cs gs) (view (changed_terms interval_place new t) cs gs)
  interval new h = Better.better_terms (BetterTerms.smaller_interval {t = t} new (omega arith))

-- one betterment from a deal to any accepted record with the fields and items proposed, however it holds them
pub any_record : (d d' : Deal) → Better (view_of d) (view_of d') → accepted d' ≡ true → Betterments d d'
any_record d d' b e = Betterments.made b e Betterments.no_more

-- and none, where a record holds the same fields and items otherwise
pub any_holding : (d d' : Deal) → view_of d ≡ view_of d' → accepted d' ≡ true → Betterments d d'
any_holding d d' same e = Betterments.held_otherwise same e Betterments.no_more

-- one list behind another is a list
pub joined : {d e f : Deal} → Betterments d e → Betterments e f → Betterments d f
joined Betterments.no_more m = m
joined (Betterments.held_otherwise same a l) m = Betterments.held_otherwise same a (joined l m)
joined (Betterments.made b a l) m = Betterments.made b a (joined l m)
joined (Betterments.refused v b r l) m = Betterments.refused v b r (joined l m)

-- one refused
pub any_refused : (d : Deal) (v : View) → Better (view_of d) v → accepted_view v ≡ false → Betterments d d
any_refused d v b e = Betterments.refused v b e Betterments.no_more
