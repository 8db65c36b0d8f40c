-- Betterments of a netting set, lists of them, and the claim about such a list. 02: L6, "A set's betterments are a larger received position, one more of
-- them and more frequent revaluation, each refused where the new set would be; without protection it keeps its lent positions alone"
use Rattle.std.specs.Prelude.{ℕ, ◌≤◌, ◌<◌, ◌≡◌, Bool, true, false, List, [], ◌∷◌, ◌++◌, eqb, length, if◌then◌else◌}
use Rattle.base.specs.Places.{in_places}
use Rattle.netting.specs.Fields.{zero_position}
use Rattle.netting.specs.Positions.{is_lent, received_side}
use Rattle.netting.specs.Refusals.{position_limit, set_refusal}
use Rattle.netting.specs.Reply.{positions_of, set_reply}
use Rattle.netting.specs.declared.position.Position.{Position}
use Rattle.netting.specs.declared.set.NettingSet.{NettingSet}
use Rattle.netting.specs.declared.terms.SetTerms.{SetTerms}

-- a set by its terms and its positions, however a record holds them; of a record that counts more positions than it has places, which is refused by 6, those in
-- its places
pub record SetView : Type 0 where
  pub terms : SetTerms
  pub positions : List Position

abbrev pub set_view_of : NettingSet → SetView
set_view_of s = record { terms = s.terms; positions = positions_of s }

-- an accepted set is one that is not refused
abbrev pub accepted_set : NettingSet → Bool
accepted_set s = eqb (set_reply s).refusal 0

-- and whether a set with these terms and positions would be one
unfoldable pub accepted_set_view : SetView → Bool
accepted_set_view v = eqb (set_refusal v.terms (length v.positions) v.positions) 0

-- a record that holds these terms and positions, at most 32; zeros in the places past them
abbrev pub set_with : SetTerms → List Position → NettingSet
set_with t ps = record { terms = t; positions = in_places position_limit zero_position ps; count = length ps }

-- one field changed, "all else unchanged" (00, demand 3)
abbrev pub with_amount : ℕ → Position → Position
with_amount new p = record { side = p.side; amount = new; security = p.security; asset = p.asset; currency = p.currency }

abbrev pub with_interval : ℕ → SetTerms → SetTerms
with_interval new t = record { table = t.table; counterparty = t.counterparty; settlement = t.settlement; interval = new }

-- A BETTERMENT: from a set to the set that is proposed
pub data BetterSet : SetView → SetView → Type 0 where
  -- "a larger received position", wherever it stands
  larger_received : {t : SetTerms} (before after : List Position) (p : Position) (new : ℕ) → p.side ≡ received_side → p.amount < new →
      BetterSet (record { terms = t; positions = before ++ p ∷ after }) (record { terms = t; positions = before ++ with_amount new p ∷ after })
  -- "one more of them", anywhere
  more_received : {t : SetTerms} (before after : List Position) (p : Position) → p.side ≡ received_side →
      BetterSet (record { terms = t; positions = before ++ after }) (record { terms = t; positions = before ++ p ∷ after })
  -- "more frequent revaluation"
  smaller_interval : {t : SetTerms} (ps : List Position) (new : ℕ) → new < t.interval →
      BetterSet (record { terms = t; positions = ps }) (record { terms = with_interval new t; positions = ps })

-- A LIST OF BETTERMENTS, from the set before it to the set after it; "each refused where the new set would be": the set then stays as it was and the next
-- one follows, as of a deal (01: Betterments)
pub data SetBetterments : NettingSet → NettingSet → Type 0 where
  no_more : {s : NettingSet} → SetBetterments s s
  -- no betterment: the same set, its record held otherwise
  held_otherwise : {s s' e : NettingSet} → set_view_of s ≡ set_view_of s' → accepted_set s' ≡ true → SetBetterments s' e → SetBetterments s e
  made : {s s' e : NettingSet} → BetterSet (set_view_of s) (set_view_of s') → accepted_set s' ≡ true → SetBetterments s' e → SetBetterments s e
  refused : {s e : NettingSet} (proposed : SetView) → BetterSet (set_view_of s) proposed → accepted_set_view proposed ≡ false → SetBetterments s e → SetBetterments s e

-- "without protection it keeps its lent positions alone", in their order
unfoldable pub lent_only : List Position → List Position
lent_only [] = []
lent_only (p ∷ ps) = if is_lent p then p ∷ lent_only ps else lent_only ps

abbrev pub lent_alone : NettingSet → NettingSet
lent_alone s = set_with s.terms (lent_only (positions_of s))

-- a figure after the list is no higher than before it, nor than that of the set as it then stands, with its lent positions alone
abbrev pub NoHigherFigure : (NettingSet → ℕ) → NettingSet → NettingSet → Type 0
NoHigherFigure figure before after = (figure after ≤ figure before) × (figure after ≤ figure (lent_alone after))

-- THE CLAIM, of a whole list of betterments: of the weighted amount, and of E*
abbrev pub SetNeverRaised : Type 0
SetNeverRaised = (before after : NettingSet) → accepted_set before ≡ true → SetBetterments before after →
    NoHigherFigure (λ s. (set_reply s).rwa) before after × NoHigherFigure (λ s. (set_reply s).exposure) before after
