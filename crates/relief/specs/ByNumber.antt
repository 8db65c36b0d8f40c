-- The items of a report by the paper's numbers alone. 01: Reporting a deal, "for each item either its value or its ground"; Grounds for
-- leaving an item out; 02: L2
use Rattle.std.specs.Prelude.{ℕ, List, [], map, eqb, if◌then◌else◌}
use Rattle.base.specs.Places.{in_places}
use Rattle.valuation.specs.Valuation.{no_valuation}
use Rattle.valuation.specs.declared.protection.Valuation.{Valuation}
use Rattle.deal.specs.Records.{accepted}
use Rattle.deal.specs.Editions.{table_for}
use Rattle.deal.specs.Lists.{list_limit}
use Rattle.deal.specs.Views.{view_of}
use Rattle.deal.specs.declared.deal.Deal.{Deal}
use Rattle.relief.specs.declared.outcome.Outcome.{Outcome}
use Rattle.relief.specs.Outcomes.{outcome_ground, outcome_left_out, outcome_valuation}
use Rattle.relief.specs.Collateral.{collateral_ground, collateral_valuation}
use Rattle.relief.specs.Guarantees.{guarantee_ground, guarantee_valuation}

-- a place: its ground's number, 0 for none; its value and losses; and the amount left out. (A guarantee's portion is a number of the report already)
pub record Place : Type 0 where
  pub ground' : ℕ
  pub valuation : Valuation
  pub left_out : ℕ

abbrev pub place_of : Outcome → Place
place_of o = record { ground' = outcome_ground o; valuation = outcome_valuation o; left_out = outcome_left_out o }

-- of an item with this ground, amount and valuation: "A left-out item reports its whole amount as left out and no loss", and its value is 0
unfoldable pub place_with : ℕ → ℕ → Valuation → Place
place_with ground' amount valuation =
    if eqb ground' 0
    then record { ground' = 0; valuation = valuation; left_out = 0 }
    else record { ground' = ground'; valuation = no_valuation; left_out = amount }

-- "places past a count hold 0 in all of these"
abbrev pub no_place : Place
no_place = record { ground' = 0; valuation = no_valuation; left_out = 0 }

-- every place of a deal's collateral: all 0 past the count, and everywhere beside a 40
unfoldable pub collateral_by_number : Deal → List Place
collateral_by_number d =
    let t = d.terms in
    let items = map (λ c. place_with (collateral_ground (table_for t) t c) c.amount (collateral_valuation (table_for t) t c)) (view_of d).collateral in
    in_places list_limit no_place (if accepted d then items else [])

-- and of its guarantees
unfoldable pub guarantees_by_number : Deal → List Place
guarantees_by_number d =
    let t = d.terms in
    let items = map (λ g. place_with (guarantee_ground (table_for t) t g) g.amount (guarantee_valuation t g)) (view_of d).guarantees in
    in_places list_limit no_place (if accepted d then items else [])
