-- What is reported of an item: "either its value or its ground" (01: Reporting a deal), and where its amount went (02: L2)
use Rattle.std.specs.Prelude.{ℕ, eqb, if◌then◌else◌}
use Rattle.valuation.specs.Valuation.{no_valuation}
use Rattle.valuation.specs.declared.protection.Valuation.{Valuation}
use Rattle.relief.specs.declared.outcome.Outcome.{Outcome}
use Rattle.relief.specs.declared.outcome.Outcome.TheVariants.{Valued, LeftOut}
use Rattle.relief.specs.Grounds.{ground_number, ground_with}

-- "A left-out item has value 0" (01), and reports "no loss" (02: L2)
unfoldable pub outcome_valuation : Outcome → Valuation
outcome_valuation (Valued valuation) = valuation
outcome_valuation (LeftOut ground' amount) = no_valuation

abbrev pub outcome_value : Outcome → ℕ
outcome_value o = (outcome_valuation o).value

-- "A left-out item reports its whole amount as left out"; nothing where it is valued
unfoldable pub outcome_left_out : Outcome → ℕ
outcome_left_out (Valued valuation) = 0
outcome_left_out (LeftOut ground' amount) = amount

-- the number of its ground, 0 where it is valued
unfoldable pub outcome_ground : Outcome → ℕ
outcome_ground (Valued valuation) = 0
outcome_ground (LeftOut ground' amount) = ground_number ground'

-- of an item with this ground, which is 0 for none, this amount, and this valuation where it has no ground
unfoldable pub outcome_for : ℕ → ℕ → Valuation → Outcome
outcome_for ground' amount valuation = if eqb ground' 0 then Valued valuation else LeftOut (ground_with ground') amount
