-- The refusals that fields meet, in their order. 01: The four operations, Opening a deal, Adding an item
use Rattle.std.specs.Prelude.{ℕ, not, List, [], ◌∷◌}
use Rattle.base.specs.FirstMet.{Test, ◌when◌}
use Rattle.deal.specs.declared.checks.FieldChecks.{FieldChecks}

-- of fields, where each entry is true if they are as they should be: "1 amount over the limit; 2 unknown class, kind or type" or edition (02:
-- L5); "3 step above 6, or not 0 where 0 is due", the step of a sovereign too ("(A wrong entry is 3.)"); "4 currency; 5 interval, term or
-- issue life outside its range"; of an item besides "7 residual term above original; 8 a condition neither 0 nor 1". Of a netting
-- set and its positions besides 2 unknown table or side, 5 security number (02: L6)
abbrev pub field_tests : FieldChecks → List (Test ℕ)
field_tests c =
    1 when not c.amount
    ∷ 2 when not c.codes
    ∷ 3 when not c.steps
    ∷ 4 when not c.currency
    ∷ 5 when not c.ranges
    ∷ 7 when not c.maturity
    ∷ 8 when not c.conditions
    ∷ []
