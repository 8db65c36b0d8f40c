-- The amounts of positions whose fields are not refused. Assumes nothing.
use Prim.Native.Nat.{◌*◌, ◌≤◌}
use mathlib.Core.Path.{◌≡◌}
use mathlib.Core.List.{List, [], ◌∷◌}
use native.Mathlib.Omega.{arith}
use lib.ListN.{length}
use Rattle.base.specs.Each.{Each}
use Rattle.base.specs.FirstMet.{first_met}
use Rattle.base.specs.Sum.{sum_of}
use Rattle.netting.specs.Positions.{amount_of, fields_of_each}
use Rattle.netting.specs.declared.position.Position.{Position}
use Rattle.netting.proofs.Refusing.{PlainPosition, plain_positions}

plain_small : (ps : List Position) → Each PlainPosition ps → sum_of amount_of ps ≤ length ps * 1000000000000
unfolding sum_of
plain_small [] e = omega arith
plain_small (p ∷ ps) e = omega (arith, e.0.amount, plain_small ps e.1)

pub amounts_small : (ps : List Position) → first_met (fields_of_each ps) ≡ 0 → sum_of amount_of ps ≤ length ps * 1000000000000
amounts_small ps e = plain_small ps (plain_positions ps e)
