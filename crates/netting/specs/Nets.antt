-- Signed nets of a netting set. 02: L6, "Net each security and each currency other than settlement as a signed sum"; CRE22.72
use Rattle.std.specs.Prelude.{ℕ, Bool, List, ℤ, if◌then◌else◌}
use Rattle.base.specs.Sum.{sum_of}
use Rattle.signed.specs.Signed.{◌less◌}
use Rattle.netting.specs.Positions.{is_lent}
use Rattle.netting.specs.declared.position.Position.{Position}

-- a position's amount by side: 0 where it is on the other. A side that is neither is refused by 2
unfoldable pub lent : Position → ℕ
lent p = if is_lent p then p.amount else 0

unfoldable pub received : Position → ℕ
received p = if is_lent p then 0 else p.amount

-- a figure of what counts, 0 of the others
unfoldable pub only : {A : Type 0} → (A → Bool) → (A → ℕ) → A → ℕ
only counts figure x = if counts x then figure x else 0

-- what was lent less what was received, of the positions that count (`net_sum`: the sum of lent amounts with a plus and received ones with a minus)
unfoldable pub net : (Position → Bool) → List Position → ℤ
net counts ps = sum_of (only counts lent) ps less sum_of (only counts received) ps
