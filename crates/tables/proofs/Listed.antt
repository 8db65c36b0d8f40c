-- The goods that are eligible are all but those that document 01 lists under ground 24. Assumes nothing.
use Prim.Native.Nat.{ℕ, ◌≤◌}
use mathlib.Core.Path.{◌≡◌, refl, sym}
use mathlib.Core.Bool.{Bool, true, false, not}
use native.Mathlib.Omega.{arith}
use lib.Dec.{leb}
use borrow.Author.Tests.{le-leb}
use Rattle.base.specs.Range.{within}
use Rattle.base.proofs.Every.{every, implies, every_at, implied}
use Rattle.tables.specs.Eligibility.{eligible, bank_debt_eligible, equity_or_gold, excluded}
use Rattle.tables.specs.Table.{Goods}

abbrev unlike : Bool → Bool → Bool
unlike true b = not b
unlike false b = b

opposite : (a b : Bool) → unlike a b ≡ true → a ≡ not b
opposite true b e = sym e
opposite false true e = refl
opposite false false e = e

abbrev listed : ℕ → ℕ → ℕ → Bool
listed g s k = unlike (eligible g s k) (excluded g s k)

abbrev types : ℕ → Bool
types g = implies (leb 1 g) (every 7 (λ s. every 2 (listed g s)))

pub eligible_as_listed : (goods step k : ℕ) → Goods goods → step ≤ 6 → k ≤ 1 → eligible goods step k ≡ not (excluded goods step k)
unfolding eligible bank_debt_eligible equity_or_gold within excluded
eligible_as_listed g s k hg hs hk =
    opposite _ _
    (every_at 2 (listed g s)
    (every_at 7 (λ s. every 2 (listed g s)) (implied (leb 1 g) _ (every_at 10 types refl g (omega arith)) (le-leb 1 g hg.0)) s (omega arith)) k (omega arith))
