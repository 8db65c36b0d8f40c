-- A step that has to be 0, or at most the last one, compared with the highest that it may be. Assumes nothing.
use Rattle.std.proofs.Common.{if◌then◌else◌}
use Prim.Native.Nat.{ℕ, zero, suc}
use mathlib.Core.Path.{◌≡◌, refl, sym, ◌∙◌}
use mathlib.Core.Bool.{Bool, true, false}
use native.Mathlib.Omega.{arith}
use borrow.Author.Tests.{lt-leb, ne_eqb}
use lib.Dec.{eqb, leb}

at_most_0 : (step : ℕ) → leb step 0 ≡ eqb step 0
at_most_0 zero = refl
at_most_0 (suc step) = lt-leb (suc step) 0 (omega arith) ∙ sym (ne_eqb (suc step) 0 (λ e. omega arith))

pub at_most_highest : (zero : Bool) (step highest : ℕ) → highest ≡ (if zero then 0 else 6) → leb step highest ≡ (if zero then eqb step 0 else leb step 6)
at_most_highest true step highest e = rw e (at_most_0 step)
at_most_highest false step highest e = rw e
