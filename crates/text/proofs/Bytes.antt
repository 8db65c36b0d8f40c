-- A test of all bytes. Assumes nothing.
use Prim.Native.Nat.{ℕ}
use mathlib.Core.Bool.{Bool, beq}
use lib.Dec.{eqb}
use Rattle.base.proofs.Every.{every}

-- of all bytes this one alone passes
abbrev pub only : ℕ → (ℕ → Bool) → Bool
only n test = every 256 (λ b. beq (test b) (eqb b n))
