-- Signed numbers on the machine. A signed local holds bits, which an operation reads by `to_z w64` and writes by `of_z w64`. Assumes nothing.
use Prim.Native.Nat.{ℕ, ◌+◌, ◌*◌, ◌<◌, ◌^◌}
use mathlib.Core.Path.{◌≡◌, refl, sym, ap, subst, ◌∙◌}
use mathlib.Core.Bool.{false}
use lib.IntN.{ℤ, pos, negsuc, nat_abs, ◌+ℤ◌, ◌-ℤ◌, ◌*ℤ◌}
use lib.Signed.{lt_z}
use mir.Syntax.{w64}
use mir.Val.{SFits, to_z, of_z}
use mir.Facts as facts
use Rattle.base.proofs.Choice.{never}
use Rattle.signed.specs.Signed.{◌less◌}
use Rattle.signed.proofs.Less.{less_fits, less_add, less_sub, less_mul}

-- bits that were written are read again
pub back : (z : ℤ) → SFits w64 z → to_z w64 (of_z w64 z) ≡ z
back z f = facts.to_z-of_z f

-- an unsigned number that fits keeps its bits as a signed one
pub cast_reads : (n : ℕ) → n < 2 ^ 63 → to_z w64 n ≡ pos n
cast_reads n h = facts.to_z_pos w64 h

-- what an operation gives, where that is a less b: it fits, and it is read again
module _ (z : ℤ) (a b : ℕ) (e : z ≡ a less b) (h : a < 2 ^ 63) (k : b < 2 ^ 63) where
  pub fits : SFits w64 z
  fits = subst (SFits w64) (sym e) (less_fits a b h k)

  pub reads : to_z w64 (of_z w64 z) ≡ a less b
  reads = back z fits ∙ e

pub added : (x y : ℤ) (a b c d : ℕ) → x ≡ a less b → y ≡ c less d → x +ℤ y ≡ (a + c) less (b + d)
added x y a b c d e f = ap (λ z. z +ℤ y) e ∙ ap (λ z. (a less b) +ℤ z) f ∙ less_add a b c d

pub subtracted : (x y : ℤ) (a b c d : ℕ) → x ≡ a less b → y ≡ c less d → x -ℤ y ≡ (a + d) less (b + c)
subtracted x y a b c d e f = ap (λ z. z -ℤ y) e ∙ ap (λ z. (a less b) -ℤ z) f ∙ less_sub a b c d

pub times : (x : ℤ) (a b m : ℕ) → x ≡ a less b → x *ℤ pos m ≡ (a * m) less (b * m)
times x a b m e = ap (λ z. z *ℤ pos m) e ∙ less_mul a b m

-- a number that is not below 0
pub not_negative : (z : ℤ) → lt_z z (pos 0) ≡ false → z ≡ pos (nat_abs z)
not_negative (pos n) t = refl
not_negative (negsuc n) t = absurd (never refl t)

pub pos_fits : (n : ℕ) → n < 2 ^ 63 → SFits w64 (pos n)
pos_fits n h = record { sfits = h }
