-- The laws of choice by a test. Assumes nothing.
use Rattle.std.proofs.Common.{if◌then◌else◌}
use Prim.Native.Nat.{ℕ}
use mathlib.Core.Path.{◌≡◌, refl}
use mathlib.Core.Bool.{Bool, true, false}
use native.Mathlib.Omega.{arith}

pub if_true : {A : Type 0} (t : Bool) (a b : A) → t ≡ true → (if t then a else b) ≡ a
if_true t a b e = rw e

pub if_false : {A : Type 0} (t : Bool) (a b : A) → t ≡ false → (if t then a else b) ≡ b
if_false t a b e = rw e

-- a choice of what is put into a function
pub through : {A B : Type 0} (f : A → B) (t : Bool) (a b : A) → (if t then f a else f b) ≡ f (if t then a else b)
through f true a b = refl
through f false a b = refl

-- what holds of a where the test passes, and of b where it fails, holds of the choice
pub either : {A : Type 0} (P : A → Type 0) (t : Bool) {a b : A} → (t ≡ true → P a) → (t ≡ false → P b) → P (if t then a else b)
either P true p q = p refl
either P false p q = q refl

-- the same of two choices by one test
pub either₂ : {A : Type 0} (R : A → A → Type 0) (t : Bool) {a b c d : A} → (t ≡ true → R a c) → (t ≡ false → R b d) → R (if t then a else b) (if t then c else d)
either₂ R true p q = p refl
either₂ R false p q = q refl

-- no test both passes and fails
pub never : {t : Bool} → t ≡ true → t ≡ false → ⊥
never {t} p q = let z : ◌≡◌ {A = ℕ} 0 1 = cc in omega arith
