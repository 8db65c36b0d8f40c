-- Two texts are the same exactly if they are equal. Assumes nothing.
use Prim.Native.Nat.{ℕ}
use mathlib.Core.Path.{◌≡◌, refl}
use mathlib.Core.Bool.{true}
use mathlib.Core.List.{List, [], ◌∷◌}
use borrow.Author.Tests.{eqb-true, eq-eqb}
use lib.Dec.{eqb}
use lib.ListN.{length}
use Rattle.base.proofs.Choice.{never}
use Rattle.base.proofs.Every.{both}
use lib.Pointwise.{pointwise}
use Rattle.base.proofs.Compare.{eqb_turned}
use Rattle.std.specs.Prelude.{nat_eq, take}
use Rattle.text.specs.Text.{same_bytes, starts_with}

pub same_equal : (a b : List ℕ) → same_bytes a b ≡ true → a ≡ b
unfolding same_bytes
same_equal [] [] h = refl
same_equal [] (y ∷ ys) h = absurd (never h refl)
same_equal (x ∷ xs) [] h = absurd (never h refl)
same_equal (x ∷ xs) (y ∷ ys) h =
    let k = both (eqb x y) (same_bytes xs ys) h in
    rw (eqb-true x y k.0, same_equal xs ys k.1)

itself_same : (a : List ℕ) → same_bytes a a ≡ true
unfolding same_bytes
itself_same [] = refl
itself_same (x ∷ xs) = rw (eq-eqb x x refl, itself_same xs)

pub equal_same : (a b : List ℕ) → a ≡ b → same_bytes a b ≡ true
equal_same a b e = rw e (itself_same b)

-- as the library compares texts
pub same_told : (a b : List ℕ) → same_bytes a b ≡ pointwise nat_eq a b
unfolding same_bytes
same_told [] [] = refl
same_told [] (y ∷ ys) = refl
same_told (x ∷ xs) [] = refl
same_told (x ∷ xs) (y ∷ ys) = rw (same_told xs ys)

pub starts_told : (prefix text : List ℕ) → starts_with prefix text ≡ pointwise nat_eq prefix (take (length prefix) text)
unfolding starts_with
starts_told [] text = refl
starts_told (p ∷ ps) [] = refl
starts_told (p ∷ ps) (b ∷ bs) = rw (eqb_turned b p, starts_told ps bs)
