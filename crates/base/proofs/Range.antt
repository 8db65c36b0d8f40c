-- What a range test comes to. Assumes nothing.
use Prim.Native.Nat.{ℕ, ◌≤◌, ◌<◌}
use mathlib.Core.Path.{◌≡◌}
use mathlib.Core.Bool.{true, false}
use lib.Dec.{leb}
use borrow.Author.Tests.{le-leb, lt-leb, leb-true}
use Rattle.base.specs.Range.{within}
use Rattle.base.proofs.Every.{both}

module _ (first last x : ℕ) where
  pub inside : first ≤ x → x ≤ last → within first last x ≡ true
  unfolding within
  inside h k = simp (le-leb first x h, le-leb x last k)

  pub under : x < first → within first last x ≡ false
  unfolding within
  under h = simp (lt-leb first x h)

  pub over : first ≤ x → last < x → within first last x ≡ false
  unfolding within
  over h k = simp (le-leb first x h, lt-leb x last k)

  pub bounds : within first last x ≡ true → (first ≤ x) × (x ≤ last)
  unfolding within
  bounds e =
      let b = both (leb first x) (leb x last) e in
      (leb-true first x b.0, leb-true x last b.1)
