-- What weighs less than w, what weighs w, and how the two add up from weight to weight. Assumes nothing.
use Prim.Native.Nat.{ℕ, suc, ◌+◌, ◌≤◌, ◌<◌, max}
use mathlib.Core.Path.{◌≡◌, refl}
use mathlib.Core.List.{List, [], ◌∷◌, ◌++◌}
use mathlib.Core.Logic.{⊎_elim, ◌≢◌}
use native.Mathlib.Decide.{ℕ_discrete}
use native.Mathlib.Omega.{arith}
use borrow.Author.Tests.{lt-ltb, le-ltb, eq-eqb, ne_eqb}
use Rattle.base.specs.Sum.{sum_of}
use Rattle.base.proofs.Compare.{side}
use Rattle.base.proofs.Sum.{sum_append}
use Rattle.cover.specs.Cover.{lower_weighted, equal, before}
use Rattle.cover.specs.declared.protection.Protection.{Protection}

-- the worked examples are checked before the laws

module _ (w : ℕ) (p : Protection) where
  pub lower_weighted_in : p.weight < w → lower_weighted w p ≡ p.value
  unfolding lower_weighted
  lower_weighted_in h = rw (lt-ltb p.weight w h)

  pub lower_weighted_out : w ≤ p.weight → lower_weighted w p ≡ 0
  unfolding lower_weighted
  lower_weighted_out h = rw (le-ltb p.weight w h)

  pub lower_weighted_le : lower_weighted w p ≤ p.value
  lower_weighted_le = ⊎_elim (λ h. omega (arith, lower_weighted_in h)) (λ h. omega (arith, lower_weighted_out h)) (side p.weight w)

  pub equal_in : p.weight ≡ w → equal w p ≡ p.value
  unfolding equal
  equal_in h = rw (eq-eqb p.weight w h)

  pub equal_out : p.weight ≢ w → equal w p ≡ 0
  unfolding equal
  equal_out h = rw (ne_eqb p.weight w h)

-- what weighs at most w weighs less, or as much
pub lower_weighted_next : (w : ℕ) (p : Protection) → lower_weighted (suc w) p ≡ lower_weighted w p + equal w p
lower_weighted_next w p = go (ℕ_discrete p.weight w)
  where
    go : Dec (p.weight ≡ w) → lower_weighted (suc w) p ≡ lower_weighted w p + equal w p
    go (yes e) = omega (arith, equal_in w p e, lower_weighted_in (suc w) p (omega arith), lower_weighted_out w p (omega arith))
    go (no n) =
        ⊎_elim (λ h. omega (arith, equal_out w p n, lower_weighted_in (suc w) p (omega arith), lower_weighted_in w p h))
        (λ h. omega (arith, equal_out w p n, lower_weighted_out (suc w) p (omega arith), lower_weighted_out w p h)) (side p.weight w)

pub level_next : (w : ℕ) (ps : List Protection) → sum_of (lower_weighted (suc w)) ps ≡ sum_of (lower_weighted w) ps + sum_of (equal w) ps
unfolding sum_of
level_next w [] = refl
level_next w (p ∷ ps) = omega (arith, level_next w ps, lower_weighted_next w p)

pub level_zero : (ps : List Protection) → sum_of (lower_weighted 0) ps ≡ 0
unfolding sum_of
level_zero [] = refl
level_zero (p ∷ ps) = omega (arith, level_zero ps, lower_weighted_out 0 p (omega arith))

-- above the heaviest piece everything counts
unfoldable pub top : List Protection → ℕ
top [] = 0
top (p ∷ ps) = max (suc p.weight) (top ps)

pub level_top : (w : ℕ) (ps : List Protection) → top ps ≤ w → sum_of (lower_weighted w) ps ≡ sum_of (λ p. p.value) ps
unfolding sum_of top
level_top w [] h = refl
level_top w (p ∷ ps) h = omega (arith, level_top w ps (omega arith), lower_weighted_in w p (omega arith))

-- before the first piece of a weight stand the lower-weighted ones
pub before_none : (w : ℕ) (all : List Protection) → before w all [] ≡ sum_of (lower_weighted w) all
unfolding before sum_of
before_none w all = omega arith

-- one piece more was added earlier
pub before_next : (w : ℕ) (all earlier : List Protection) (p : Protection) → before w all (earlier ++ p ∷ []) ≡ before w all earlier + equal w p
unfolding before sum_of
before_next w all earlier p = omega (arith, sum_append (equal w) earlier (p ∷ []))
