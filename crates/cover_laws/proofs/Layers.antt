-- The weighted sum by layers of weight. Assumes nothing.
use Prim.Native.Nat.{ℕ, zero, suc, ◌+◌, ◌*◌, ◌-◌, ◌<◌, ◌≤◌}
use mathlib.Core.Path.{◌≡◌, ap}
use mathlib.Core.List.{List, [], ◌∷◌, map}
use mathlib.Core.Logic.{inl, inr, ⊎_elim}
use native.Mathlib.Nat.{zero-sub}
use native.Mathlib.Omega.{arith}
use Rattle.base.proofs.EachElement.{each_map}
use Rattle.cover.specs.Cover.{lower_weighted, portion, covered, weighted_sum}
use Rattle.base.specs.Sum.{sum_below, sum_of}
use Rattle.cover_laws.specs.Layers.{LeftOutOrLowerWeighted, EachLowerWeighted, layers}
use Rattle.cover.specs.declared.protection.Protection.{Protection}
use Rattle.base.proofs.Compare.{side}
use Rattle.cover.proofs.Levels.{lower_weighted_in, lower_weighted_out}
use Rattle.cover.proofs.Portions.{each_covered, filled, conserved}
use Rattle.base.proofs.SumBelow.{below_add, below_eq, below_same}

pub within_map : {A : Type 0} (W : ℕ) (f : A → Protection) → ((x : A) → LeftOutOrLowerWeighted W (f x)) → (xs : List A) → EachLowerWeighted W (map f xs)
within_map W f h xs = each_map (LeftOutOrLowerWeighted W) f h xs

-- a piece counts in each layer from its weight up
piece_layers : (W : ℕ) (p : Protection) → sum_below W (λ l. lower_weighted (suc l) p) ≡ p.value * (W - p.weight)
unfolding sum_below
piece_layers zero p = rw zero-sub (omega arith)
piece_layers (suc W) p =
    ⊎_elim
    (λ (h : p.weight < suc W). let e : suc W - p.weight ≡ suc (W - p.weight) = omega arith in
    rw e (omega (arith, piece_layers W p, lower_weighted_in (suc W) p h)))
    (λ (h : suc W ≤ p.weight). let e : suc W - p.weight ≡ W - p.weight = omega arith in
    rw e (omega (arith, piece_layers W p, lower_weighted_out (suc W) p h)))
    (side p.weight (suc W))

-- at its own weight, and in the layers above that: together at W
piece_whole : (W : ℕ) (p : Protection) → LeftOutOrLowerWeighted W p → p.value * p.weight + p.value * (W - p.weight) ≡ p.value * W
piece_whole W p (inl z) = rw z (omega arith)
piece_whole W p (inr h) =
    let e : p.weight + (W - p.weight) ≡ W = omega arith in
    omega (arith, ap (λ x. p.value * x) e)

all_layers : (W : ℕ) (ps : List Protection) → EachLowerWeighted W ps →
    sum_of (λ p. p.value * p.weight) ps + sum_below W (λ l. sum_of (lower_weighted (suc l)) ps) ≡ sum_of (λ p. p.value) ps * W
unfolding sum_of
all_layers W [] h = omega (arith, below_same W 0)
all_layers W (p ∷ ps) h =
    omega (
      arith,
      all_layers W ps h.1,
      below_add W (λ l. lower_weighted (suc l) p) (λ l. sum_of (lower_weighted (suc l)) ps),
      piece_layers W p,
      piece_whole W p h.0,
    )

-- a piece covers no more than its value, so one that is left out covers nothing
module _ (E : ℕ) (all earlier : List Protection) (p : Protection) where
  pub portion_le : portion E all earlier p ≤ p.value
  unfolding portion
  portion_le = omega arith

  pub zero_covers_zero : p.value ≡ 0 → portion E all earlier p ≡ 0
  zero_covers_zero z = omega (arith, portion_le)

module _ (W E : ℕ) (ps : List Protection) where
  within_covered : EachLowerWeighted W ps → EachLowerWeighted W (covered E ps)
  unfolding covered
  within_covered h =
      each_covered E ps (LeftOutOrLowerWeighted W) (λ earlier p q. ⊎_elim (λ z. inl (zero_covers_zero E ps earlier p z)) (λ w. inr w) q) [] ps h

  pub weighted_layers : EachLowerWeighted W ps → weighted_sum W E ps ≡ layers W E ps
  unfolding weighted_sum
  weighted_layers h =
      omega (
        arith,
        all_layers W (covered E ps) (within_covered h),
        below_add W (λ l. sum_of (lower_weighted (suc l)) (covered E ps)) (λ l. E - sum_of (lower_weighted (suc l)) ps),
        below_eq W (λ l. sum_of (lower_weighted (suc l)) (covered E ps) + (E - sum_of (lower_weighted (suc l)) ps)) (λ l. E) (λ l k. filled E ps (suc l)),
        below_same W E,
        ap (λ x. x * W) (conserved E ps),
      )
