-- Bounds of the weighted sum, for it to fit; and the sum where nothing covers. Assumes nothing.
use Prim.Native.Nat.{ℕ, ◌*◌, ◌≤◌}
use mathlib.Core.Path.{◌≡◌, ap}
use mathlib.Core.List.{List, [], ◌∷◌}
use native.Mathlib.Nat.{mul-le-mul_left, mul-le-mul_right, le_trans}
use native.Mathlib.Omega.{arith}
use Rattle.base.specs.Sum.{sum_of}
use Rattle.cover.specs.Cover.{covered, covered_after, uncovered, weighted_sum}
use Rattle.base.specs.Each.{Each}
use Rattle.cover.specs.declared.protection.Protection.{Protection}
use Rattle.cover.proofs.Portions.{each_covered, conserved, portions_le}

-- nothing covers: all of E bears the counterparty's weight
all_left : (E : ℕ) → uncovered E [] ≡ E
unfolding uncovered sum_of
all_left E = omega arith

pub none_covers : (W E : ℕ) → weighted_sum W E [] ≡ E * W
unfolding weighted_sum covered covered_after sum_of
none_covers W E = omega (arith, ap (λ n. n * W) (all_left E))

weights_bound : (B : ℕ) (ps : List Protection) → Each (λ p. p.weight ≤ B) ps → sum_of (λ p. p.value * p.weight) ps ≤ sum_of (λ p. p.value) ps * B
unfolding sum_of
weights_bound B [] h = omega arith
weights_bound B (p ∷ ps) h = omega (arith, weights_bound B ps h.1, mul-le-mul_left p.value h.0)

-- where no piece weighs more than B
module _ (B E : ℕ) (ps : List Protection) (h : Each (λ p. p.weight ≤ B) ps) where
  covered_bound : sum_of (λ p. p.value * p.weight) (covered E ps) ≤ sum_of (λ p. p.value) (covered E ps) * B
  unfolding covered
  covered_bound = weights_bound B (covered E ps) (each_covered E ps (λ p. p.weight ≤ B) (λ earlier p q. q) [] ps h)

  -- the pieces alone, however heavy the counterparty
  pub pieces_bound : sum_of (λ p. p.value * p.weight) (covered E ps) ≤ E * B
  pieces_bound = le_trans covered_bound (mul-le-mul_right B (portions_le E ps))

  -- and with the rest, where the counterparty weighs no more either
  pub weighted_low : (W : ℕ) → W ≤ B → weighted_sum W E ps ≤ E * B
  unfolding weighted_sum
  weighted_low W le = omega (arith, covered_bound, mul-le-mul_left (uncovered E ps) le, ap (λ n. n * B) (conserved E ps))
