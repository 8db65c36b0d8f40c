-- Worked examples, computed from the definitions. Assumes nothing.
use Prim.Native.Nat.{ℕ, ◌+◌, ◌*◌}
use mathlib.Core.Path.{◌≡◌, refl}
use mathlib.Core.List.{List, [], ◌∷◌}
use Rattle.base.specs.Sum.{sum_of}
use Rattle.cover.specs.Cover.{lower_weighted, equal, before, portion, covered_after, covered, portions, uncovered, weighted_sum}
use Rattle.cover.specs.declared.protection.Protection.{Protection}

infix 80 ◌at◌
abbrev ◌at◌ : ℕ → ℕ → Protection
v at w = record { value = v; weight = w }

-- the later piece is lower-weighted, and covers first
abbrev later_lower_weighted : List Protection
later_lower_weighted = 80 at 20 ∷ 60 at 0 ∷ []

pub later_lower_weighted_portions : portions 100 later_lower_weighted ≡ 40 ∷ 60 ∷ []
unfolding covered covered_after portion before lower_weighted equal sum_of
later_lower_weighted_portions = refl

later_lower_weighted_uncovered : uncovered 100 later_lower_weighted ≡ 0
unfolding uncovered sum_of
later_lower_weighted_uncovered = refl

later_lower_weighted_sum : weighted_sum 100 100 later_lower_weighted ≡ 800
unfolding weighted_sum covered covered_after portion before uncovered lower_weighted equal sum_of
later_lower_weighted_sum = refl

-- equal weights: the earlier piece covers first, and the rest bears the counterparty's weight
abbrev two_equal : List Protection
two_equal = 30 at 50 ∷ 10 at 20 ∷ 80 at 50 ∷ []

pub two_equal_portions : portions 100 two_equal ≡ 30 ∷ 10 ∷ 60 ∷ []
unfolding covered covered_after portion before lower_weighted equal sum_of
two_equal_portions = refl

two_equal_sum : weighted_sum 150 130 two_equal ≡ 30 * 50 + 10 * 20 + 80 * 50 + 10 * 150
unfolding weighted_sum covered covered_after portion before uncovered lower_weighted equal sum_of
two_equal_sum = refl

-- the sum is not rounded, portion by portion or at all
pub unrounded : weighted_sum 100 3 (1 at 50 ∷ 1 at 20 ∷ []) ≡ 170
unfolding weighted_sum covered covered_after portion before uncovered lower_weighted equal sum_of
unrounded = refl
