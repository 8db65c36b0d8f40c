-- Other ways to weigh would show the order of the pieces: two misreadings that 01 names, computed. Assumes nothing.
use Prim.Native.Nat.{ℕ, ◌+◌, ◌*◌, ◌-◌}
use mathlib.Core.Path.{◌≡◌, refl}
use mathlib.Core.List.{List, [], ◌∷◌}
use Rattle.base.specs.Rounding.{round_up}
use Rattle.base.specs.Sum.{sum_of}
use Rattle.cover.specs.Cover.{before, covered, covered_after, equal, lower_weighted, portion, uncovered, weighted_sum}
use Rattle.cover.specs.declared.protection.Protection.{Protection}
use Rattle.cover_laws.specs.ByHand.{sum_by_hand}
use Rattle.cover_laws.specs.Sorted.{insert, pass, sort}

abbrev piece : ℕ → ℕ → Protection
piece value weight = record { value = value; weight = weight }

-- 80 at 20 and 60 at 0, in both orders
abbrev heavy_first : List Protection
heavy_first = piece 80 20 ∷ piece 60 0 ∷ []

abbrev light_first : List Protection
light_first = piece 60 0 ∷ piece 80 20 ∷ []

-- 1 and 2 at 50, in both orders
abbrev small_first : List Protection
small_first = piece 1 50 ∷ piece 2 50 ∷ []

abbrev large_first : List Protection
large_first = piece 2 50 ∷ piece 1 50 ∷ []

-- "covering in order of arrival"; and with the rest at the weight of the first that arrived
abbrev by_arrival : ℕ → ℕ → List Protection → ℕ
by_arrival W E ps = sum_of (λ p. p.value * p.weight) (pass E ps) + (E - sum_of (λ p. p.value) ps) * W

abbrev first_weight : List Protection → ℕ
first_weight [] = 100
first_weight (p ∷ ps) = p.weight

-- "rounding each portion's weighted amount"
abbrev rounded_each : ℕ → ℕ → List Protection → ℕ
rounded_each W E ps = sum_of (λ p. round_up (p.value * p.weight) 100) (covered E ps) + round_up (uncovered E ps * W) 100

by_arrival_lem : by_arrival 100 100 heavy_first ∷ by_arrival 100 100 light_first ∷ [] ≡ 1600 ∷ 800 ∷ []
unfolding sum_of pass
by_arrival_lem = refl

at_first_weight : by_arrival (first_weight heavy_first) 200 heavy_first ∷ by_arrival (first_weight light_first) 200 light_first ∷ [] ≡ 2800 ∷ 1600 ∷ []
unfolding sum_of pass
at_first_weight = refl

rounded_each_lem : rounded_each 100 2 small_first ∷ rounded_each 100 2 large_first ∷ [] ≡ 2 ∷ 1 ∷ []
unfolding sum_of round_up covered covered_after portion before lower_weighted equal uncovered
rounded_each_lem = refl

-- the rule does not
by_the_rule :
    weighted_sum 100 100 heavy_first ∷ weighted_sum 100 100 light_first ∷ weighted_sum 100 200 heavy_first ∷ weighted_sum 100 200 light_first ∷ weighted_sum 100 2 small_first ∷ weighted_sum 100 2 large_first ∷ []
    ≡ 800 ∷ 800 ∷ 7600 ∷ 7600 ∷ 100 ∷ 100 ∷ []
unfolding weighted_sum sum_of covered covered_after portion before lower_weighted equal uncovered
by_the_rule = refl

pub worked_by_hand :
    sum_by_hand 100 100 heavy_first ∷ sum_by_hand 100 100 light_first ∷ sum_by_hand 100 200 heavy_first ∷ sum_by_hand 100 200 light_first ∷ sum_by_hand 100 2 small_first ∷ sum_by_hand 100 2 large_first ∷ []
    ≡ 800 ∷ 800 ∷ 7600 ∷ 7600 ∷ 100 ∷ 100 ∷ []
unfolding sum_by_hand sum_of pass sort insert round_up
worked_by_hand = refl
