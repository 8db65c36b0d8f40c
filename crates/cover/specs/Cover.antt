-- Guarantees that cover an exposure E, which is the paper's E*. 01: From items to the weighted amount, 4 and 5; CRE22.90, CRE22.91(1)
use Rattle.std.specs.Prelude.{ℕ, ◌+◌, ◌*◌, ◌-◌, min, List, [], ◌∷◌, ◌++◌, map, ltb, eqb, if◌then◌else◌}
use Rattle.base.specs.Places.{in_places}
use Rattle.base.specs.Sum.{sum_of}
use Rattle.cover.specs.declared.protection.Protection.{Protection}
use Rattle.cover.specs.declared.protection.Cover.{Cover}

-- the value of a guarantee, or swap, that weighs less than w, and else 0; of one that weighs w, and else 0
unfoldable pub lower_weighted : ℕ → Protection → ℕ
lower_weighted w p = if ltb p.weight w then p.value else 0

unfoldable pub equal : ℕ → Protection → ℕ
equal w p = if eqb p.weight w then p.value else 0

-- "in rising order of provider weight, equal weights in order of adding": what covers before a guarantee of weight w is all that
-- weighs less, wherever it stands, and what weighs the same and was added earlier
unfoldable pub before : ℕ → List Protection → List Protection → ℕ
before w all earlier = sum_of (lower_weighted w) all + sum_of (equal w) earlier

-- "each up to its value": its portion of what those before it leave of E
unfoldable pub portion : ℕ → List Protection → List Protection → Protection → ℕ
portion E all earlier p = min p.value (E - before p.weight all earlier)

-- in order of adding, each with its weight, and its portion in place of its value
unfoldable pub covered_after : ℕ → List Protection → List Protection → List Protection → List Protection
covered_after E all earlier [] = []
covered_after E all earlier (p ∷ ps) =
    record { value = portion E all earlier p; weight = p.weight } ∷ covered_after E all (earlier ++ p ∷ []) ps

unfoldable pub covered : ℕ → List Protection → List Protection
covered E ps = covered_after E ps [] ps

abbrev pub portions : ℕ → List Protection → List ℕ
portions E ps = map (λ p. p.value) (covered E ps)

-- the uncovered rest (`conserved`: the portions and the rest make up E)
unfoldable pub uncovered : ℕ → List Protection → ℕ
uncovered E ps = E - sum_of (λ p. p.value) ps

-- "the sum of portion × weight"; "The rest bears the counterparty's weight" W
unfoldable pub weighted_sum : ℕ → ℕ → List Protection → ℕ
weighted_sum W E ps = sum_of (λ p. p.value * p.weight) (covered E ps) + uncovered E ps * W

-- all of it, as the program gives it
abbrev pub cover_of : ℕ → ℕ → List Protection → Cover
cover_of W E ps = record { portions = in_places 16 0 (portions E ps); uncovered = uncovered E ps; weighted_sum = weighted_sum W E ps }
