-- The weighted sum as one would work it out by hand. `by_hand` proves that it is `weighted_sum`. 01: From items to the weighted amount, 4 and 5
use Rattle.std.specs.Prelude.{ℕ, ◌+◌, ◌*◌, ◌-◌, List}
use Rattle.base.specs.Sum.{sum_of}
use Rattle.cover.specs.declared.protection.Protection.{Protection}
use Rattle.cover_laws.specs.Sorted.{pass, sort}

-- the pieces put "in rising order of provider weight, equal weights in order of adding", and passed along, "each up to its value"; "portion ×
-- weight" of each; "The rest bears the counterparty's weight" W. No portion is rounded by itself
unfoldable pub sum_by_hand : ℕ → ℕ → List Protection → ℕ
sum_by_hand W E ps = sum_of (λ p. p.value * p.weight) (pass E (sort ps)) + (E - sum_of (λ p. p.value) ps) * W
