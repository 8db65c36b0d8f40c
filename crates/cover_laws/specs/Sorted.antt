-- Cover as one would do it by hand: sort, then pass along. `in_rising_order` proves that `covered`, sorted, is this.
use Rattle.std.specs.Prelude.{ℕ, ◌-◌, ◌≤◌, min, List, [], ◌∷◌, leb, eqb, if◌then◌else◌}
use Rattle.base.specs.Each.{Each}
use Rattle.cover.specs.declared.protection.Protection.{Protection}

-- p was added before all of these: it goes before those of its own weight
unfoldable pub insert : Protection → List Protection → List Protection
insert p [] = p ∷ []
insert p (q ∷ qs) = if leb p.weight q.weight then p ∷ q ∷ qs else q ∷ insert p qs

-- in rising order of weight, equal weights in order of adding
unfoldable pub sort : List Protection → List Protection
sort [] = []
sort (p ∷ ps) = insert p (sort ps)

-- what such an order is: no piece is lower-weighted than one before it (`rising_sort`) ..
unfoldable pub Rising : List Protection → Type 0
Rising [] = Unit {0}
Rising (p ∷ ps) = Each (λ q. p.weight ≤ q.weight) ps × Rising ps

-- .. and the pieces of each weight are the same, in the same order (`sort_keeps`)
unfoldable pub of_weight : ℕ → List Protection → List Protection
of_weight w [] = []
of_weight w (p ∷ ps) = if eqb p.weight w then p ∷ of_weight w ps else of_weight w ps

-- each in turn covers of E what it can, and the next goes on with what is left
unfoldable pub pass : ℕ → List Protection → List Protection
pass E [] = []
pass E (p ∷ ps) = record { value = min p.value E; weight = p.weight } ∷ pass (E - p.value) ps
