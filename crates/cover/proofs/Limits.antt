-- What the limits on the figures come to. Assumes nothing.
use Prim.Native.Nat.{ℕ, zero, suc, ◌≤◌, ◌<◌}
use mathlib.Core.Path.{◌≡◌}
use mathlib.Core.Bool.{true}
use mathlib.Core.List.{List, [], ◌∷◌}
use native.Mathlib.Nat.{le_of_suc-le-suc, not-suc-le-zero}
use lib.Dec.{leb}
use lib.ListN.{length, get_or}
use borrow.Author.Tests.{leb-true}
use Rattle.base.specs.All.{all_pass}
use Rattle.base.proofs.Every.{both}
use Rattle.base.specs.Each.{Each}
use Rattle.cover.specs.Limits.{within_limits}
use Rattle.cover.specs.declared.protection.Protection.{Protection}

pub small_bounds : (p : Protection) → within_limits p ≡ true → (p.value ≤ 1000000000000) × (p.weight ≤ 1000)
unfolding within_limits
small_bounds p e =
    let b = both (leb p.value 1000000000000) (leb p.weight 1000) e in
    (leb-true p.value 1000000000000 b.0, leb-true p.weight 1000 b.1)

pub each_small : (ps : List Protection) → all_pass ps within_limits ≡ true → Each (λ p. p.weight ≤ 1000) ps
each_small [] e = tt
each_small (p ∷ ps) e = let b = both (within_limits p) (all_pass ps within_limits) e in ((small_bounds p b.0).1, each_small ps b.1)

pub small_at : (ps : List Protection) (i : ℕ) (d : Protection) → i < length ps → all_pass ps within_limits ≡ true →
    ((get_or ps i d).value ≤ 1000000000000) × ((get_or ps i d).weight ≤ 1000)
small_at [] i d h e = absurd (not-suc-le-zero h)
small_at (p ∷ ps) zero d h e = small_bounds p (both (within_limits p) (all_pass ps within_limits) e).0
small_at (p ∷ ps) (suc i) d h e = small_at ps i d (le_of_suc-le-suc h) (both (within_limits p) (all_pass ps within_limits) e).1
