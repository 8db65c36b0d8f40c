-- The laws of the least number that passes a test. Assumes nothing.
use Prim.Native.Nat.{ℕ, zero, suc, ◌+◌, ◌/◌, ◌≤◌, ◌<◌}
use mathlib.Core.Path.{◌≡◌, refl}
use mathlib.Core.Bool.{Bool, true, false}
use native.Mathlib.Omega.{arith}
use lib.Dec.{leb}
use borrow.Author.Tests.{leb-true, leb-false}
use Rattle.base.specs.Least.{Least, between, least}
use Rattle.base.proofs.Choice.{either, never}

-- the least number that is at least 5
at_least_five : least (leb 5) 9 ≡ 5
unfolding least between
at_least_five = refl

-- where a second condition implies the first, its least number is no smaller
pub least_mono : {P Q : ℕ → Type 0} {h k : ℕ} → ((n : ℕ) → Q n → P n) → Least P h → Least Q k → h ≤ k
least_mono f p q = p.lowest _ (f _ q.passes)

pub least_unique : {P : ℕ → Type 0} {h k : ℕ} → Least P h → Least P k → h ≡ k
least_unique p q = omega (arith, p.lowest _ q.passes, q.lowest _ p.passes)

module _ (test : ℕ → Bool) (stays : (i j : ℕ) → i ≤ j → test i ≡ true → test j ≡ true) where
  -- what passes lies above what fails
  above : (low k : ℕ) → test low ≡ false → test k ≡ true → low < k
  above low k f p = go (leb k low) refl
    where
      go : (b : Bool) → leb k low ≡ b → low < k
      go true e = absurd (never (stays k low (leb-true k low e) p) f)
      go false e = leb-false k low e

  found : (fuel low high : ℕ) → test low ≡ false → test high ≡ true → high ≤ low + fuel → Least (λ j. test j ≡ true) (between test fuel low high)
  unfolding between
  found zero low high f p h = absurd (never (stays high low (omega arith) p) f)
  found (suc fuel) low high f p h =
      either (Least (λ j. test j ≡ true)) (leb high (suc low))
      (λ e. record { passes = p; lowest = λ k q. omega (arith, above low k f q, leb-true high (suc low) e) })
      (λ e. either (Least (λ j. test j ≡ true)) (test ((low + high) / 2))
      (λ t. found fuel low ((low + high) / 2) f t (omega (arith, leb-false high (suc low) e)))
      (λ t. found fuel ((low + high) / 2) high t p (omega (arith, leb-false high (suc low) e))))

  -- `least` is the least
  pub least_is : (high : ℕ) → test high ≡ true → Least (λ j. test j ≡ true) (least test high)
  unfolding least
  least_is high p =
      either (Least (λ j. test j ≡ true)) (test 0)
      (λ e. record { passes = e; lowest = λ k q. omega arith })
      (λ e. found high 0 high e p (omega arith))
