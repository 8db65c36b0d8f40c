-- A rule over a finite range, proved by one test that antt computes. Assumes nothing.
use Prim.Native.Nat.{ℕ, zero, suc, ◌<◌}
use mathlib.Core.Path.{◌≡◌, refl}
use mathlib.Core.Bool.{Bool, true, false, ◌&&◌}
use mathlib.Core.Logic.{⊎_elim}
use native.Mathlib.Nat.{eq-or-lt_of_le, le_of_suc-le-suc, not-suc-le-zero}
use Rattle.base.proofs.Choice.{never}

-- the test passes at each number below n
abbrev pub every : ℕ → (ℕ → Bool) → Bool
every zero test = true
every (suc n) test = test n && every n test

-- the second test passes where the first does
abbrev pub implies : Bool → Bool → Bool
implies true b = b
implies false b = true

pub both : (a b : Bool) → (a && b) ≡ true → (a ≡ true) × (b ≡ true)
both true b e = (refl, e)
both false b e = (e, absurd (never e refl))

pub implied : (a b : Bool) → implies a b ≡ true → a ≡ true → b ≡ true
implied true b e p = e
implied false b e p = absurd (never p refl)

pub every_at : (n : ℕ) (test : ℕ → Bool) → every n test ≡ true → (k : ℕ) → k < n → test k ≡ true
every_at zero test e k h = absurd (not-suc-le-zero h)
every_at (suc n) test e k h =
    ⊎_elim (λ q. rw q (both (test n) (every n test) e).0) (λ q. every_at n test (both (test n) (every n test) e).1 k q)
    (eq-or-lt_of_le (le_of_suc-le-suc h))
