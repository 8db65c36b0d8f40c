-- A haircut H scaled to a holding period n. CRE22.64; 01: Haircuts in millionths, "Holding periods"
use Rattle.std.specs.Prelude.{ℕ, ◌*◌, ◌≤◌, Bool, leb}
use Rattle.base.specs.Least.{Least, least}

-- the meaning: h is "the least whole number h with 10 × h × h at or above H × H × n"
abbrev pub IsScaled : ℕ → ℕ → ℕ → Type 0
IsScaled H n = Least (λ h. H * H * n ≤ 10 * h * h)

-- the same as a test
abbrev pub enough : ℕ → ℕ → ℕ → Bool
enough H n h = leb (H * H * n) (10 * h * h)

-- a way to compute it: H * n is enough, so the least is sought up to it (`scaled_is`: IsScaled H n (scaled H n), for all H, n)
unfoldable pub scaled : ℕ → ℕ → ℕ
scaled H n = least (enough H n) (H * n)
