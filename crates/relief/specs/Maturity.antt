-- Maturity mismatches that leave an item out. 01: Grounds for leaving an item out, 25 and 26; CRE22.35, CRE22.99
use Rattle.std.specs.Prelude.{ℕ, Bool, ◌&&◌, leb, ltb}
use Rattle.valuation.specs.Protection.{is_mismatch}
use Rattle.deal.specs.declared.terms.Terms.{Terms}

-- "mismatch with original term under 360", a year
unfoldable pub short_original : Terms → ℕ → ℕ → Bool
short_original t residual original = is_mismatch residual t.residual && ltb original 360

-- "mismatch with residual term of 90 or less", three months
unfoldable pub short_residual : Terms → ℕ → Bool
short_residual t residual = is_mismatch residual t.residual && leb residual 90
