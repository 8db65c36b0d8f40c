-- The add-ons of a netting set by number: the sum over every security, and over every currency. 02: L6, "each absolute security net times its haircut,
-- plus each absolute currency net times the currency haircut". The contracts say them by positions (netting/specs/Exposure); of an accepted set both say
-- the same (`by_security`, `by_currency`)
use Rattle.std.specs.Prelude.{ℕ, suc, ◌*◌, List, [], ◌∷◌, eqb, nat_abs, if◌then◌else◌}
use Rattle.base.specs.Sum.{sum_below}
use Rattle.netting.specs.Groups.{member}
use Rattle.netting.specs.Nets.{net}
use Rattle.netting.specs.declared.group.Group.{Group}
use Rattle.netting.specs.declared.position.Position.{Position}

-- the sum over the numbers 1 to 999, of securities and of currencies alike
abbrev pub sum_of_numbers : (ℕ → ℕ) → ℕ
sum_of_numbers figure = sum_below 999 (λ k. figure (suc k))

-- the haircut of a security: that of the first entry for it, with which all agree (refusal 15); 0 of one that has none
unfoldable pub haircut_for : (Position → ℕ) → List Position → ℕ → ℕ
haircut_for haircut [] security = 0
haircut_for haircut (p ∷ ps) security = if eqb p.security security then haircut p else haircut_for haircut ps security

-- E_s × H_s
abbrev pub of_security : (Position → ℕ) → List Position → ℕ → ℕ
of_security haircut ps security = nat_abs (net (member (Group.Security security)) ps) * haircut_for haircut ps security

-- E_fx × H_fx, of currencies other than settlement
abbrev pub of_currency : ℕ → ℕ → List Position → ℕ → ℕ
of_currency settlement fx ps currency = if eqb currency settlement then 0 else nat_abs (net (member (Group.Currency currency)) ps) * fx
