-- E* of a netting set. 02: L6; CRE22.72, E* = max {0, [Σ E − Σ C + Σ (E_s × H_s) + Σ (E_fx × H_fx)]}. Haircuts are scaled, in millionths: `haircut p` is
-- that of a position's security, fx that of currencies, `settlement` the settlement currency
use Rattle.std.specs.Prelude.{ℕ, ◌+◌, ◌*◌, min, List, eqb, ℤ, nat_abs, if◌then◌else◌}
use Rattle.base.specs.Sum.{sum_of}
use Rattle.signed.specs.Signed.{◌less◌, at_least_zero, ceiling}
use Rattle.netting.specs.Groups.{member}
use Rattle.netting.specs.Haircuts.{currency_haircut_over, security_haircut}
use Rattle.netting.specs.Nets.{lent, net, received}
use Rattle.netting.specs.Once.{sum_once}
use Rattle.netting.specs.declared.group.Group.{Group}
use Rattle.netting.specs.declared.position.Position.{Position}
use Rattle.netting.specs.declared.terms.SetTerms.{SetTerms}

abbrev pub security_of : Position → ℕ
security_of p = p.security

abbrev pub currency_of : Position → ℕ
currency_of p = p.currency

-- "each absolute security net times its haircut"; "Cash has no security net": its security number is 0
unfoldable pub security_figure : (Position → ℕ) → List Position → Position → ℕ
security_figure haircut ps p = if eqb p.security 0 then 0 else nat_abs (net (member (Group.Security p.security)) ps) * haircut p

unfoldable pub security_add_on : (Position → ℕ) → List Position → ℕ
security_add_on haircut ps = sum_once security_of (security_figure haircut ps) ps

-- "each absolute currency net times the currency haircut", of each currency "other than settlement": of amounts, before haircuts
unfoldable pub currency_figure : ℕ → ℕ → List Position → Position → ℕ
currency_figure settlement fx ps p = if eqb p.currency settlement then 0 else nat_abs (net (member (Group.Currency p.currency)) ps) * fx

unfoldable pub currency_add_on : ℕ → ℕ → List Position → ℕ
currency_add_on settlement fx ps = sum_once currency_of (currency_figure settlement fx ps) ps

-- "lent less received, plus" those; "Work in millionths": a signed number, before it is rounded and bounded
unfoldable pub exposure : (Position → ℕ) → ℕ → ℕ → List Position → ℤ
exposure haircut settlement fx ps =
    (sum_of lent ps * 1000000 + security_add_on haircut ps + currency_add_on settlement fx ps) less (sum_of received ps * 1000000)

-- E* itself, in currency units: "round up once at the end; E* is not below 0 nor above all that was lent"
unfoldable pub net_exposure : (Position → ℕ) → ℕ → ℕ → List Position → ℕ
net_exposure haircut settlement fx ps = min (sum_of lent ps) (at_least_zero (ceiling (exposure haircut settlement fx ps) 1000000))

-- both with the haircuts of a set: in millionths, and E*
unfoldable pub exposure_of : SetTerms → List Position → ℤ
exposure_of t ps = exposure (security_haircut t) t.settlement (currency_haircut_over t) ps

unfoldable pub exposure_after_netting : SetTerms → List Position → ℕ
exposure_after_netting t ps = net_exposure (security_haircut t) t.settlement (currency_haircut_over t) ps
