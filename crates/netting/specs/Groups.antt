-- Which positions are netted with each other.
use Rattle.std.specs.Prelude.{Bool, true, eqb}
use Rattle.netting.specs.declared.group.Group.{Group}
use Rattle.netting.specs.declared.position.Position.{Position}

-- those of one security, of one currency, and all of them
abbrev pub member : Group → Position → Bool
member (Group.Security security) p = eqb p.security security
member (Group.Currency currency) p = eqb p.currency currency
member Group.All p = true
