-- The terms on the line that opens a deal. Only contracts of inner functions use them; a deal's answer is said without them.
use Rattle.deal.specs.Fields.{zero_terms}
use Rattle.deal.specs.declared.terms.Terms.{Terms}
use Rattle.lines.specs.declared.line.Line.{Line}
use Rattle.lines.specs.declared.line.Line.TheVariants.{DealLine, CollateralLine, GuaranteeLine, Malformed}

-- zeros where it is no line D
unfoldable pub opening_terms : Line → Terms
opening_terms (DealLine terms) = terms
opening_terms (CollateralLine c) = zero_terms
opening_terms (GuaranteeLine g) = zero_terms
opening_terms Malformed = zero_terms
