-- The risk weights of a deal's parties, under a table. 01: Risk weights in percent; 02: L5, L9
use Rattle.std.specs.Prelude.{ℕ}
use Rattle.tables.specs.Table.{Table}
use Rattle.deal.specs.declared.terms.Terms.{Terms}
use Rattle.deal.specs.declared.guarantee.Guarantee.{Guarantee}

abbrev pub counterparty_weight_of : Table → Terms → ℕ
counterparty_weight_of table t = table.counterparty_weight t.counterparty.class t.counterparty.step t.counterparty.sovereign_step

abbrev pub provider_weight_of : Table → Guarantee → ℕ
provider_weight_of table g = table.provider_weight g.provider.class g.provider.step g.provider.sovereign_step
