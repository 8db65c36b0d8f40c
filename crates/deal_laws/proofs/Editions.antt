-- The tables of every deal have the laws, whatever its edition. Assumes nothing.
use Rattle.tables.specs.Table.{TableLaws}
use Rattle.tables.proofs.Laws.{lawful as lawful_edition}
use Rattle.deal.specs.Editions.{table_for}
use Rattle.deal.specs.declared.terms.Terms.{Terms}

pub lawful : (t : Terms) → TableLaws (table_for t)
unfolding table_for
lawful t = lawful_edition t.edition
