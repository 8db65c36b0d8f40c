-- The editions of the tables that deals are reported under. 02: L5, L9
use Rattle.std.specs.Prelude.{ℕ, Bool}
use Rattle.base.specs.Range.{within}
use Rattle.tables.specs.Table.{Table, table_of}
use Rattle.deal.specs.declared.terms.Terms.{Terms}

-- 1, 2 and 3. "Opening is given what the header says with the deal's own fields; an unknown value is 2", the refusal; in the first line of a book it is 9
-- (book/specs/Heading)
abbrev pub edition_known : ℕ → Bool
edition_known edition = within 1 3 edition

-- the tables of the edition that a deal's terms hold
unfoldable pub table_for : Terms → Table
table_for t = table_of t.edition
