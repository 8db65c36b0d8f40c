-- What landings have moved of opening, adding, reporting and answering, as one set of rules: so that answers of before can be spoken of
-- beside those of now (specs/Deals, specs/Books). Everything else is today's definition, the losses in a report (02: L2) among it: without them,
-- specs/BeforeLosses
use Rattle.std.specs.Prelude.{ℕ, List}
use Rattle.base.specs.FirstMet.{Test}
use Rattle.tables.specs.Table.{Table}
use Rattle.deal.specs.Checks.{field_tests}
use Rattle.deal.specs.Collateral.{collateral_checks, collateral_tests}
use Rattle.deal.specs.Editions.{table_for}
use Rattle.deal.specs.Guarantees.{guarantee_checks, guarantee_tests}
use Rattle.deal.specs.Terms.{terms_checks, terms_tests}
use Rattle.deal.specs.Views.{View}
use Rattle.deal.specs.declared.terms.Terms.{Terms}
use Rattle.deal.specs.declared.collateral.Collateral.{Collateral}
use Rattle.deal.specs.declared.guarantee.Guarantee.{Guarantee}
use Rattle.lines.specs.Lines.{line_of}
use Rattle.lines.specs.declared.line.Line.{Line}
use Rattle.book.specs.Heading.{heading_of}
use Rattle.std.specs.Prelude.{Option}

pub record Rules : Type 0 where
  -- what the first line of a book says
  pub heading : List ℕ → Option ℕ
  -- what a line behind it says, by the edition
  pub line : ℕ → List ℕ → Line
  -- what opening and adding test of fields, in their order
  pub terms_tests : Terms → List (Test ℕ)
  pub collateral_tests : Collateral → List (Test ℕ)
  pub guarantee_tests : Guarantee → List (Test ℕ)
  -- the tables that a deal is reported under
  pub table : Terms → Table
  -- and what its items are taken for
  pub taken : View → View

-- the rules in force, which are those of the contracts (proofs/Now)
abbrev pub in_force : Rules
in_force = record {
  heading = heading_of;
  line = line_of;
  terms_tests = terms_tests;
  collateral_tests = collateral_tests;
  guarantee_tests = guarantee_tests;
  table = table_for;
  taken = λ v. v;
}

-- with another limit of days. 02: L11, "Raise the limit of issue life and of all terms"
abbrev pub up_to : ℕ → Rules
up_to limit = record {
  heading = heading_of;
  line = line_of;
  terms_tests = λ t. field_tests (terms_checks limit t);
  collateral_tests = λ c. field_tests (collateral_checks limit c);
  guarantee_tests = λ g. field_tests (guarantee_checks limit g);
  table = table_for;
  taken = λ v. v;
}
