-- The terms of a netting set, and what they are refused for. 02: L6, "A set has a counterparty class, step and sovereign's step, a settlement currency,
-- an interval of 1 to 60 days"; L9, "A netting set names its table by that number, 2 or 3 (any other is refusal 2)"
use Rattle.std.specs.Prelude.{ℕ, Bool, true, ◌&&◌, List}
use Rattle.base.specs.FirstMet.{Test, first_met}
use Rattle.base.specs.Range.{within}
use Rattle.deal.specs.Checks.{field_tests}
use Rattle.deal.specs.Parties.{counterparty_known, party_steps_allowed}
use Rattle.deal.specs.Ranges.{currency_allowed}
use Rattle.deal.specs.declared.checks.FieldChecks.{FieldChecks}
use Rattle.netting.specs.declared.terms.SetTerms.{SetTerms}

-- "2 or 3": the editions of the tables that have the sovereign floor
abbrev pub table_known : ℕ → Bool
table_known table = within 2 3 table

-- "an interval of 1 to 60 days"
abbrev pub set_interval_allowed : ℕ → Bool
set_interval_allowed interval = within 1 60 interval

-- "The set's fields come first": 2 table number, class; 3 step, sovereign's step, as of a deal's counterparty; 4 settlement currency; 5 interval. A set has
-- no amount of its own, and 7 and 8 are asked of items of a deal alone
abbrev pub set_terms_checks : SetTerms → FieldChecks
set_terms_checks t = record {
  amount = true;
  codes = table_known t.table && counterparty_known t.counterparty;
  steps = party_steps_allowed t.counterparty;
  currency = currency_allowed t.settlement;
  ranges = set_interval_allowed t.interval;
  maturity = true;
  conditions = true;
}

unfoldable pub set_terms_tests : SetTerms → List (Test ℕ)
set_terms_tests t = field_tests (set_terms_checks t)

-- the first that is met, or 0
unfoldable pub set_terms_refusal : SetTerms → ℕ
set_terms_refusal t = first_met (set_terms_tests t)
