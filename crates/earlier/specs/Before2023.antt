-- The rules before the 2023 tables (02: L9) and after the sovereign floor (02: L5): two headings and two editions, as they stood, and the tables of
-- 2019, whose definitions that request left alone (by number they are in proofs/Examples2023)
use Rattle.std.specs.Prelude.{ℕ, Bool, true, ◌&&◌, List, if◌then◌else◌}
use Rattle.base.specs.Range.{within}
use Rattle.tables.specs.Table.{table_2019}
use Rattle.text.specs.Bytes.{bytes}
use Rattle.text.specs.Text.{same_bytes}
use Rattle.deal.specs.Assets.{asset_step_allowed, goods_known, life_allowed}
use Rattle.deal.specs.Checks.{field_tests}
use Rattle.deal.specs.Collateral.{collateral_tests}
use Rattle.deal.specs.Guarantees.{guarantee_tests}
use Rattle.deal.specs.Parties.{counterparty_known, party_steps_allowed}
use Rattle.deal.specs.Ranges.{amount_allowed, currency_allowed, days_allowed, days_limit, interval_allowed}
use Rattle.deal.specs.Terms.{kind_known}
use Rattle.deal.specs.declared.checks.FieldChecks.{FieldChecks}
use Rattle.deal.specs.declared.terms.Terms.{Terms}
use Rattle.deal.specs.declared.deal.Deal.{Deal}
use Rattle.lines.specs.Lines.{line_of}
use Rattle.std.specs.Prelude.{Option}
use Rattle.std.specs.Prelude.{Some, None}
use Rattle.earlier.specs.Rules.{Rules}

unfoldable pub heading_before_2023 : List ℕ → Option ℕ
heading_before_2023 line =
    if same_bytes line (bytes "CRM\t1\n") then Some 1 else
    if same_bytes line (bytes "CRM\t2\n") then Some 2 else
    None

abbrev pub edition_before_2023 : ℕ → Bool
edition_before_2023 edition = within 1 2 edition

-- what opening asked of each field
abbrev pub terms_checks_before_2023 : Terms → FieldChecks
terms_checks_before_2023 t = record {
  amount = amount_allowed t.amount;
  codes = counterparty_known t.counterparty && kind_known t.kind && goods_known t.lent && edition_before_2023 t.edition;
  steps = party_steps_allowed t.counterparty && asset_step_allowed t.lent;
  currency = currency_allowed t.currency;
  ranges = interval_allowed t.interval && days_allowed days_limit t.residual && life_allowed days_limit t.lent;
  maturity = true;
  conditions = true;
}

-- lines, and what adding asks of an item, are today's; so are swaps and the losses in a report, which came later (02: L1, L2)
abbrev pub before_2023 : Rules
before_2023 = record {
  heading = heading_before_2023;
  line = line_of;
  terms_tests = λ t. field_tests (terms_checks_before_2023 t);
  collateral_tests = collateral_tests;
  guarantee_tests = guarantee_tests;
  table = λ t. table_2019 t.edition;
  taken = λ v. v;
}

-- the same terms, and the same deal, under another edition
abbrev pub with_edition : ℕ → Terms → Terms
with_edition edition t = record {
  amount = t.amount;
  counterparty = t.counterparty;
  currency = t.currency;
  kind = t.kind;
  interval = t.interval;
  residual = t.residual;
  lent = t.lent;
  edition = edition;
}

abbrev pub deal_with_edition : ℕ → Deal → Deal
deal_with_edition edition d = record { terms = with_edition edition d.terms; collateral = d.collateral; guarantees = d.guarantees }
