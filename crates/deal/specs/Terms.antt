-- The terms of a deal, which are what is sent to open it. 01: What a deal holds; The four operations, Opening a deal; 02: L5.
use Rattle.std.specs.Prelude.{ℕ, Bool, true, ◌&&◌, List}
use Rattle.base.specs.FirstMet.{Test, first_met}
use Rattle.base.specs.Range.{within}
use Rattle.tables.specs.Kinds.{repo_style, secured_lending}
use Rattle.deal.specs.Ranges.{amount_allowed, currency_allowed, days_allowed, days_limit, interval_allowed}
use Rattle.deal.specs.Editions.{edition_known}
use Rattle.deal.specs.Parties.{counterparty_known, party_steps_allowed}
use Rattle.deal.specs.Assets.{goods_known, asset_step_allowed, life_allowed}
use Rattle.deal.specs.Checks.{field_tests}
use Rattle.deal.specs.declared.checks.FieldChecks.{FieldChecks}
use Rattle.deal.specs.declared.terms.Terms.{Terms}

-- "kind (1 repo-style, 2 other capital market, 3 secured lending)"
abbrev pub kind_known : ℕ → Bool
kind_known kind = within repo_style secured_lending kind

-- what opening asks of each field, under a limit of days. "(a loan lends cash)" explains an entry and refuses nothing; 7 and 8 are asked of
-- items alone
abbrev pub terms_checks : ℕ → Terms → FieldChecks
terms_checks limit t = record {
  amount = amount_allowed t.amount;
  codes = counterparty_known t.counterparty && kind_known t.kind && goods_known t.lent && edition_known t.edition;
  steps = party_steps_allowed t.counterparty && asset_step_allowed t.lent;
  currency = currency_allowed t.currency;
  ranges = interval_allowed t.interval && days_allowed limit t.residual && life_allowed limit t.lent;
  maturity = true;
  conditions = true;
}

unfoldable pub terms_tests : Terms → List (Test ℕ)
terms_tests t = field_tests (terms_checks days_limit t)

-- the answer to opening; the deal it gives is `opened_deal` (specs/Opening)
unfoldable pub terms_refusal : Terms → ℕ
terms_refusal t = first_met (terms_tests t)
