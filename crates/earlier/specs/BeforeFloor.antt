-- The rules before the sovereign floor (02: L5) and after longer lives (02: L11), each as it stood: one heading, lines without the sovereign's
-- step, no test of it or of an edition, and weights by class and step alone. Lines read by these rules give 0 for the sovereign's step and 1 for the
-- edition, which records did not hold then; no rule of `before_floor` reads either. Swaps (02: L1), which came later, are here what they are today,
-- but for the sovereign's step in their lines; the rules before them are in specs/BeforeSwaps. So are the losses in a report (02: L2)
use Rattle.std.specs.Prelude.{ℕ, Bool, true, ◌&&◌, List, [], ◌∷◌, eqb, leb, get_or, if◌then◌else◌}
use Rattle.base.specs.All.{all_pass}
use Rattle.tables.specs.Eligibility.{eligible}
use Rattle.tables.specs.Haircuts.{haircut, lent_haircut}
use Rattle.tables.specs.Table.{Table}
use Rattle.tables.specs.Weights.{own_weight, table_weight}
use Rattle.text.specs.Bytes.{byte, bytes}
use Rattle.text.specs.Text.{same_bytes}
use Rattle.deal.specs.Assets.{asset_step_allowed, goods_known, life_allowed}
use Rattle.deal.specs.Checks.{field_tests}
use Rattle.deal.specs.Collateral.{collateral_tests}
use Rattle.deal.specs.Parties.{counterparty_known, party_step_allowed, provider_known, sovereign_step_allowed}
use Rattle.deal.specs.Ranges.{amount_allowed, condition_allowed, currency_allowed, days_allowed, days_limit, interval_allowed}
use Rattle.deal.specs.Editions.{edition_known}
use Rattle.deal.specs.Instruments.{as_swap, guarantee_instrument, instrument_allowed}
use Rattle.deal.specs.Terms.{kind_known}
use Rattle.deal.specs.Views.{view_of}
use Rattle.deal.specs.declared.checks.FieldChecks.{FieldChecks}
use Rattle.deal.specs.declared.terms.Terms.{Terms}
use Rattle.deal.specs.declared.guarantee.Guarantee.{Guarantee}
use Rattle.deal.specs.declared.deal.Deal.{Deal}
use Rattle.lines.specs.Fields.{fields_of}
use Rattle.lines.specs.Lines.{collateral_line, if_read}
use Rattle.lines.specs.declared.line.Line.{Line}
use Rattle.lines.specs.declared.line.Line.TheVariants.{DealLine, GuaranteeLine, Malformed}
use Rattle.std.specs.Prelude.{Option}
use Rattle.std.specs.Prelude.{Some, None}
use Rattle.earlier.specs.Rules.{Rules}

-- "The first line is the five bytes C, R, M, tab, 1 and its line feed"
unfoldable pub heading_before : List ℕ → Option ℕ
heading_before line = if same_bytes line (bytes "CRM\t1\n") then Some 1 else None

-- the ten fields of a line D, and the nine of a line G
abbrev pub terms_before : List ℕ → Terms
terms_before fields =
    let field : ℕ → ℕ = λ k. get_or fields k 0 in
    record {
      amount = field 0;
      counterparty = record { class = field 1; step = field 2; sovereign_step = 0 };
      currency = field 3;
      kind = field 4;
      interval = field 5;
      residual = field 6;
      lent = record { goods = field 7; step = field 8; life = field 9 };
      edition = 1;
    }

abbrev pub guarantee_before : List ℕ → Guarantee
guarantee_before fields =
    let field : ℕ → ℕ = λ k. get_or fields k 0 in
    record {
      amount = field 0;
      provider = record { class = field 1; step = field 2; sovereign_step = 0 };
      currency = field 3;
      residual = field 4;
      original = field 5;
      lawful = field 6;
      direct = field 7;
      not_in_rating = field 8;
      instrument = guarantee_instrument;
    }

-- and the ten of a line S
abbrev pub swap_before : List ℕ → Guarantee
swap_before fields = as_swap (get_or fields 9 0) (guarantee_before fields)

unfoldable pub line_before : List ℕ → Line
line_before [] = Malformed
line_before (letter ∷ rest) =
    if eqb letter (byte "D") then if_read (λ fields. DealLine (terms_before fields)) (fields_of 10 rest) else
    if eqb letter (byte "C") then if_read collateral_line (fields_of 11 rest) else
    if eqb letter (byte "G") then if_read (λ fields. GuaranteeLine (guarantee_before fields)) (fields_of 9 rest) else
    if eqb letter (byte "S") then if_read (λ fields. GuaranteeLine (swap_before fields)) (fields_of 10 rest) else
    Malformed

-- what opening and adding a guarantee asked of each field
abbrev pub terms_checks_before : Terms → FieldChecks
terms_checks_before t = record {
  amount = amount_allowed t.amount;
  codes = counterparty_known t.counterparty && kind_known t.kind && goods_known t.lent;
  steps = party_step_allowed t.counterparty && asset_step_allowed t.lent;
  currency = currency_allowed t.currency;
  ranges = interval_allowed t.interval && days_allowed days_limit t.residual && life_allowed days_limit t.lent;
  maturity = true;
  conditions = true;
}

abbrev pub guarantee_checks_before : Guarantee → FieldChecks
guarantee_checks_before g = record {
  amount = amount_allowed g.amount;
  codes = provider_known g.provider;
  steps = party_step_allowed g.provider;
  currency = currency_allowed g.currency;
  ranges = days_allowed days_limit g.residual && days_allowed days_limit g.original;
  maturity = leb g.residual g.original;
  conditions = condition_allowed g.lawful && condition_allowed g.direct && condition_allowed g.not_in_rating && instrument_allowed g.instrument;
}

-- "The weight comes from class and step alone" (01: Risk weights in percent)
abbrev pub table_before : Table
table_before = record {
  eligible = eligible;
  haircut = haircut;
  lent_haircut = lent_haircut;
  counterparty_weight = λ class step sovereign_step. own_weight class step;
  provider_weight = λ class step sovereign_step. table_weight class step;
}

abbrev pub before_floor : Rules
before_floor = record {
  heading = heading_before;
  line = λ edition. line_before;
  terms_tests = λ t. field_tests (terms_checks_before t);
  collateral_tests = collateral_tests;
  guarantee_tests = λ g. field_tests (guarantee_checks_before g);
  table = λ t. table_before;
  taken = λ v. v;
}

-- what a record holds now besides: a known edition, and right steps of the sovereigns of its counterparty and of counted providers
abbrev pub new_fields_allowed : Deal → Bool
new_fields_allowed d =
    edition_known d.terms.edition
    && sovereign_step_allowed d.terms.counterparty
    && all_pass (view_of d).guarantees (λ g. sovereign_step_allowed g.provider)
