-- The rules before credit derivatives (02: L1), as they stood: lines D, C and G, no test of an instrument, and every item a guarantee, whose whole
-- amount is hedged. Reports have the losses that came later (02: L2), as they do today
use Rattle.std.specs.Prelude.{ℕ, Bool, not, ◌&&◌, List, [], ◌∷◌, map, eqb, leb, get_or, if◌then◌else◌}
use Rattle.base.specs.All.{all_pass}
use Rattle.text.specs.Bytes.{byte}
use Rattle.deal.specs.Checks.{field_tests}
use Rattle.deal.specs.Collateral.{collateral_tests}
use Rattle.deal.specs.Editions.{table_for}
use Rattle.deal.specs.Instruments.{guarantee_instrument, instrument_allowed, swap_without_restructuring}
use Rattle.deal.specs.Parties.{party_steps_allowed, provider_known}
use Rattle.deal.specs.Ranges.{amount_allowed, condition_allowed, currency_allowed, days_allowed, days_limit}
use Rattle.deal.specs.Terms.{terms_tests}
use Rattle.deal.specs.Views.{View, view_of}
use Rattle.deal.specs.declared.checks.FieldChecks.{FieldChecks}
use Rattle.deal.specs.declared.guarantee.Guarantee.{Guarantee}
use Rattle.deal.specs.declared.deal.Deal.{Deal}
use Rattle.lines.specs.Fields.{fields_of}
use Rattle.lines.specs.Lines.{collateral_line, deal_line, guarantee_line, if_read}
use Rattle.lines.specs.Sovereign.{width_under}
use Rattle.lines.specs.declared.line.Line.{Line}
use Rattle.lines.specs.declared.line.Line.TheVariants.{Malformed}
use Rattle.book.specs.Book.{lines_behind}
use Rattle.book.specs.Deals.{DealLines}
use Rattle.book.specs.Heading.{heading_of}
use Rattle.earlier.specs.Rules.{Rules}

-- eleven fields of a line D, and of a line C, ten of a line G, D and G with one less under the first heading. What fields say is today's definition
unfoldable pub line_before_swaps : ℕ → List ℕ → Line
line_before_swaps edition [] = Malformed
line_before_swaps edition (letter ∷ rest) =
    if eqb letter (byte "D") then if_read (deal_line edition) (fields_of (width_under edition 11) rest) else
    if eqb letter (byte "C") then if_read collateral_line (fields_of 11 rest) else
    if eqb letter (byte "G") then if_read (guarantee_line edition) (fields_of (width_under edition 10) rest) else
    Malformed

-- what adding asked of each field
abbrev pub guarantee_checks_before_swaps : Guarantee → FieldChecks
guarantee_checks_before_swaps g = record {
  amount = amount_allowed g.amount;
  codes = provider_known g.provider;
  steps = party_steps_allowed g.provider;
  currency = currency_allowed g.currency;
  ranges = days_allowed days_limit g.residual && days_allowed days_limit g.original;
  maturity = leb g.residual g.original;
  conditions = condition_allowed g.lawful && condition_allowed g.direct && condition_allowed g.not_in_rating;
}

-- records had no instrument: what stands there now is taken for a guarantee
abbrev pub as_guarantee : Guarantee → Guarantee
as_guarantee g = record {
  amount = g.amount;
  provider = g.provider;
  currency = g.currency;
  residual = g.residual;
  original = g.original;
  lawful = g.lawful;
  direct = g.direct;
  not_in_rating = g.not_in_rating;
  instrument = guarantee_instrument;
}

abbrev pub guarantees_alone : View → View
guarantees_alone v = record { terms = v.terms; collateral = v.collateral; guarantees = map as_guarantee v.guarantees }

abbrev pub before_swaps : Rules
before_swaps = record {
  heading = heading_of;
  line = line_before_swaps;
  terms_tests = terms_tests;
  collateral_tests = collateral_tests;
  guarantee_tests = λ g. field_tests (guarantee_checks_before_swaps g);
  table = table_for;
  taken = guarantees_alone;
}

-- a line that does not begin with the letter S
abbrev pub no_swap : List ℕ → Bool
no_swap line = not (eqb (get_or line 0 0) (byte "S"))

-- a deal, and a book, with no such line
abbrev pub deal_without_swaps : DealLines → Bool
deal_without_swaps deal = all_pass (deal.opening ∷ deal.further) no_swap

abbrev pub book_without_swaps : List ℕ → Bool
book_without_swaps book = all_pass (lines_behind book) no_swap

-- every counted item of the list of guarantees is one of the three instruments
abbrev pub instruments_allowed : Deal → Bool
instruments_allowed d = all_pass (view_of d).guarantees (λ g. instrument_allowed g.instrument)

-- and none is a swap without the restructuring condition
abbrev pub none_cut : Deal → Bool
none_cut d = all_pass (view_of d).guarantees (λ g. not (eqb g.instrument swap_without_restructuring))
