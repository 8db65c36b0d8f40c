-- Equal answers to the tests of fields give equal refusals. Assumes nothing.
use mathlib.Core.Path.{◌≡◌}
use mathlib.Core.Bool.{Bool}
use Rattle.base.specs.FirstMet.{first_met}
use Rattle.deal.specs.Checks.{field_tests}
use Rattle.deal.specs.declared.checks.FieldChecks.{FieldChecks}

abbrev checks : Bool → Bool → Bool → Bool → Bool → Bool → Bool → FieldChecks
checks amount codes steps currency ranges maturity conditions = record {
  amount = amount;
  codes = codes;
  steps = steps;
  currency = currency;
  ranges = ranges;
  maturity = maturity;
  conditions = conditions;
}

pub same_checks : {a b c d e f g a' b' c' d' e' f' g' : Bool} → a ≡ a' → b ≡ b' → c ≡ c' → d ≡ d' → e ≡ e' → f ≡ f' → g ≡ g' →
    first_met (field_tests (checks a b c d e f g)) ≡ first_met (field_tests (checks a' b' c' d' e' f' g'))
same_checks p q r s t u v = rw (p, q, r, s, t, u, v)
