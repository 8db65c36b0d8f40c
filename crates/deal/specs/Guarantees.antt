-- Guarantees and swaps, and the list that they share. 01: What a deal holds; The four operations, Adding an item; 02: L1
use Rattle.std.specs.Prelude.{ℕ, ◌+◌, Bool, ◌&&◌, List, leb, replicate}
use Rattle.base.specs.FirstMet.{Test, first_met}
use Rattle.deal.specs.Ranges.{amount_allowed, condition_allowed, currency_allowed, days_allowed, days_limit}
use Rattle.deal.specs.Parties.{provider_known, party_steps_allowed}
use Rattle.deal.specs.Checks.{field_tests}
use Rattle.deal.specs.Fields.{zero_guarantee}
use Rattle.deal.specs.Instruments.{instrument_allowed}
use Rattle.deal.specs.Lists.{counted, items_with, list_allowed, list_limit, list_tests, unless_refused}
use Rattle.deal.specs.declared.checks.FieldChecks.{FieldChecks}
use Rattle.deal.specs.declared.guarantee.Guarantee.{Guarantee}
use Rattle.deal.specs.declared.guarantee.GuaranteeList.{GuaranteeList}

-- what adding asks of each field, under a limit of days, as of collateral. "(A line S is refused as a G is.)": a swap's own condition is in its
-- instrument, and one of those that 8 asks for
abbrev pub guarantee_checks : ℕ → Guarantee → FieldChecks
guarantee_checks limit g = record {
  amount = amount_allowed g.amount;
  codes = provider_known g.provider;
  steps = party_steps_allowed g.provider;
  currency = currency_allowed g.currency;
  ranges = days_allowed limit g.residual && days_allowed limit g.original;
  maturity = leb g.residual g.original;
  conditions = condition_allowed g.lawful && condition_allowed g.direct && condition_allowed g.not_in_rating && instrument_allowed g.instrument;
}

unfoldable pub guarantee_tests : Guarantee → List (Test ℕ)
guarantee_tests g = field_tests (guarantee_checks days_limit g)

-- the first that is met, or 0
unfoldable pub guarantee_refusal : Guarantee → ℕ
guarantee_refusal g = first_met (guarantee_tests g)

abbrev pub counted_guarantees : GuaranteeList → List Guarantee
counted_guarantees l = counted l.items l.count

unfoldable pub guarantee_list_allowed : GuaranteeList → Bool
guarantee_list_allowed l = list_allowed guarantee_refusal l.items l.count

abbrev pub empty_guarantees : GuaranteeList
empty_guarantees = record { items = replicate list_limit zero_guarantee; count = 0 }

-- "adding changes only the next place and that list's count"
abbrev pub append_guarantee : GuaranteeList → Guarantee → GuaranteeList
append_guarantee l g = record { items = items_with l.items l.count g; count = l.count + 1 }

-- What adding does to this list, behind its 40, which is a test of the whole record (specs/Adding)
unfoldable pub guarantee_list_tests : GuaranteeList → Guarantee → List (Test ℕ)
guarantee_list_tests l g = list_tests guarantee_tests l.count g

unfoldable pub guarantee_list_refusal : GuaranteeList → Guarantee → ℕ
guarantee_list_refusal l g = first_met (guarantee_list_tests l g)

-- the list after it: "A refused line leaves the deal as it was before it"
unfoldable pub guarantee_list_with : GuaranteeList → Guarantee → GuaranteeList
guarantee_list_with l g = unless_refused (guarantee_list_refusal l g) (append_guarantee l g) l
