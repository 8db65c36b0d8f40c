-- Collateral, and the list of it. 01: What a deal holds; The four operations, Adding an item
use Rattle.std.specs.Prelude.{ℕ, ◌+◌, Bool, ◌&&◌, List, leb, replicate}
use Rattle.base.specs.FirstMet.{Test, first_met}
use Rattle.deal.specs.Ranges.{amount_allowed, condition_allowed, currency_allowed, days_allowed, days_limit}
use Rattle.deal.specs.Assets.{goods_known, asset_step_allowed, life_allowed}
use Rattle.deal.specs.Checks.{field_tests}
use Rattle.deal.specs.Fields.{zero_collateral}
use Rattle.deal.specs.Lists.{counted, items_with, list_allowed, list_limit, list_tests, unless_refused}
use Rattle.deal.specs.declared.checks.FieldChecks.{FieldChecks}
use Rattle.deal.specs.declared.collateral.Collateral.{Collateral}
use Rattle.deal.specs.declared.collateral.CollateralList.{CollateralList}

-- what adding asks of each field, under a limit of days: "1, 2, 3, 4, 5 as above on the item's fields; 7 residual term above original; 8 a
-- condition neither 0 nor 1". Of the condition "listed senior bank paper", which "counts only for type 4 at step 0", "either entry is
-- accepted elsewhere"
abbrev pub collateral_checks : ℕ → Collateral → FieldChecks
collateral_checks limit c = record {
  amount = amount_allowed c.amount;
  codes = goods_known c.asset;
  steps = asset_step_allowed c.asset;
  currency = currency_allowed c.currency;
  ranges = days_allowed limit c.residual && days_allowed limit c.original && life_allowed limit c.asset;
  maturity = leb c.residual c.original;
  conditions = condition_allowed c.lawful && condition_allowed c.unrelated && condition_allowed c.not_in_rating && condition_allowed c.listed;
}

unfoldable pub collateral_tests : Collateral → List (Test ℕ)
collateral_tests c = field_tests (collateral_checks days_limit c)

-- the first that is met, or 0
unfoldable pub collateral_refusal : Collateral → ℕ
collateral_refusal c = first_met (collateral_tests c)

abbrev pub counted_collateral : CollateralList → List Collateral
counted_collateral l = counted l.items l.count

unfoldable pub collateral_list_allowed : CollateralList → Bool
collateral_list_allowed l = list_allowed collateral_refusal l.items l.count

abbrev pub empty_collateral : CollateralList
empty_collateral = record { items = replicate list_limit zero_collateral; count = 0 }

-- "adding changes only the next place and that list's count"
abbrev pub append_collateral : CollateralList → Collateral → CollateralList
append_collateral l c = record { items = items_with l.items l.count c; count = l.count + 1 }

-- What adding does to this list, behind its 40, which is a test of the whole record (specs/Adding)
unfoldable pub collateral_list_tests : CollateralList → Collateral → List (Test ℕ)
collateral_list_tests l c = list_tests collateral_tests l.count c

unfoldable pub collateral_list_refusal : CollateralList → Collateral → ℕ
collateral_list_refusal l c = first_met (collateral_list_tests l c)

-- the list after it: "A refused line leaves the deal as it was before it"
unfoldable pub collateral_list_with : CollateralList → Collateral → CollateralList
collateral_list_with l c = unless_refused (collateral_list_refusal l c) (append_collateral l c) l
