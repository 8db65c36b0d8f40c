use Rattle.std.proofs.Common.{ℕ, ◌≡◌, ◌≤◌, ◌*◌, List, ◌++◌, map, take, drop, replicate, length}
use Rattle.deal.specs.Editions.{table_for}
use Rattle.deal.specs.declared.terms.Terms.{Terms}
use Rattle.deal.specs.declared.collateral.Collateral.{Collateral}
use Rattle.relief.specs.declared.collateral.CollateralReport.{CollateralReport}
use Rattle.relief.specs.Exposure.{collateral_total}
use Rattle.relief.specs.Report.{collateral_report, no_collateral}
use Rattle.relief.proofs.collateral.value_collateral.Given as goal

-- after i items the first i places are filled, and the total is theirs
pub record Holds (t : Terms) (items : List Collateral) (reports : List CollateralReport) (total i : ℕ) : Type 0 where
  pub reported : reports ≡ map (collateral_report (table_for t) t) (take i items) ++ drop i (replicate 16 no_collateral)
  pub totalled : total ≡ collateral_total (table_for t) t (take i items)
  pub small : total ≤ i * 1000000000000
  pub passed : i ≤ length items

abbrev pub invariant-loop-i : goal.invariant-loop-i
invariant-loop-i l = Holds l.terms l.items l.reports l.total l.i
