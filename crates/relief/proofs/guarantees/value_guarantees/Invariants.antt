use Rattle.std.proofs.Common.{ℕ, ◌≡◌, ◌≤◌, List, ◌++◌, map, take, drop, replicate, length}
use Rattle.cover.specs.declared.protection.Protection.{Protection}
use Rattle.deal.specs.Editions.{table_for}
use Rattle.deal.specs.declared.terms.Terms.{Terms}
use Rattle.deal.specs.declared.guarantee.Guarantee.{Guarantee}
use Rattle.relief.specs.declared.guarantee.GuaranteeReport.{GuaranteeReport}
use Rattle.relief.specs.Guarantees.{protection_of}
use Rattle.relief.specs.Report.{no_guarantee}
use Rattle.relief.specs.Portions.{without_portion, no_protection}
use Rattle.relief.proofs.guarantees.value_guarantees.Given as goal

-- after i items the first i places of both arrays are filled
pub record Holds (t : Terms) (items : List Guarantee) (reports : List GuaranteeReport) (protections : List Protection) (i : ℕ) : Type 0 where
  pub reported : reports ≡ map (without_portion (table_for t) t) (take i items) ++ drop i (replicate 16 no_guarantee)
  pub protected : protections ≡ map (protection_of (table_for t) t) (take i items) ++ drop i (replicate 16 no_protection)
  pub passed : i ≤ length items

abbrev pub invariant-loop-i : goal.invariant-loop-i
invariant-loop-i l = Holds l.terms l.items l.reports l.protections l.i
