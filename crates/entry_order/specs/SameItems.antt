-- The same items in another order. 02: L7, "any order of the same accepted items gives the same E* and weighted amount"
use Rattle.std.specs.Prelude.{◌≡◌}
use Rattle.base.specs.Reordered.{Reordered}
use Rattle.deal.specs.Views.{View}
use Rattle.deal.specs.declared.deal.Deal.{Deal}
use Rattle.relief.specs.Report.{report_of}

-- two deals by their fields and items: the same terms, the same collateral in any order, and the same guarantees and swaps, which share a list, in
-- any order
pub record SameItems (v v' : View) : Type 0 where
  pub terms : v.terms ≡ v'.terms
  pub collateral : Reordered v.collateral v'.collateral
  pub guarantees : Reordered v.guarantees v'.guarantees

-- "the same E* and weighted amount": of two records, in what reporting gives
pub record SameFigures (d d' : Deal) : Type 0 where
  pub exposure : (report_of d).exposure ≡ (report_of d').exposure
  pub rwa : (report_of d).rwa ≡ (report_of d').rwa
