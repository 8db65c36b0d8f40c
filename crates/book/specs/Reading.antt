-- What reading of a deal's lines establishes, for the functions that read on behind them.
use Rattle.std.specs.Prelude.{ℕ, ◌+◌, ◌≤◌, false, ◌≡◌, List, drop, length}
use Rattle.text.specs.Text.{first_line, lines_of}
use Rattle.book.specs.Deals.{deals_from}
use Rattle.book.specs.Start.{own_first}

-- of the deal that a text starts with: where its lines end, and the number of the line there, if there is one. What follows is nothing or
-- another deal, and the other deals are all there
pub record DealRead (number : ℕ) (text : List ℕ) (end next : ℕ) : Type 0 where
  pub inside : end ≤ length text
  pub some : 1 ≤ end
  pub numbered : next ≤ number + end
  pub begins : own_first (drop end text) ≡ false
  pub others : deals_from (number + 1) (lines_of (drop (length (first_line text)) text)) ≡ deals_from next (lines_of (drop end text))

-- lines of a deal passed from a place on, the first of which has this number: where they end, and the number of the line there
pub record LinesRead (text : List ℕ) (start number end next : ℕ) : Type 0 where
  pub inside : end ≤ length text
  pub onward : start ≤ end
  pub numbered : next + start ≤ number + end
  pub begins : own_first (drop end text) ≡ false
  pub others : deals_from number (lines_of (drop start text)) ≡ deals_from next (lines_of (drop end text))
