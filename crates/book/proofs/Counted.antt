-- The deals among lines counted one by one, from a place on. Assumes nothing.
use Prim.Native.Nat.{ℕ, ◌+◌, ◌≤◌, ◌<◌}
use mathlib.Core.Path.{◌≡◌, ◌∙◌, ap}
use mathlib.Core.List.{List}
use mathlib.Core.Bool.{true, false}
use native.Mathlib.Omega.{arith}
use native.Mathlib.Numerals.{add-one}
use lib.ListN.{length, drop}
use lib.Seq.{drop-drop}
use Rattle.text.specs.Text.{lines_of, first_line}
use Rattle.text.proofs.Lines.{first_at_some, first_at_inside, no_lines_at}
use Rattle.book.specs.Deals.{opens_deal, deals_from}
use Rattle.book.proofs.Grouping.{deals_first, deals_further, deals_counted, no_deals}

-- how many deals stand from a place on
abbrev pub to_come : List ℕ → ℕ → ℕ
to_come lines at = length (deals_from 2 (lines_of (drop at lines)))

-- what is counted and what is still to come make the whole
pub record Counted (lines : List ℕ) (at deals : ℕ) : Type 0 where
  pub inside : at ≤ length lines
  pub few : deals ≤ at
  pub counted : deals + to_come lines at ≡ to_come lines 0

module _ (lines : List ℕ) (at : ℕ) (h : at < length lines) where
  abbrev end : ℕ
  end = at + length (first_line (drop at lines))

  opened : opens_deal (drop at lines) ≡ true → to_come lines at ≡ to_come lines end + 1
  opened e =
      ap length (deals_first 2 (drop at lines) e)
      ∙ rw (drop-drop (length (first_line (drop at lines))) at lines, deals_counted 3 2 (lines_of (drop end lines)), add-one)

  passed : opens_deal (drop at lines) ≡ false → to_come lines at ≡ to_come lines end
  passed e = ap length (deals_further 2 lines at h e) ∙ deals_counted 3 2 _

-- the line that starts at a place, up to its end
module _ (lines : List ℕ) (at deals : ℕ) (c : Counted lines at deals) (h : at < length lines) (next : ℕ) (e : next ≡ at + length (first_line (drop at lines))) where
  pub onward : (at < next) × (next ≤ length lines)
  onward = (omega (arith, e, first_at_some lines at h), omega (arith, e, first_at_inside lines at c.inside))

  pub counted_deal : opens_deal (drop at lines) ≡ true → Counted lines next (deals + 1)
  counted_deal o =
      record { inside = onward.1; few = omega (arith, c.few, onward.0); counted = omega (arith, c.counted, opened lines at h o, ap (to_come lines) e) }

  pub counted_other : opens_deal (drop at lines) ≡ false → Counted lines next deals
  counted_other o =
      record { inside = onward.1; few = omega (arith, c.few, onward.0); counted = omega (arith, c.counted, passed lines at h o, ap (to_come lines) e) }

-- where no line is left, all are counted
pub counted_all : (lines : List ℕ) (at deals : ℕ) → Counted lines at deals → length lines ≤ at → deals ≡ length (deals_from 2 (lines_of lines))
counted_all lines at deals c h =
    let none : to_come lines at ≡ 0 = rw (no_lines_at lines at h, no_deals) in
    omega (arith, none, c.counted)
