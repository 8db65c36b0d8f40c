-- Lines of a deal passed one by one. Assumes nothing.
use Prim.Native.Nat.{ℕ, ◌+◌, ◌≤◌, ◌<◌}
use mathlib.Core.Path.{◌≡◌, refl, sym, ◌∙◌, ap}
use mathlib.Core.Bool.{true, false}
use mathlib.Core.List.{List, ◌∷◌}
use native.Mathlib.Omega.{arith}
use lib.ListN.{length, drop, length-drop}
use Rattle.text.specs.Text.{first_line, lines_of}
use Rattle.text.proofs.Lines.{lines_at, first_at_some, first_at_inside}
use Rattle.book.specs.Deals.{opens_deal, own_lines, deals_from}
use Rattle.book.specs.Start.{own_first}
use Rattle.book.specs.Reading.{DealRead, LinesRead}
use Rattle.book.proofs.Grouping.{deals_further, own_more, own_opens_not, own_some, opens_first, opens_some}

-- where the line that starts here ends, if it is one of the deal
pub record OwnLine (text : List ℕ) (at end : ℕ) : Type 0 where
  pub here : at < length text
  pub more : at < end
  pub inside : end ≤ length text
  pub opens : opens_deal (drop at text) ≡ false

pub own_line_ends : (text : List ℕ) (at end : ℕ) → at ≤ length text → own_first (drop at text) ≡ true → end ≡ at + length (first_line (drop at text)) → OwnLine text at end
own_line_ends text at end k own e =
    let h : at < length text = omega (arith, own_some (drop at text) own, length-drop at text) in
    record {
      here = h;
      more = omega (arith, e, first_at_some text at h);
      inside = omega (arith, e, first_at_inside text at k);
      opens = own_opens_not (drop at text) own;
    }

pub own_next : (text : List ℕ) (at : ℕ) → at < length text → opens_deal (drop at text) ≡ false
    → own_lines (lines_of (drop at text)) ≡ first_line (drop at text) ∷ own_lines (lines_of (drop (at + length (first_line (drop at text))) text))
own_next text at h k = ap own_lines (lines_at text at h) ∙ own_more (first_line (drop at text)) _ (opens_first (drop at text) ∙ k)

module _ (text : List ℕ) (start number : ℕ) where
  -- some of the lines are passed
  pub record Passed (at next : ℕ) : Type 0 where
    pub inside : at ≤ length text
    pub onward : start ≤ at
    pub numbered : next + start ≤ number + at
    pub others : deals_from number (lines_of (drop start text)) ≡ deals_from next (lines_of (drop at text))

  pub passed_none : start ≤ length text → Passed start number
  passed_none h = record { inside = h; onward = omega arith; numbered = omega arith; others = refl }

  module _ (at next : ℕ) (p : Passed at next) where
    pub passed_line : (end : ℕ) → OwnLine text at end → end ≡ at + length (first_line (drop at text)) → Passed end (next + 1)
    passed_line end l e =
        record {
          inside = l.inside;
          onward = omega (arith, p.onward, l.more);
          numbered = omega (arith, p.numbered, l.more);
          others =
              p.others
              ∙ deals_further next text at l.here l.opens
              ∙ ap (λ n. deals_from (next + 1) (lines_of (drop n text))) (sym e);
        }

    pub passed_all : own_first (drop at text) ≡ false → LinesRead text start number at next
    passed_all over = record { inside = p.inside; onward = p.onward; numbered = p.numbered; begins = over; others = p.others }

    -- and the others after them
    pub passed_on : (end last : ℕ) → LinesRead text at next end last → LinesRead text start number end last
    passed_on end last r =
        record {
          inside = r.inside;
          onward = omega (arith, p.onward, r.onward);
          numbered = omega (arith, p.numbered, r.numbered);
          begins = r.begins;
          others = p.others ∙ r.others;
        }

-- the lines behind the one that opens a deal
pub deal_read : (text : List ℕ) (number end next : ℕ) → opens_deal text ≡ true → LinesRead text (length (first_line text)) (number + 1) end next → DealRead number text end next
deal_read text number end next h r =
    let some = first_at_some text 0 (opens_some text h) in
    record {
      inside = r.inside;
      some = omega (arith, r.onward, some);
      numbered = omega (arith, r.numbered, some);
      begins = r.begins;
      others = r.others;
    }
