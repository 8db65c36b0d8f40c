-- The lines of a deal keyed in another order, and a line of cash keyed as two. 02: L7; 01: The book
use Rattle.std.specs.Prelude.{ℕ, ◌+◌, ◌*◌, ◌≡◌, Bool, List, [], ◌∷◌, ◌⊎◌, eqb, drop, get_or, take}
use Rattle.base.specs.Reordered.{Inserted, Reordered}
use Rattle.text.specs.Bytes.{byte}
use Rattle.deal.specs.declared.terms.Terms.{Terms}
use Rattle.deal.specs.declared.collateral.Collateral.{Collateral}
use Rattle.lines.specs.Lines.{line_of}
use Rattle.lines.specs.declared.line.Line.TheVariants.{CollateralLine, DealLine}
use Rattle.book.specs.Answers.{deal_answer}
use Rattle.book.specs.Book.{deals_of}
use Rattle.book.specs.Deals.{DealLines}
use Rattle.entry_order.specs.Split.{MatchedCash, with_amount}

-- a deal of a book opened by the same line, its further lines in any order: C, G and S lines among one another too
pub record SameLines (deal deal' : DealLines) : Type 0 where
  pub opening : deal.opening ≡ deal'.opening
  pub further : Reordered deal.further deal'.further

-- the first of the three numbers behind a serial: "refusal or 0"
abbrev pub refusal_in : List ℕ → ℕ
refusal_in answer = get_or answer 0 0

-- in a book headed by this edition no line of the deal is refused
abbrev pub NotRefused : ℕ → DealLines → Type 0
NotRefused edition deal = refusal_in (deal_answer edition deal) ≡ 0

-- of several deals, each the same in both books, or, none of its lines being refused, keyed in another order
abbrev pub AlikeDeals : ℕ → List DealLines → List DealLines → Type 0
AlikeDeals edition [] [] = Unit {0}
AlikeDeals edition [] (e ∷ es) = ⊥
AlikeDeals edition (d ∷ ds) [] = ⊥
AlikeDeals edition (d ∷ ds) (e ∷ es) = ((d ≡ e) ⊎ (SameLines d e × NotRefused edition d)) × AlikeDeals edition ds es

-- a book's deal by its place, from 0; no lines where there is none
abbrev pub no_lines : DealLines
no_lines = record { number = 0; opening = []; further = [] }

abbrev pub deal_at : ℕ → List ℕ → DealLines
deal_at k book = get_or (deals_of book) k no_lines

-- the four numbers of that deal in a list of results
abbrev pub row_at : ℕ → List ℕ → List ℕ
row_at k results = take 4 (drop (4 * k) results)

-- one line of a deal with these terms, which says a cash item, keyed as two
pub record LineInTwo (edition : ℕ) (deal deal' : DealLines) : Type 0 where
  pub opening : deal.opening ≡ deal'.opening
  pub terms : Terms
  pub opens : line_of edition deal.opening ≡ DealLine terms
  pub item : Collateral
  pub is_cash : MatchedCash terms item
  pub first : ℕ
  pub second : ℕ
  pub adds_up : first + second ≡ item.amount
  -- the line, and the two instead of it
  pub line : List ℕ
  pub first_line' : List ℕ
  pub second_line : List ℕ
  pub says : line_of edition line ≡ CollateralLine item
  pub first_says : line_of edition first_line' ≡ CollateralLine (with_amount first item)
  pub second_says : line_of edition second_line ≡ CollateralLine (with_amount second item)
  -- the other lines, and these with the first of the two
  pub others : List (List ℕ)
  pub with_first : List (List ℕ)
  pub line_there : Inserted line others deal.further
  pub first_there : Inserted first_line' others with_first
  pub second_there : Inserted second_line with_first deal'.further

-- a line C
abbrev pub is_collateral_line : List ℕ → Bool
is_collateral_line line = eqb (get_or line 0 0) (byte "C")
