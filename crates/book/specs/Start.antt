-- What a text starts with: a line of the deal before it, or a deal. Between a book's bytes, which are read from a place on, and its lines.
use Rattle.std.specs.Prelude.{ℕ, Bool, false, not, List, [], ◌∷◌, drop, length}
use Rattle.text.specs.Text.{first_line, lines_of}
use Rattle.book.specs.Deals.{DealLines, opens_deal, own_lines}

-- whether a text starts with a line that opens no deal
unfoldable pub own_first : List ℕ → Bool
own_first [] = false
own_first (b ∷ bs) = not (opens_deal (b ∷ bs))

-- the deal that a text starts with, its first line having this number
abbrev pub first_deal : ℕ → List ℕ → DealLines
first_deal number text = record {
  number = number;
  opening = first_line text;
  further = own_lines (lines_of (drop (length (first_line text)) text));
}
