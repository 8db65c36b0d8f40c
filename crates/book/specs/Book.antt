-- Answering a book. 01: The four operations, Answering a book; The book
use Rattle.std.specs.Prelude.{ℕ, ◌*◌, not, List, [], ◌∷◌, eqb, ltb, drop, length, take, if◌then◌else◌}
use Rattle.base.specs.All.{all_pass}
use Rattle.base.specs.Writing.{overwrite}
use Rattle.base.specs.FirstMet.{Test, ◌when◌, first_met}
use Rattle.text.specs.Text.{book_limit, first_line, lines_of}
use Rattle.book.specs.Deals.{DealLines, opens_deal, deals_from}
use Rattle.book.specs.Answers.{answers_from}
use Rattle.book.specs.Heading.{edition_of, heading_of, is_wrong}

-- the edition that the first line says
abbrev pub book_edition : List ℕ → ℕ
book_edition book = edition_of (heading_of (first_line book))

-- what stands behind the first line, and its lines
abbrev pub text_behind : List ℕ → List ℕ
text_behind book = drop (length (first_line book)) book

abbrev pub lines_behind : List ℕ → List (List ℕ)
lines_behind book = lines_of (text_behind book)

-- "(the header is line 1)", so the line behind it is line 2
abbrev pub deals_of : List ℕ → List DealLines
deals_of book = deals_from 2 (lines_behind book)

-- "10 longer than 65,536 bytes; 9 first line wrong; 12 the second line exists and does not begin with D and a tab; 13 the lent results
-- list has fewer than four 64-bit numbers per deal". Its places are the numbers that it holds
unfoldable pub book_tests : List ℕ → ℕ → List (Test ℕ)
book_tests book places =
    10 when ltb book_limit (length book)
    ∷ 9 when is_wrong (heading_of (first_line book))
    ∷ 12 when not (all_pass (take 1 (lines_behind book)) opens_deal)
    ∷ 13 when ltb places (4 * length (deals_of book))
    ∷ []

unfoldable pub book_refusal : List ℕ → ℕ → ℕ
book_refusal book places = first_met (book_tests book places)

-- the deals that are answered: none of a refused book
unfoldable pub answered_deals : List ℕ → ℕ → List DealLines
answered_deals book places = if eqb (book_refusal book places) 0 then deals_of book else []

-- "The reply is the refusal, or 0, and the count of deals written"
pub record BookReply : Type 0 where
  pub refusal : ℕ
  pub deals : ℕ

abbrev pub refused_reply : ℕ → BookReply
refused_reply refusal = record { refusal = refusal; deals = 0 }

-- ANSWERING A BOOK
unfoldable pub book_reply : List ℕ → ℕ → BookReply
book_reply book places = record { refusal = book_refusal book places; deals = length (answered_deals book places) }

-- the results list afterwards: "four numbers a deal"; refusals "leave the list untouched"
unfoldable pub results_after : List ℕ → List ℕ → List ℕ
results_after book before = overwrite (answers_from (book_edition book) 1 (answered_deals book (length before))) before
