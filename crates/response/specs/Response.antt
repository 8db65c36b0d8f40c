-- What the program prints. 01: The book
use Rattle.std.specs.Prelude.{ℕ, List, length}
use Rattle.result.specs.Result.{result_text}
use Rattle.book.specs.Answers.{answers_from}
use Rattle.book.specs.Book.{answered_deals, book_edition, book_refusal}

-- "The program `crmbook` lends a list for 2,048 deals (more is 13)": four numbers for each
abbrev pub places : ℕ
places = 8192

-- "It reads a book on standard input and writes `RESULT`, tab, `1`, then a line per deal, or only `REFUSED`, tab, number"
unfoldable pub printed : List ℕ → List ℕ
printed book =
    let deals = answered_deals book places in
    result_text (book_refusal book places) (length deals) (answers_from (book_edition book) 1 deals)
