-- What the program `crmrepair` writes: L14's tool in the manner of `crmbook` (01: The book). That it has a program, and where that writes, is no rule
-- of the paper.
use Rattle.std.specs.Prelude.{ℕ, List, length}
use Rattle.text.specs.Text.{book_limit}
use Rattle.result.specs.List.{list_text}
use Rattle.mail.specs.Reply.{numbers_written, bytes_written, repair_refusal}

-- `crmrepair` lends a second buffer and a list for the longest book, so that it is refused only where it is too long (`only_too_long`)
abbrev pub refusal_of : List ℕ → ℕ
refusal_of book = repair_refusal book book_limit book_limit

-- the numbers of the lines that it altered; none of a refused book
abbrev pub altered_numbers : List ℕ → List ℕ
altered_numbers book = numbers_written book book_limit book_limit

-- to standard output the repaired book, or nothing
unfoldable pub book_written : List ℕ → List ℕ
book_written book = bytes_written book book_limit book_limit

-- to standard error the numbers of the altered lines, one a line; of a refused book "only `REFUSED`, tab, number", and a line feed
unfoldable pub notice_written : List ℕ → List ℕ
notice_written book = list_text (refusal_of book) (length (altered_numbers book)) (altered_numbers book)
