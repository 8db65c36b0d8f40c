-- The numbers of what answering gives, as they are sent. 01: The four operations, Answering a book; The book
use Rattle.std.specs.Prelude.{ℕ, List, [], ◌∷◌, Result, Ok, Err}
use Rattle.deal.specs.Answers.{refusal_number}
use Rattle.relief.specs.declared.bare.Amounts.{Amounts}
use Rattle.book.specs.Answers.{malformed_line, refused_at}
use Rattle.book.specs.Book.{BookReply, refused_reply}
use Rattle.book.specs.declared.reply.BookRefusal.{BookRefusal}
use Rattle.book.specs.declared.reply.BookRefusal.TheVariants.{WrongHeading, TooLong, NoDealFirst, ListTooShort}
use Rattle.book.specs.declared.refusal.LineRefusal.{LineRefusal}
use Rattle.book.specs.declared.refusal.LineRefusal.TheVariants.{Malformed, Refused}
use Rattle.book.specs.declared.reading.RefusedLine.{RefusedLine}

-- "10 longer than 65,536 bytes; 9 first line wrong; 12 the second line exists and does not begin with D and a tab; 13 the lent results
-- list has fewer than four 64-bit numbers per deal"
unfoldable pub book_refusal_number : BookRefusal → ℕ
book_refusal_number WrongHeading = 9
book_refusal_number TooLong = 10
book_refusal_number NoDealFirst = 12
book_refusal_number ListTooShort = 13

-- 0 where the book is not refused
unfoldable pub book_answer_number : {A : Type 0} → Result A BookRefusal → ℕ
book_answer_number (Ok _) = 0
book_answer_number (Err refusal) = book_refusal_number refusal

-- the reply by its numbers: the count of deals, or the refusal
unfoldable pub reply_sent : Result ℕ BookRefusal → BookReply
reply_sent (Ok deals) = record { refusal = 0; deals = deals }
reply_sent (Err refusal) = refused_reply (book_refusal_number refusal)

-- of a line: "Refusal 11: unknown letter, wrong number of fields, bad number, or no line feed", or its operation's own
unfoldable pub line_refusal_number : LineRefusal → ℕ
line_refusal_number Malformed = malformed_line
line_refusal_number (Refused refusal) = refusal_number refusal

unfoldable pub line_answer_number : {A : Type 0} → Result A LineRefusal → ℕ
line_answer_number (Ok _) = 0
line_answer_number (Err refusal) = line_refusal_number refusal

-- the three numbers behind a deal's serial: 0 with the figures, or the refusal with the number of the refused line
unfoldable pub answer_sent : Result Amounts RefusedLine → List ℕ
answer_sent (Ok amounts) = 0 ∷ amounts.exposure ∷ amounts.rwa ∷ []
answer_sent (Err line) = refused_at (line_refusal_number line.refusal) line.number
