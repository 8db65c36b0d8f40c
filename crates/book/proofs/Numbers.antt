-- The numbers of answers tell whether they are refusals. Assumes nothing.
use Rattle.std.proofs.Common.{ℕ, List, [], ◌∷◌, ◌≡◌, false, refl, eqb, Ok, Err}
use Rattle.std.specs.Prelude.{Result, map, ⊤}
use Rattle.book.specs.Book.{refused_reply}
use Rattle.deal.specs.Answers.{refusal_number}
use Rattle.deal.specs.declared.refusal.Refusal.TheVariants.{AmountAboveLimit, UnknownCode, WrongStep, WrongCurrency, OutsideRange, ListFull, ResidualAboveOriginal, WrongCondition, RecordNotAccepted}
use Rattle.relief.specs.declared.bare.Amounts.{Amounts}
use Rattle.book.specs.Answers.{refused_at}
use Rattle.book.specs.Reply.{answer_sent, book_answer_number, book_refusal_number, line_answer_number, line_refusal_number, reply_sent}
use Rattle.book.specs.declared.reading.RefusedLine.{RefusedLine}
use Rattle.book.specs.declared.reply.BookRefusal.{BookRefusal}
use Rattle.book.specs.declared.reply.BookRefusal.TheVariants.{WrongHeading, TooLong, NoDealFirst, ListTooShort}
use Rattle.book.specs.declared.refusal.LineRefusal.{LineRefusal}
use Rattle.book.specs.declared.refusal.LineRefusal.TheVariants.{Malformed, Refused}

-- a refusal has a number of its own
pub refusal_some : (r : LineRefusal) → eqb (line_refusal_number r) 0 ≡ false
unfolding line_refusal_number refusal_number
refusal_some Malformed = refl
refusal_some (Refused AmountAboveLimit) = refl
refusal_some (Refused UnknownCode) = refl
refusal_some (Refused WrongStep) = refl
refusal_some (Refused WrongCurrency) = refl
refusal_some (Refused OutsideRange) = refl
refusal_some (Refused ListFull) = refl
refusal_some (Refused ResidualAboveOriginal) = refl
refusal_some (Refused WrongCondition) = refl
refusal_some (Refused RecordNotAccepted) = refl

-- where nothing is refused
pub unrefused : {A : Type 0} (r : Result A LineRefusal) → ((e : LineRefusal) → r ≡ Err e → ⊥) → line_answer_number r ≡ 0
unfolding line_answer_number
unrefused (Ok _) none = refl
unrefused (Err e) none = absurd (none e refl)

pub book_refusal_some : (r : BookRefusal) → eqb (book_refusal_number r) 0 ≡ false
unfolding book_refusal_number
book_refusal_some WrongHeading = refl
book_refusal_some TooLong = refl
book_refusal_some NoDealFirst = refl
book_refusal_some ListTooShort = refl

-- a deal's answer is sent as three numbers
pub record Three (numbers : List ℕ) : Type 0 where
  pub refusal : ℕ
  pub figure : ℕ
  pub rwa : ℕ
  pub sent : numbers ≡ refusal ∷ figure ∷ rwa ∷ []

pub three : (a : Result Amounts RefusedLine) → Three (answer_sent a)
unfolding answer_sent refused_at
three (Ok amounts) = record { refusal = 0; figure = amounts.exposure; rwa = amounts.rwa; sent = refl }
three (Err line) = record { refusal = line_refusal_number line.refusal; figure = line.number; rwa = 0; sent = refl }

-- a book's reply as it is sent: three deals, and each refusal
replies : map reply_sent (Ok 3 ∷ Err TooLong ∷ Err WrongHeading ∷ Err NoDealFirst ∷ Err ListTooShort ∷ [])
    ≡ record { refusal = 0; deals = 3 } ∷ map refused_reply (10 ∷ 9 ∷ 12 ∷ 13 ∷ [])
unfolding reply_sent book_refusal_number
replies = refl

-- an answer about a book, by its number alone
book_numbers : map (λ answer. book_answer_number {A = ⊤} answer) (Ok tt ∷ Err TooLong ∷ Err ListTooShort ∷ []) ≡ 0 ∷ 10 ∷ 13 ∷ []
unfolding book_answer_number book_refusal_number
book_numbers = refl

-- and about a line: one that is malformed, and two that their operations refuse
line_numbers : map (λ answer. line_answer_number {A = ⊤} answer) (Ok tt ∷ Err Malformed ∷ Err (Refused ListFull) ∷ Err (Refused RecordNotAccepted) ∷ [])
    ≡ 0 ∷ 11 ∷ 6 ∷ 40 ∷ []
unfolding line_answer_number line_refusal_number refusal_number
line_numbers = refl

-- the three numbers behind a deal's serial: its figures, or the refusal with the number of the line
sent : map answer_sent (
    Ok record { exposure = 17; rwa = 4 }
    ∷ Err record { number = 5; refusal = Malformed }
    ∷ Err record { number = 6; refusal = Refused WrongStep }
    ∷ []
    )
    ≡ (0 ∷ 17 ∷ 4 ∷ []) ∷ (11 ∷ 5 ∷ 0 ∷ []) ∷ (3 ∷ 6 ∷ 0 ∷ []) ∷ []
unfolding answer_sent refused_at line_refusal_number refusal_number
sent = refl
