-- The numbers of the answers. 01: The four operations.
use Rattle.std.specs.Prelude.{ℕ, Result, Ok, Err}
use Rattle.deal.specs.declared.refusal.Refusal.{Refusal}
use Rattle.deal.specs.declared.refusal.Refusal.TheVariants.{AmountAboveLimit, UnknownCode, WrongStep, WrongCurrency, OutsideRange, ListFull, ResidualAboveOriginal, WrongCondition, RecordNotAccepted}

-- its number for each case
unfoldable pub refusal_number : Refusal → ℕ
-- "amount over the limit"
refusal_number AmountAboveLimit = 1
-- "unknown class, kind or type", and edition (02: L5); of a netting set table and side (02: L6)
refusal_number UnknownCode = 2
-- "step above 6, or not 0 where 0 is due", and a wrong step of the sovereign of incorporation (02: L5)
refusal_number WrongStep = 3
-- "currency"
refusal_number WrongCurrency = 4
-- "interval, term or issue life outside its range"; of a netting set security number (02: L6)
refusal_number OutsideRange = 5
-- "that list is full"
refusal_number ListFull = 6
-- "residual term above original"
refusal_number ResidualAboveOriginal = 7
-- "a condition neither 0 nor 1"
refusal_number WrongCondition = 8
-- "a record with a list count above sixteen, or with a field, of the deal or of a counted item, that opening or adding would
-- refuse"
refusal_number RecordNotAccepted = 40

-- of an answer: the number of its refusal; 0 where nothing is refused
unfoldable pub answer_number : {A : Type 0} → Result A Refusal → ℕ
answer_number (Ok _) = 0
answer_number (Err refusal) = refusal_number refusal
