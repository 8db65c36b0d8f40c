-- The laws of answers and their numbers. Assumes nothing.
use Rattle.std.specs.Prelude.{ℕ, ◌≡◌, Bool, [], ◌∷◌, get_or, eqb, Result, Ok, Err, ⊤, is_ok}
use mathlib.Core.Path.{refl, sym, ap, ◌∙◌}
use mathlib.Core.List.{map}
use Rattle.deal.specs.Answers.{answer_number, refusal_number}
use Rattle.deal.specs.declared.refusal.Refusal.{Refusal}
use Rattle.deal.specs.declared.refusal.Refusal.TheVariants.{AmountAboveLimit, UnknownCode, WrongStep, WrongCurrency, OutsideRange, ListFull, ResidualAboveOriginal, WrongCondition, RecordNotAccepted}

-- an answer is no refusal exactly if its number is 0
pub accepted_by_number : {A : Type 0} (r : Result A Refusal) → is_ok r ≡ eqb (answer_number r) 0
unfolding answer_number refusal_number
accepted_by_number (Ok _) = refl
accepted_by_number (Err AmountAboveLimit) = refl
accepted_by_number (Err UnknownCode) = refl
accepted_by_number (Err WrongStep) = refl
accepted_by_number (Err WrongCurrency) = refl
accepted_by_number (Err OutsideRange) = refl
accepted_by_number (Err ListFull) = refl
accepted_by_number (Err ResidualAboveOriginal) = refl
accepted_by_number (Err WrongCondition) = refl
accepted_by_number (Err RecordNotAccepted) = refl

-- what being no refusal tells of an answer whose number is known
pub agreed : {A : Type 0} (r : Result A Refusal) {b : Bool} {n : ℕ} → b ≡ is_ok r → answer_number r ≡ n → b ≡ eqb n 0
agreed r e h = e ∙ accepted_by_number r ∙ ap (λ m. eqb m 0) h

-- the answer with a number; 9 and above stand for 40
abbrev answer_of : ℕ → Result ⊤ Refusal
answer_of n =
    get_or
    (Ok tt
    ∷ Err AmountAboveLimit
    ∷ Err UnknownCode
    ∷ Err WrongStep
    ∷ Err WrongCurrency
    ∷ Err OutsideRange
    ∷ Err ListFull
    ∷ Err ResidualAboveOriginal
    ∷ Err WrongCondition
    ∷ [])
    n
    (Err RecordNotAccepted)

back : (a : Result ⊤ Refusal) → answer_of (answer_number a) ≡ a
unfolding answer_number refusal_number
back (Ok tt) = refl
back (Err AmountAboveLimit) = refl
back (Err UnknownCode) = refl
back (Err WrongStep) = refl
back (Err WrongCurrency) = refl
back (Err OutsideRange) = refl
back (Err ListFull) = refl
back (Err ResidualAboveOriginal) = refl
back (Err WrongCondition) = refl
back (Err RecordNotAccepted) = refl

-- a number is that of one answer, so a promise about the number determines the answer
pub number_unique : (a b : Result ⊤ Refusal) → answer_number a ≡ answer_number b → a ≡ b
number_unique a b e = sym (back a) ∙ ap answer_of e ∙ back b

-- the numbers of 01, in its order
numbers : map (λ answer. answer_number {A = ⊤} answer) (
    Ok tt
    ∷ Err AmountAboveLimit
    ∷ Err UnknownCode
    ∷ Err WrongStep
    ∷ Err WrongCurrency
    ∷ Err OutsideRange
    ∷ Err ListFull
    ∷ Err ResidualAboveOriginal
    ∷ Err WrongCondition
    ∷ Err RecordNotAccepted
    ∷ []
    )
    ≡ 0 ∷ 1 ∷ 2 ∷ 3 ∷ 4 ∷ 5 ∷ 6 ∷ 7 ∷ 8 ∷ 40 ∷ []
unfolding answer_number refusal_number
numbers = refl
