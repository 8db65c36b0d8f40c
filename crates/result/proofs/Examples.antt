-- Texts of results and of lists of numbers, written by the definitions themselves. 01: The book; 02: L14. Assumes nothing.
use mathlib.Core.Path.{◌≡◌, refl}
use mathlib.Core.List.{[], ◌∷◌}
use Rattle.text.specs.Bytes.{bytes}
use Rattle.result.specs.Numbers.{digit_text, number_text}
use Rattle.result.specs.Result.{row, rows, result_text, fits, written}
use Rattle.result.specs.List.{number_lines, list_text, list_fits, list_written}

-- the example of 01
pub three_deals :
    result_text 0 3 (1 ∷ 0 ∷ 611314 ∷ 411314 ∷ 2 ∷ 3 ∷ 5 ∷ 0 ∷ 3 ∷ 0 ∷ 900 ∷ 675 ∷ [])
    ≡ bytes "RESULT\t1\n1\t0\t611314\t411314\n2\t3\t5\t0\n3\t0\t900\t675\n"
unfolding result_text rows row number_text digit_text
three_deals = refl

-- every refusal of a book; nothing of a list is printed beside one
pub refusals :
    result_text 9 0 [] ∷ result_text 10 0 [] ∷ result_text 12 0 [] ∷ result_text 13 1 (1 ∷ 0 ∷ 5 ∷ 5 ∷ []) ∷ []
    ≡ bytes "REFUSED\t9\n" ∷ bytes "REFUSED\t10\n" ∷ bytes "REFUSED\t12\n" ∷ bytes "REFUSED\t13\n" ∷ []
unfolding result_text number_text digit_text
refusals = refl

-- large numbers in each place of a line
pub large : result_text 0 1 (2048 ∷ 11 ∷ 1000000000000 ∷ 1500000000000 ∷ []) ≡ bytes "RESULT\t1\n2048\t11\t1000000000000\t1500000000000\n"
unfolding result_text rows row number_text digit_text
large = refl

-- no deal: the heading alone
pub no_deals : result_text 0 0 [] ≡ bytes "RESULT\t1\n"
unfolding result_text rows
no_deals = refl

-- of one deal: a buffer one byte too short for its longest text, a list of three numbers, and enough of both
pub short_buffer : written 0 1 (1 ∷ 0 ∷ 5 ∷ 5 ∷ []) 112 ≡ []
unfolding written fits
short_buffer = refl

pub short_list : written 0 1 (1 ∷ 0 ∷ 5 ∷ []) 113 ≡ []
unfolding written fits
short_list = refl

pub just_enough : written 0 1 (1 ∷ 0 ∷ 5 ∷ 5 ∷ []) 113 ≡ bytes "RESULT\t1\n1\t0\t5\t5\n"
unfolding written fits result_text rows row number_text digit_text
just_enough = refl

-- the largest 64-bit number has 20 digits
pub largest : number_text 18446744073709551615 ≡ bytes "18446744073709551615"
unfolding number_text digit_text
largest = refl

-- three numbers, no number, and a refusal, beside which no number is written
pub three_numbers : list_text 0 3 (1 ∷ 12 ∷ 65536 ∷ []) ≡ bytes "1\n12\n65536\n"
unfolding list_text number_lines number_text digit_text
three_numbers = refl

pub no_numbers : list_text 0 0 (1 ∷ []) ≡ []
unfolding list_text number_lines
no_numbers = refl

pub list_refusal : list_text 10 1 (1 ∷ []) ≡ bytes "REFUSED\t10\n"
unfolding list_text number_text digit_text
list_refusal = refl

-- of one number: a buffer one byte too short for its longest line, an empty list, and enough of both
pub short_list_buffer : list_written 0 1 (7 ∷ []) 49 ≡ []
unfolding list_written list_fits
short_list_buffer = refl

pub few_numbers : list_written 0 1 [] 50 ≡ []
unfolding list_written list_fits
few_numbers = refl

pub enough_for_one : list_written 0 1 (7 ∷ []) 50 ≡ bytes "7\n"
unfolding list_written list_fits list_text number_lines number_text digit_text
enough_for_one = refl
