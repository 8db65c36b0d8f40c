-- Opening a deal and adding an item for callers in other languages, on numbers. 01: Opening a deal, Adding an item; 02: L1. Of lists of numbers
-- the paper says nothing; it says of a book's line that a "wrong number of fields" is 11, which "comes before the operation's own refusals",
-- and of a lent list that is too short, 13. In order: opening 13, 11, 1 to 5, into a list that may be longer than a record; adding 11, 40, 6, 1
-- to 5, 7, 8, to a list that is a record
use Rattle.std.specs.Prelude.{ℕ, not, List, ◌∷◌, eqb, ltb, length, replicate, if◌then◌else◌}
use Rattle.base.specs.FirstMet.{Test, ◌when◌, first_met}
use Rattle.deal.specs.Adding.{add_collateral_tests, add_guarantee_tests, with_collateral, with_guarantee}
use Rattle.deal.specs.Records.{without_protection}
use Rattle.deal.specs.Fields.{collateral_in, collateral_width, guarantee_sent, sent_guarantee_width, sent_swap_width, swap_sent, terms_in, terms_width}
use Rattle.deal.specs.Terms.{terms_tests}
use Rattle.base.specs.Writing.{overwrite}
use Rattle.hadlephoga.specs.Records.{deal_in, deal_numbers, record_length}

-- Opening

unfoldable pub opening_tests : List ℕ → List (Test ℕ)
opening_tests terms = 11 when not (eqb (length terms) terms_width) ∷ terms_tests (terms_in terms)

-- 13 is first: what stands beside another refusal needs the places
unfoldable pub opening_refusal_of : List ℕ → ℕ → ℕ
opening_refusal_of terms places = first_met (13 when ltb places record_length ∷ opening_tests terms)

-- "A new deal's lists are all zeros"; "A refusal gives no deal": a record of zeros, which is no accepted deal
unfoldable pub opened_numbers : List ℕ → List ℕ
opened_numbers terms =
    if eqb (first_met (opening_tests terms)) 0 then deal_numbers (without_protection (terms_in terms)) else replicate record_length 0

-- the lent list afterwards: untouched with 13; otherwise the record that opening gives, from the front and nothing behind it. So another
-- refusal leaves zeros, on which every further call is 40, and not an older deal that a caller might take for the new one
unfoldable pub list_opened : List ℕ → List ℕ → List ℕ
list_opened terms before = if ltb (length before) record_length then before else overwrite (opened_numbers terms) before

-- Adding

-- before what adding itself tests; numbers that are no record are 40, as in reporting
unfoldable pub adding_refusal : ℕ → List ℕ → List ℕ → List (Test ℕ) → ℕ
adding_refusal width numbers item tests =
    first_met (11 when not (eqb (length item) width) ∷ 40 when not (eqb (length numbers) record_length) ∷ tests)

abbrev pub adding_collateral_refusal : List ℕ → List ℕ → ℕ
adding_collateral_refusal numbers item = adding_refusal collateral_width numbers item (add_collateral_tests (deal_in numbers) (collateral_in item))

abbrev pub adding_guarantee_refusal : List ℕ → List ℕ → ℕ
adding_guarantee_refusal numbers item = adding_refusal sent_guarantee_width numbers item (add_guarantee_tests (deal_in numbers) (guarantee_sent item))

-- "(A line S is refused as a G is.)": one number more, and the tests of the same list
abbrev pub adding_swap_refusal : List ℕ → List ℕ → ℕ
adding_swap_refusal numbers item = adding_refusal sent_swap_width numbers item (add_guarantee_tests (deal_in numbers) (swap_sent item))

-- the record's numbers afterwards. "A refused line leaves the deal as it was before it"
unfoldable pub numbers_with_collateral : List ℕ → List ℕ → List ℕ
numbers_with_collateral numbers item =
    if eqb (adding_collateral_refusal numbers item) 0 then deal_numbers (with_collateral (deal_in numbers) (collateral_in item)) else numbers

unfoldable pub numbers_with_guarantee : List ℕ → List ℕ → List ℕ
numbers_with_guarantee numbers item =
    if eqb (adding_guarantee_refusal numbers item) 0 then deal_numbers (with_guarantee (deal_in numbers) (guarantee_sent item)) else numbers

unfoldable pub numbers_with_swap : List ℕ → List ℕ → List ℕ
numbers_with_swap numbers item =
    if eqb (adding_swap_refusal numbers item) 0 then deal_numbers (with_guarantee (deal_in numbers) (swap_sent item)) else numbers
