-- Records as numbers, built and reported: the first deal of 01's book, and where each number stands. Assumes nothing.
use Prim.Native.Nat.{ℕ, zero, suc}
use mathlib.Core.Path.{◌≡◌, refl}
use mathlib.Core.List.{List, [], ◌∷◌, ◌++◌}
use lib.ListN.{get_or, length, replicate}
use Rattle.deal.specs.Answers.{answer_number, refusal_number}
use Rattle.deal.specs.Adding.{add_collateral_refusal, add_collateral_tests, add_guarantee_refusal, add_guarantee_tests, with_collateral, with_guarantee}
use Rattle.deal.specs.Fields.{collateral_in, collateral_width, guarantee_in, guarantee_width, sent_guarantee_width, sent_swap_width, terms_in, terms_width, zero_collateral, zero_guarantee}
use Rattle.deal.specs.Collateral.{collateral_list_tests}
use Rattle.deal.specs.Guarantees.{guarantee_list_tests}
use Rattle.std.specs.Prelude.{Ok}
use Rattle.relief.specs.Grounds.{ground_number}
use Rattle.relief.specs.Outcomes.{outcome_ground, outcome_left_out, outcome_valuation}
use Rattle.relief.specs.declared.ground.Ground.TheVariants.{NotLawful, WeightNotBelow}
use Rattle.relief.specs.declared.outcome.Outcome.TheVariants.{LeftOut, Valued}
use Rattle.relief.specs.declared.report.Report.{Report}
use Rattle.relief.proofs.Computed.{computed}
use Rattle.hadlephoga.specs.Layout.{layout}
use Rattle.hadlephoga.specs.Operations.{adding_collateral_refusal, adding_guarantee_refusal, adding_refusal, adding_swap_refusal, list_opened, numbers_with_collateral, numbers_with_guarantee, numbers_with_swap, opened_numbers, opening_refusal_of, opening_tests}
use Rattle.hadlephoga.specs.Records.{deal_in, deal_numbers, in_order, slices, record_length}
use Rattle.hadlephoga.specs.Reports.{outcome_width, guarantee_report_width, list_after, report_in, report_length, report_numbers, reporting_refusal}

-- under the first edition "D 1000000 3 0 978 3 1 1800 1 0 0", "C 400000 2 1 720 978 1800 1800 1 1 1 0", "G 200000 1 1 978 1800 1800 1 1 1"
abbrev example : List ℕ
example =
    1000000 ∷ 3 ∷ 0 ∷ 0 ∷ 978 ∷ 3 ∷ 1 ∷ 1800 ∷ 1 ∷ 0 ∷ 0 ∷ 1
    ∷ 1 ∷ 400000 ∷ 2 ∷ 1 ∷ 720 ∷ 978 ∷ 1800 ∷ 1800 ∷ 1 ∷ 1 ∷ 1 ∷ 0 ∷ (replicate 165 0
    ++ 1 ∷ 200000 ∷ 1 ∷ 1 ∷ 0 ∷ 978 ∷ 1800 ∷ 1800 ∷ 1 ∷ 1 ∷ 1 ∷ replicate 166 0)

-- E* 611,314 and the weighted amount 411,314, as the book's answer has them; a number behind the report stays
example_reported :
    (reporting_refusal example 212 ≡ 0)
    × (list_after example (replicate 212 7) ≡ 611314 ∷ 388686 ∷ 0 ∷ 11314 ∷ (replicate 93 0 ++ 200000 ∷ 0 ∷ 0 ∷ 0 ∷ 0 ∷ 0 ∷ 200000 ∷ (replicate 105 0 ++ 411314 ∷ 411314 ∷ 7 ∷ [])))
unfolding computed reporting_refusal list_after report_numbers report_in deal_in slices in_order answer_number refusal_number
example_reported = (refl, refl)

-- numbers that are no record, and a list with one place too few
not_reported : (reporting_refusal (0 ∷ example) 211 ≡ 40) × (list_after (0 ∷ example) (replicate 211 7) ≡ replicate 211 0) × (reporting_refusal example 210 ≡ 13) × (list_after example (replicate 210 7) ≡ replicate 210 7)
unfolding computed reporting_refusal list_after report_numbers report_in in_order outcome_valuation outcome_ground outcome_left_out answer_number refusal_number
not_reported = (refl, refl, refl, refl)

-- the same deal, opened, and its items added
abbrev opening : List ℕ
opening = 1000000 ∷ 3 ∷ 0 ∷ 0 ∷ 978 ∷ 3 ∷ 1 ∷ 1800 ∷ 1 ∷ 0 ∷ 0 ∷ 1 ∷ []

abbrev bond : List ℕ
bond = 400000 ∷ 2 ∷ 1 ∷ 720 ∷ 978 ∷ 1800 ∷ 1800 ∷ 1 ∷ 1 ∷ 1 ∷ 0 ∷ []

abbrev promise : List ℕ
promise = 200000 ∷ 1 ∷ 1 ∷ 0 ∷ 978 ∷ 1800 ∷ 1800 ∷ 1 ∷ 1 ∷ 1 ∷ []

unfoldable built : List ℕ
unfolding computed opening_refusal_of opening_tests opened_numbers list_opened adding_refusal numbers_with_collateral numbers_with_guarantee numbers_with_swap add_collateral_tests add_guarantee_tests add_collateral_refusal add_guarantee_refusal collateral_list_tests guarantee_list_tests with_collateral with_guarantee deal_in deal_numbers slices in_order
built = numbers_with_guarantee (numbers_with_collateral (opened_numbers opening) bond) promise

example_built : (built ≡ example) × (adding_collateral_refusal example bond ≡ 0) × (adding_guarantee_refusal example promise ≡ 0)
unfolding built
example_built = (refl, refl, refl)

-- opened into a list with a number behind the record, which stays
example_opened : (opening_refusal_of opening 367 ≡ 0) × (list_opened opening (replicate 367 7) ≡ opening ++ (replicate 354 0 ++ 7 ∷ []))
unfolding built
example_opened = (refl, refl)

-- "D 500 2 7 840 1 1 30 1 0 0" is refused with 3; terms with a number too many, with 11; both leave zeros. A list with one place too few, 13
abbrev wrong_step : List ℕ
wrong_step = 500 ∷ 2 ∷ 7 ∷ 0 ∷ 840 ∷ 1 ∷ 1 ∷ 30 ∷ 1 ∷ 0 ∷ 0 ∷ 1 ∷ []

not_opened :
    (opening_refusal_of wrong_step 367 ≡ 3)
    × (list_opened wrong_step (replicate 367 7) ≡ replicate 366 0 ++ 7 ∷ [])
    × (opening_refusal_of (0 ∷ opening) 367 ≡ 11)
    × (list_opened (0 ∷ opening) (replicate 367 7) ≡ replicate 366 0 ++ 7 ∷ [])
    × (opening_refusal_of (0 ∷ opening) 365 ≡ 13)
    × (list_opened (0 ∷ opening) (replicate 365 7) ≡ replicate 365 7)
unfolding built
not_opened = (refl, refl, refl, refl, refl, refl)

-- 11 before 40, 40 before the item's own refusals, of which 4 is one; the numbers stay
not_added :
    (adding_collateral_refusal [] promise ≡ 11)
    × (adding_guarantee_refusal [] bond ≡ 11)
    × (adding_collateral_refusal (0 ∷ example) (replicate 11 0) ≡ 40)
    × (adding_guarantee_refusal (replicate 366 0) (replicate 10 0) ≡ 40)
    × (adding_collateral_refusal example (400000 ∷ 2 ∷ 1 ∷ 720 ∷ replicate 7 0) ≡ 4)
    × (numbers_with_collateral example (400000 ∷ 2 ∷ 1 ∷ 720 ∷ replicate 7 0) ≡ example)
    × (numbers_with_guarantee (0 ∷ example) promise ≡ 0 ∷ example)
unfolding built
not_added = (refl, refl, refl, refl, refl, refl, refl)

-- 100,000 days in each number that holds days (02: L11): opened, added to both lists and read back whole, and reported. Goods lent and
-- pledged at 40,000 scaled to 56,569: 1,056,569 less 377,372 is E*, of which the guarantee covers 200,000
abbrev longest : List ℕ
longest =
    1000000 ∷ 3 ∷ 0 ∷ 0 ∷ 978 ∷ 3 ∷ 1 ∷ 100000 ∷ 2 ∷ 1 ∷ 100000 ∷ 1
    ∷ 1 ∷ 400000 ∷ 2 ∷ 1 ∷ 100000 ∷ 978 ∷ 100000 ∷ 100000 ∷ 1 ∷ 1 ∷ 1 ∷ 0 ∷ (replicate 165 0
    ++ 1 ∷ 200000 ∷ 1 ∷ 1 ∷ 0 ∷ 978 ∷ 100000 ∷ 100000 ∷ 1 ∷ 1 ∷ 1 ∷ replicate 166 0)

longest_built :
    numbers_with_guarantee
    (numbers_with_collateral (opened_numbers (1000000 ∷ 3 ∷ 0 ∷ 0 ∷ 978 ∷ 3 ∷ 1 ∷ 100000 ∷ 2 ∷ 1 ∷ 100000 ∷ 1 ∷ [])) (400000 ∷ 2 ∷ 1 ∷ 100000 ∷ 978 ∷ 100000 ∷ 100000 ∷ 1 ∷ 1 ∷ 1 ∷ 0 ∷ []))
    (200000 ∷ 1 ∷ 1 ∷ 0 ∷ 978 ∷ 100000 ∷ 100000 ∷ 1 ∷ 1 ∷ 1 ∷ [])
    ≡ longest
unfolding built
longest_built = refl

longest_reported :
    (reporting_refusal longest 211 ≡ 0)
    × (list_after longest (replicate 211 7) ≡ 679197 ∷ 377372 ∷ 0 ∷ 22628 ∷ (replicate 93 0 ++ 200000 ∷ 0 ∷ 0 ∷ 0 ∷ 0 ∷ 0 ∷ 200000 ∷ (replicate 105 0 ++ 479197 ∷ 479197 ∷ [])))
unfolding computed reporting_refusal list_after report_numbers report_in deal_in slices in_order answer_number refusal_number
longest_reported = (refl, refl)

-- so many numbers, counted up
unfoldable counted_up : ℕ → ℕ → List ℕ
counted_up first zero = []
counted_up first (suc n) = first ∷ counted_up (suc first) n

-- each number of a record is the field that it should be: of the terms, the counts, and the first and last item of each list
record_in_place :
    ((deal_in (counted_up 0 366)).terms ≡ terms_in (0 ∷ 1 ∷ 2 ∷ 3 ∷ 4 ∷ 5 ∷ 6 ∷ 7 ∷ 8 ∷ 9 ∷ 10 ∷ 11 ∷ []))
    × ((deal_in (counted_up 0 366)).collateral.count ≡ 12)
    × (get_or (deal_in (counted_up 0 366)).collateral.items 0 zero_collateral ≡ collateral_in (counted_up 13 11))
    × (get_or (deal_in (counted_up 0 366)).collateral.items 15 zero_collateral ≡ collateral_in (counted_up 178 11))
    × ((deal_in (counted_up 0 366)).guarantees.count ≡ 189)
    × (get_or (deal_in (counted_up 0 366)).guarantees.items 0 zero_guarantee ≡ guarantee_in (counted_up 190 11))
    × (get_or (deal_in (counted_up 0 366)).guarantees.items 15 zero_guarantee ≡ guarantee_in (counted_up 355 11))
    × (length (counted_up 0 366) ≡ record_length)
    × (deal_numbers (deal_in (counted_up 0 366)) ≡ counted_up 0 366)
unfolding built counted_up
record_in_place = (refl, refl, refl, refl, refl, refl, refl, refl, refl)

-- a report with other numbers in every part
abbrev sample : Report
sample = record {
  answer = Ok tt;
  exposure = 1;
  collateral = record { outcome = Valued (record { value = 2; haircut_loss = 3; maturity_loss = 4; cut_loss = 5 }) } ∷ record { outcome = LeftOut NotLawful 6 } ∷ [];
  guarantees = record { outcome = Valued (record { value = 7; haircut_loss = 8; maturity_loss = 9; cut_loss = 10 }); portion = 11 } ∷ record { outcome = LeftOut WeightNotBelow 12; portion = 13 } ∷ [];
  uncovered = 14;
  rwa = 15;
}

report_in_place :
    report_numbers sample
    ≡ 1 ∷ 2 ∷ 0 ∷ 3 ∷ 4 ∷ 5 ∷ 0 ∷ 0 ∷ 21 ∷ 0 ∷ 0 ∷ 0 ∷ 6
    ∷ 7 ∷ 0 ∷ 8 ∷ 9 ∷ 10 ∷ 0 ∷ 11 ∷ 0 ∷ 29 ∷ 0 ∷ 0 ∷ 0 ∷ 12 ∷ 13 ∷ 14 ∷ 15 ∷ []
unfolding report_numbers in_order outcome_valuation outcome_ground outcome_left_out ground_number
report_in_place = refl

-- THE LAYOUT, which has a number: how many numbers each part has, and what stands where. Whoever changes one of these has to change the
-- layout's number, and this fact with it
layout_4 :
    layout ∷ terms_width ∷ collateral_width ∷ guarantee_width ∷ sent_guarantee_width ∷ sent_swap_width ∷ record_length ∷ outcome_width ∷ guarantee_report_width ∷ report_length ∷ []
    ≡ 4 ∷ 12 ∷ 11 ∷ 11 ∷ 10 ∷ 11 ∷ 366 ∷ 6 ∷ 7 ∷ 211 ∷ []
layout_4 = refl

-- a party's sovereign's step and the edition, on numbers (02: L5): an unrated bank under a sovereign of step 6 and one that backs it under
-- one of step 4, opened, added and reported. 150 and 100 under the second edition; 50 both under the first, and 150 both under the third (02:
-- L9), where nothing is recognised
abbrev floored : ℕ → List ℕ
floored edition =
    numbers_with_guarantee (opened_numbers (1000 ∷ 2 ∷ 0 ∷ 6 ∷ 978 ∷ 3 ∷ 1 ∷ 1800 ∷ 1 ∷ 0 ∷ 0 ∷ edition ∷ []))
    (600 ∷ 2 ∷ 0 ∷ 4 ∷ 978 ∷ 1800 ∷ 1800 ∷ 1 ∷ 1 ∷ 1 ∷ [])

floored_reported :
    (list_after (floored 2) (replicate 211 7) ≡ 1000 ∷ (replicate 96 0 ++ 600 ∷ 0 ∷ 0 ∷ 0 ∷ 0 ∷ 0 ∷ 600 ∷ (replicate 105 0 ++ 400 ∷ 1200 ∷ [])))
    × (list_after (floored 1) (replicate 211 7) ≡ 1000 ∷ (replicate 96 0 ++ 0 ∷ 29 ∷ 0 ∷ 0 ∷ 0 ∷ 600 ∷ 0 ∷ (replicate 105 0 ++ 1000 ∷ 500 ∷ [])))
    × (list_after (floored 3) (replicate 211 7) ≡ 1000 ∷ (replicate 96 0 ++ 0 ∷ 29 ∷ 0 ∷ 0 ∷ 0 ∷ 600 ∷ 0 ∷ (replicate 105 0 ++ 1000 ∷ 1500 ∷ [])))
    × (floored 4 ≡ replicate 366 0)
unfolding built computed reporting_refusal list_after report_numbers report_in deal_in slices in_order answer_number refusal_number
floored_reported = (refl, refl, refl, refl)

-- SWAPS ON NUMBERS. 02: L1

-- a deal of 1,000 by a corporate that weighs 100, with a swap of 2,000 without the condition, in another currency: 600 before it, 552 after a
-- haircut of 8 percent. With it met, 1,840, of which 1,000 cover
abbrev swapped : ℕ → List ℕ
swapped restructuring =
    numbers_with_swap (opened_numbers (1000 ∷ 3 ∷ 0 ∷ 0 ∷ 978 ∷ 3 ∷ 1 ∷ 1800 ∷ 1 ∷ 0 ∷ 0 ∷ 1 ∷ []))
    (2000 ∷ 1 ∷ 1 ∷ 0 ∷ 840 ∷ 1800 ∷ 1800 ∷ 1 ∷ 1 ∷ 1 ∷ restructuring ∷ [])

swap_built : swapped 0 ≡ 1000 ∷ 3 ∷ 0 ∷ 0 ∷ 978 ∷ 3 ∷ 1 ∷ 1800 ∷ 1 ∷ 0 ∷ 0 ∷ 1
    ∷ (replicate 177 0 ++ 1 ∷ 2000 ∷ 1 ∷ 1 ∷ 0 ∷ 840 ∷ 1800 ∷ 1800 ∷ 1 ∷ 1 ∷ 1 ∷ 1 ∷ replicate 165 0)
unfolding built
swap_built = refl

swap_reported :
    (list_after (swapped 0) (replicate 211 7) ≡ 1000 ∷ (replicate 96 0 ++ 552 ∷ 0 ∷ 48 ∷ 0 ∷ 1400 ∷ 0 ∷ 552 ∷ (replicate 105 0 ++ 448 ∷ 448 ∷ [])))
    × (list_after (swapped 1) (replicate 211 7) ≡ 1000 ∷ (replicate 96 0 ++ 1840 ∷ 0 ∷ 160 ∷ 0 ∷ 0 ∷ 0 ∷ 1000 ∷ (replicate 105 0 ++ 0 ∷ 0 ∷ [])))
    -- an entry that is neither: 8, and the record stays
    × (adding_swap_refusal (swapped 0) (2000 ∷ 1 ∷ 1 ∷ 0 ∷ 840 ∷ 1800 ∷ 1800 ∷ 1 ∷ 1 ∷ 1 ∷ 18446744073709551615 ∷ []) ≡ 8)
    × (swapped 2 ≡ opened_numbers (1000 ∷ 3 ∷ 0 ∷ 0 ∷ 978 ∷ 3 ∷ 1 ∷ 1800 ∷ 1 ∷ 0 ∷ 0 ∷ 1 ∷ []))
    × (swapped 18446744073709551615 ≡ swapped 2)
    × (numbers_with_swap example promise ≡ example)
    × (adding_swap_refusal [] promise ≡ 11)
    × (adding_swap_refusal (replicate 366 0) promise ≡ 11)
    -- eleven numbers, no more and no less; ten of a guarantee
    × (adding_swap_refusal example promise ≡ 11)
    × (adding_swap_refusal example (0 ∷ bond) ≡ 11)
    × (adding_guarantee_refusal example (2000 ∷ 1 ∷ 1 ∷ 0 ∷ 840 ∷ 1800 ∷ 1800 ∷ 1 ∷ 1 ∷ 1 ∷ 0 ∷ []) ≡ 11)
    × (adding_swap_refusal (0 ∷ example) (replicate 11 0) ≡ 40)
unfolding built computed reporting_refusal list_after report_numbers report_in deal_in slices in_order answer_number refusal_number
swap_reported = (refl, refl, refl, refl, refl, refl, refl, refl, refl, refl, refl, refl)
