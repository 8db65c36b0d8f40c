-- Deals and books answered by earlier rules, by the definitions themselves: on either side of 36,000 and of 100,000 days, and before the
-- sovereign floor. Assumes nothing.
use Prim.Native.Nat.{ℕ}
use mathlib.Core.Path.{◌≡◌, refl}
use mathlib.Core.Bool.{true, false}
use mathlib.Core.List.{List, [], ◌∷◌, ◌++◌, map}
use lib.ListN.{drop, get_or, length, replicate}
use Rattle.tables.specs.Table.{Table}
use Rattle.text.specs.Bytes.{bytes}
use Rattle.deal.specs.Fields.{collateral_in, guarantee_in, terms_in, zero_guarantee}
use Rattle.deal.specs.Records.{deal_with}
use Rattle.deal.specs.declared.deal.Deal.{Deal}
use Rattle.lines.specs.declared.line.Line.TheVariants.{DealLine, CollateralLine, GuaranteeLine, Malformed}
use Rattle.book.specs.Book.{lines_behind}
use Rattle.book.proofs.Examples.{example, worked}
use Rattle.earlier.specs.BeforeFloor.{before_floor, heading_before, line_before, new_fields_allowed}
use Rattle.earlier.specs.Books.{answered_deals_by, answers_by, book_refusal_by, book_tests_by, deal_answer_by, line_opened_by, line_refusal_by, lines_answer_by, opening_refusal_by, reported_by, results_by, with_line_by}
use Rattle.earlier.specs.Days.{add_collateral_refusal_up_to, add_guarantee_refusal_up_to, deal_none_above, line_none_above, lines_none_above, opened_up_to, report_refusal_up_to, report_up_to, results_up_to, terms_refusal_up_to, with_collateral_up_to, with_guarantee_up_to}
use Rattle.earlier.specs.Deals.{accepted_by, add_collateral_refusal_by, add_guarantee_refusal_by, collateral_refusal_by, deal_opened_by, guarantee_refusal_by, report_by, report_refusal_by, terms_refusal_by, with_collateral_by, with_guarantee_by}
use Rattle.earlier.specs.Rules.{up_to}

-- in each field that holds days
abbrev answers : ℕ → List (List ℕ)
answers limit =
    map (λ f. map f (0 ∷ 1 ∷ 36000 ∷ 36001 ∷ 100000 ∷ 100001 ∷ [])) (
    (λ n. terms_refusal_up_to limit (terms_in (500 ∷ 3 ∷ 0 ∷ 0 ∷ 978 ∷ 3 ∷ 1 ∷ n ∷ 1 ∷ 0 ∷ 0 ∷ 1 ∷ [])))
    ∷ (λ n. terms_refusal_up_to limit (terms_in (500 ∷ 3 ∷ 0 ∷ 0 ∷ 978 ∷ 3 ∷ 1 ∷ 1800 ∷ 2 ∷ 1 ∷ n ∷ 1 ∷ [])))
    ∷ (λ n. collateral_refusal_by (up_to limit) (collateral_in (5 ∷ 2 ∷ 1 ∷ n ∷ 978 ∷ 1 ∷ 1 ∷ 1 ∷ 1 ∷ 1 ∷ 1 ∷ [])))
    ∷ (λ n. collateral_refusal_by (up_to limit) (collateral_in (5 ∷ 1 ∷ 0 ∷ 0 ∷ 978 ∷ n ∷ limit ∷ 1 ∷ 1 ∷ 1 ∷ 1 ∷ [])))
    ∷ (λ n. collateral_refusal_by (up_to limit) (collateral_in (5 ∷ 1 ∷ 0 ∷ 0 ∷ 978 ∷ 1 ∷ n ∷ 1 ∷ 1 ∷ 1 ∷ 1 ∷ [])))
    ∷ (λ n. guarantee_refusal_by (up_to limit) (guarantee_in (5 ∷ 3 ∷ 6 ∷ 0 ∷ 978 ∷ n ∷ limit ∷ 1 ∷ 1 ∷ 1 ∷ [])))
    ∷ (λ n. guarantee_refusal_by (up_to limit) (guarantee_in (5 ∷ 3 ∷ 6 ∷ 0 ∷ 978 ∷ 1 ∷ n ∷ 1 ∷ 1 ∷ 1 ∷ [])))
    ∷ [])

fields_answered : (answers 36000 ≡ replicate 7 (5 ∷ 0 ∷ 0 ∷ 5 ∷ 5 ∷ 5 ∷ [])) × (answers 100000 ≡ replicate 7 (5 ∷ 0 ∷ 0 ∷ 0 ∷ 0 ∷ 5 ∷ []))
unfolding worked terms_refusal_by collateral_refusal_by guarantee_refusal_by
fields_answered = (refl, refl)

-- a deal whose every day is n, with state stock pledged and a state's guarantee
abbrev holding : ℕ → Deal
holding n =
    deal_with (terms_in (1000000 ∷ 3 ∷ 0 ∷ 0 ∷ 978 ∷ 3 ∷ 1 ∷ n ∷ 2 ∷ 1 ∷ n ∷ 1 ∷ []))
    (collateral_in (400000 ∷ 2 ∷ 1 ∷ n ∷ 978 ∷ n ∷ n ∷ 1 ∷ 1 ∷ 1 ∷ 0 ∷ []) ∷ [])
    (guarantee_in (200000 ∷ 1 ∷ 1 ∷ 0 ∷ 978 ∷ n ∷ n ∷ 1 ∷ 1 ∷ 1 ∷ []) ∷ [])

-- goods lent and pledged at 40,000 scaled by 20 days over 10 to 56,569: 1,000,000 raised to 1,056,569, less 377,372 of the stock, is E*
records_answered :
    map (λ n. map (λ limit. (report_up_to limit (holding n)).exposure ∷ (report_up_to limit (holding n)).rwa ∷ []) (36000 ∷ 100000 ∷ [])) (36000 ∷ 36001 ∷ 100000 ∷ 100001 ∷ [])
    ≡ ((679197 ∷ 479197 ∷ []) ∷ (679197 ∷ 479197 ∷ []) ∷ [])
    ∷ ((0 ∷ 0 ∷ []) ∷ (679197 ∷ 479197 ∷ []) ∷ [])
    ∷ ((0 ∷ 0 ∷ []) ∷ (679197 ∷ 479197 ∷ []) ∷ [])
    ∷ ((0 ∷ 0 ∷ []) ∷ (0 ∷ 0 ∷ []) ∷ [])
    ∷ []
unfolding worked report_by accepted_by terms_refusal_by collateral_refusal_by guarantee_refusal_by
records_answered = refl

-- which of them hold a day above 36,000; places past a count do not matter
records_short : map (λ n. deal_none_above 36000 (holding n)) (36000 ∷ 36001 ∷ []) ≡ true ∷ false ∷ []
records_short = refl

-- the same in a book, with the loan of 01 behind it
abbrev book : List ℕ → List ℕ
book n =
    bytes "CRM\t1\nD\t1000000\t3\t0\t978\t3\t1\t"
    ++ n ++ bytes "\t2\t1\t" ++ n ++ bytes "\nC\t400000\t2\t1\t" ++ n ++ bytes "\t978\t" ++ n ++ bytes "\t" ++ n
    ++ bytes "\t1\t1\t1\t0\nG\t200000\t1\t1\t978\t" ++ n ++ bytes "\t" ++ n
    ++ bytes "\t1\t1\t1\nD\t900\t4\t0\t978\t3\t1\t90\t1\t0\t0\n"

books_answered :
    map (λ n. map (λ limit. results_up_to limit (book n) (replicate 9 7)) (36000 ∷ 100000 ∷ [])) (bytes "36000" ∷ bytes "36001" ∷ bytes "100000" ∷ bytes "100001" ∷ [])
    ≡ ((1 ∷ 0 ∷ 679197 ∷ 479197 ∷ 2 ∷ 0 ∷ 900 ∷ 675 ∷ 7 ∷ []) ∷ (1 ∷ 0 ∷ 679197 ∷ 479197 ∷ 2 ∷ 0 ∷ 900 ∷ 675 ∷ 7 ∷ []) ∷ [])
    ∷ ((1 ∷ 5 ∷ 2 ∷ 0 ∷ 2 ∷ 0 ∷ 900 ∷ 675 ∷ 7 ∷ []) ∷ (1 ∷ 0 ∷ 679197 ∷ 479197 ∷ 2 ∷ 0 ∷ 900 ∷ 675 ∷ 7 ∷ []) ∷ [])
    ∷ ((1 ∷ 5 ∷ 2 ∷ 0 ∷ 2 ∷ 0 ∷ 900 ∷ 675 ∷ 7 ∷ []) ∷ (1 ∷ 0 ∷ 679197 ∷ 479197 ∷ 2 ∷ 0 ∷ 900 ∷ 675 ∷ 7 ∷ []) ∷ [])
    ∷ ((1 ∷ 5 ∷ 2 ∷ 0 ∷ 2 ∷ 0 ∷ 900 ∷ 675 ∷ 7 ∷ []) ∷ (1 ∷ 5 ∷ 2 ∷ 0 ∷ 2 ∷ 0 ∷ 900 ∷ 675 ∷ 7 ∷ []) ∷ [])
    ∷ []
unfolding worked results_by answered_deals_by book_refusal_by book_tests_by answers_by deal_answer_by lines_answer_by reported_by with_line_by line_refusal_by line_opened_by opening_refusal_by report_by report_refusal_by with_collateral_by with_guarantee_by add_collateral_refusal_by add_guarantee_refusal_by deal_opened_by accepted_by terms_refusal_by collateral_refusal_by guarantee_refusal_by
books_answered = refl

books_short : map (λ n. lines_none_above 36000 1 (lines_behind (book n))) (bytes "36000" ∷ bytes "36001" ∷ []) ≡ true ∷ false ∷ []
unfolding worked line_none_above
books_short = refl

-- one long day: every day of a deal is 1 but one, which is n. The deal's term, the life of goods lent and pledged, and the original terms
abbrev alone : ℕ → List Deal
alone n =
    map (λ d. deal_with (terms_in (1000000 ∷ 3 ∷ 0 ∷ 0 ∷ 978 ∷ 1 ∷ 1 ∷ get_or d 0 1 ∷ 3 ∷ 1 ∷ get_or d 1 1 ∷ 1 ∷ []))
    (collateral_in (400000 ∷ 4 ∷ 1 ∷ get_or d 2 1 ∷ 978 ∷ 1 ∷ get_or d 3 1 ∷ 1 ∷ 1 ∷ 1 ∷ 0 ∷ []) ∷ [])
    (guarantee_in (200000 ∷ 1 ∷ 1 ∷ 0 ∷ 978 ∷ 1 ∷ get_or d 4 1 ∷ 1 ∷ 1 ∷ 1 ∷ []) ∷ []))
    ((n ∷ []) ∷ (1 ∷ n ∷ []) ∷ (1 ∷ 1 ∷ n ∷ []) ∷ (1 ∷ 1 ∷ 1 ∷ n ∷ []) ∷ (1 ∷ 1 ∷ 1 ∷ 1 ∷ n ∷ []) ∷ [])

one_long_day :
    (map (λ limit. map (λ n. map (report_refusal_up_to limit) (alone n)) (1 ∷ 36000 ∷ 36001 ∷ 100000 ∷ 100001 ∷ [])) (36000 ∷ 100000 ∷ [])
    ≡ (replicate 5 0 ∷ replicate 5 0 ∷ replicate 5 40 ∷ replicate 5 40 ∷ replicate 5 40 ∷ [])
    ∷ (replicate 5 0 ∷ replicate 5 0 ∷ replicate 5 0 ∷ replicate 5 0 ∷ replicate 5 40 ∷ [])
    ∷ [])
    × (map (λ n. map (λ d. deal_none_above 36000 d) (alone n)) (1 ∷ 36000 ∷ 36001 ∷ []) ≡ replicate 5 true ∷ replicate 5 true ∷ replicate 5 false ∷ [])
unfolding worked report_refusal_by accepted_by terms_refusal_by collateral_refusal_by guarantee_refusal_by
one_long_day = (refl, refl)

-- of every type of debt, lent and pledged
types_answered :
    map (λ limit. map (λ n. map (λ goods. terms_refusal_up_to limit (terms_in (500 ∷ 3 ∷ 0 ∷ 0 ∷ 978 ∷ 3 ∷ 1 ∷ 1 ∷ goods ∷ 1 ∷ n ∷ 1 ∷ []))
    ∷ collateral_refusal_by (up_to limit) (collateral_in (5 ∷ goods ∷ 1 ∷ n ∷ 978 ∷ 1 ∷ 1 ∷ 1 ∷ 1 ∷ 1 ∷ 1 ∷ [])) ∷ []) (2 ∷ 3 ∷ 4 ∷ 5 ∷ 6 ∷ [])) (36000 ∷ 36001 ∷ [])) (36000 ∷ 100000 ∷ [])
    ≡ (replicate 5 (0 ∷ 0 ∷ []) ∷ replicate 5 (5 ∷ 5 ∷ []) ∷ []) ∷ (replicate 5 (0 ∷ 0 ∷ []) ∷ replicate 5 (0 ∷ 0 ∷ []) ∷ []) ∷ []
unfolding worked terms_refusal_by collateral_refusal_by
types_answered = refl

-- opened and added, or refused with nothing changed: what stands in the deal's term and in both counts
abbrev steps : ℕ → ℕ → List ℕ
steps limit n =
    let deal = opened_up_to limit (terms_in (1000000 ∷ 3 ∷ 0 ∷ 0 ∷ 978 ∷ 3 ∷ 1 ∷ 1800 ∷ 1 ∷ 0 ∷ 0 ∷ 1 ∷ [])) in
    let c = collateral_in (400000 ∷ 2 ∷ 1 ∷ n ∷ 978 ∷ 1800 ∷ 1800 ∷ 1 ∷ 1 ∷ 1 ∷ 0 ∷ []) in
    let g = guarantee_in (200000 ∷ 1 ∷ 1 ∷ 0 ∷ 978 ∷ 1800 ∷ n ∷ 1 ∷ 1 ∷ 1 ∷ []) in
    (opened_up_to limit (terms_in (1000000 ∷ 3 ∷ 0 ∷ 0 ∷ 978 ∷ 3 ∷ 1 ∷ n ∷ 1 ∷ 0 ∷ 0 ∷ 1 ∷ []))).terms.residual
    ∷ add_collateral_refusal_up_to limit deal c
    ∷ (with_collateral_up_to limit deal c).collateral.count
    ∷ add_guarantee_refusal_up_to limit deal g
    ∷ (with_guarantee_up_to limit deal g).guarantees.count
    ∷ []

steps_answered :
    steps 36000 36000 ∷ steps 36000 36001 ∷ steps 100000 36001 ∷ steps 100000 100001 ∷ []
    ≡ (36000 ∷ 0 ∷ 1 ∷ 0 ∷ 1 ∷ []) ∷ (0 ∷ 5 ∷ 0 ∷ 5 ∷ 0 ∷ []) ∷ (36001 ∷ 0 ∷ 1 ∷ 0 ∷ 1 ∷ []) ∷ (0 ∷ 5 ∷ 0 ∷ 5 ∷ 0 ∷ []) ∷ []
unfolding worked deal_opened_by with_collateral_by with_guarantee_by add_collateral_refusal_by add_guarantee_refusal_by accepted_by terms_refusal_by collateral_refusal_by guarantee_refusal_by
steps_answered = refl

-- in a book, behind an opening that is short: the 5 stands at the item's own line
abbrev behind : List ℕ → List ℕ
behind n =
    bytes "CRM\t1\nD\t1000000\t3\t0\t978\t3\t1\t1800\t1\t0\t0\nC\t400000\t2\t1\t" ++ n ++ bytes "\t978\t1800\t1800\t1\t1\t1\t0\n"
    ++ bytes "D\t1000000\t3\t0\t978\t3\t1\t1800\t1\t0\t0\nC\t400000\t2\t1\t720\t978\t1800\t1800\t1\t1\t1\t0\nG\t200000\t1\t1\t978\t1800\t" ++ n ++ bytes "\t1\t1\t1\n"

items_in_books :
    map (λ n. map (λ limit. results_up_to limit (behind n) (replicate 8 7)) (36000 ∷ 100000 ∷ [])) (bytes "36000" ∷ bytes "36001" ∷ [])
    ≡ ((1 ∷ 0 ∷ 622628 ∷ 622628 ∷ 2 ∷ 0 ∷ 611314 ∷ 411314 ∷ []) ∷ (1 ∷ 0 ∷ 622628 ∷ 622628 ∷ 2 ∷ 0 ∷ 611314 ∷ 411314 ∷ []) ∷ [])
    ∷ ((1 ∷ 5 ∷ 3 ∷ 0 ∷ 2 ∷ 5 ∷ 6 ∷ 0 ∷ []) ∷ (1 ∷ 0 ∷ 622628 ∷ 622628 ∷ 2 ∷ 0 ∷ 611314 ∷ 411314 ∷ []) ∷ [])
    ∷ []
unfolding worked results_by answered_deals_by book_refusal_by book_tests_by answers_by deal_answer_by lines_answer_by reported_by with_line_by line_refusal_by line_opened_by opening_refusal_by report_by report_refusal_by with_collateral_by with_guarantee_by add_collateral_refusal_by add_guarantee_refusal_by deal_opened_by accepted_by terms_refusal_by collateral_refusal_by guarantee_refusal_by
items_in_books = refl

-- of a line only days count, and one that cannot be read holds none
lines_short :
    map (λ line. lines_none_above 36000 1 (line ∷ [])) (
    bytes "D\t99999\t99999\t99999\t99999\t99999\t99999\t36000\t99999\t99999\t1\n"
    ∷ bytes "C\t99999\t99999\t99999\t36000\t99999\t1\t36000\t99999\t99999\t99999\t99999\n"
    ∷ bytes "G\t99999\t99999\t99999\t99999\t1\t36000\t99999\t99999\t99999\n"
    ∷ bytes "X\t99999\n"
    ∷ [])
    ≡ replicate 4 true
unfolding worked line_none_above
lines_short = refl

-- BEFORE THE SOVEREIGN FLOOR. 02: L5

-- the example of 01, The book, has the answers that stand there; headed otherwise it was refused, and the list left alone
abbrev headed : List ℕ → List ℕ
headed first = first ++ drop (length (bytes "CRM\t1\n")) example

example_before :
    map (λ first. book_refusal_by before_floor (headed first) 13 ∷ results_by before_floor (headed first) (replicate 13 7))
    (bytes "CRM\t1\n" ∷ bytes "CRM\t2\n" ∷ bytes "CRM\t3\n" ∷ bytes "CRM\t1\t\n" ∷ [])
    ≡ (0 ∷ 1 ∷ 0 ∷ 611314 ∷ 411314 ∷ 2 ∷ 3 ∷ 5 ∷ 0 ∷ 3 ∷ 0 ∷ 900 ∷ 675 ∷ 7 ∷ [])
    ∷ replicate 3 (9 ∷ replicate 13 7)
unfolding worked heading_before line_before results_by answered_deals_by book_refusal_by book_tests_by answers_by deal_answer_by lines_answer_by reported_by with_line_by line_refusal_by line_opened_by opening_refusal_by report_by report_refusal_by with_collateral_by with_guarantee_by add_collateral_refusal_by add_guarantee_refusal_by deal_opened_by accepted_by terms_refusal_by collateral_refusal_by guarantee_refusal_by
example_before = refl

-- each field of its lines in its place, ten, eleven and nine of them, and one more is malformed; whatever edition a deal holds
abbrev editions : List ℕ
editions = 0 ∷ 1 ∷ 2 ∷ 3 ∷ 4 ∷ []

lines_before :
    map (λ edition. map (before_floor.line edition) (
    bytes "D\t100\t101\t102\t103\t104\t105\t106\t107\t108\t109\n"
    ∷ bytes "C\t100\t101\t102\t103\t104\t105\t106\t107\t108\t109\t110\n"
    ∷ bytes "G\t100\t101\t102\t103\t104\t105\t106\t107\t108\n"
    ∷ bytes "D\t100\t101\t102\t103\t104\t105\t106\t107\t108\t109\t110\n"
    ∷ bytes "G\t100\t101\t102\t103\t104\t105\t106\t107\t108\t109\n"
    ∷ [])) editions
    ≡ replicate 5 (
    DealLine (terms_in (100 ∷ 101 ∷ 102 ∷ 0 ∷ 103 ∷ 104 ∷ 105 ∷ 106 ∷ 107 ∷ 108 ∷ 109 ∷ 1 ∷ []))
    ∷ CollateralLine (collateral_in (100 ∷ 101 ∷ 102 ∷ 103 ∷ 104 ∷ 105 ∷ 106 ∷ 107 ∷ 108 ∷ 109 ∷ 110 ∷ []))
    ∷ GuaranteeLine (guarantee_in (100 ∷ 101 ∷ 102 ∷ 0 ∷ 103 ∷ 104 ∷ 105 ∷ 106 ∷ 107 ∷ 108 ∷ []))
    ∷ Malformed
    ∷ Malformed
    ∷ [])
unfolding worked line_before
lines_before = refl

abbrev paper : List (List ℕ)
paper = (100 ∷ 0 ∷ 20 ∷ 50 ∷ 100 ∷ 100 ∷ 150 ∷ []) ∷ (50 ∷ 20 ∷ 50 ∷ 50 ∷ 100 ∷ 100 ∷ 150 ∷ []) ∷ (100 ∷ 20 ∷ 50 ∷ 100 ∷ 100 ∷ 150 ∷ 150 ∷ []) ∷ []

-- weights by class and step, unrated first, whatever the edition and the sovereign's step; retail has 75
abbrev tables_before : List Table
tables_before = map (λ edition. before_floor.table (terms_in (replicate 11 0 ++ edition ∷ []))) editions

abbrev each_step : (ℕ → ℕ → ℕ → ℕ) → List (List (List ℕ))
each_step weight = map (λ k. map (λ c. map (λ s. weight c s k) (0 ∷ 1 ∷ 2 ∷ 3 ∷ 4 ∷ 5 ∷ 6 ∷ [])) (1 ∷ 2 ∷ 3 ∷ [])) (0 ∷ 1 ∷ 6 ∷ [])

weights_before :
    (map (λ table. each_step table.counterparty_weight) tables_before ≡ replicate 5 (replicate 3 paper))
    × (map (λ table. each_step table.provider_weight) tables_before ≡ replicate 5 (replicate 3 paper))
    × (map (λ table. map (table.counterparty_weight 4 0) (0 ∷ 1 ∷ 6 ∷ [])) tables_before ≡ replicate 5 (replicate 3 75))
unfolding worked
weights_before = (refl, refl, refl)

-- so a record of any edition, with sovereigns of steps 6 and 4, was reported without the floor
reports_before :
    map (λ edition. (report_by before_floor (deal_with (terms_in (1000 ∷ 3 ∷ 0 ∷ 6 ∷ 978 ∷ 3 ∷ 1 ∷ 1800 ∷ 1 ∷ 0 ∷ 0 ∷ edition ∷ [])) []
    (guarantee_in (600 ∷ 2 ∷ 0 ∷ 4 ∷ 978 ∷ 1800 ∷ 1800 ∷ 1 ∷ 1 ∷ 1 ∷ []) ∷ []))).rwa) editions
    ≡ replicate 5 700
unfolding worked report_by accepted_by terms_refusal_by collateral_refusal_by guarantee_refusal_by
reports_before = refl

-- what a record holds now besides, in each of its places
fields_now :
    map new_fields_allowed (
    map (λ edition. deal_with (terms_in (0 ∷ 2 ∷ 0 ∷ 6 ∷ 0 ∷ 0 ∷ 0 ∷ 0 ∷ 0 ∷ 0 ∷ 0 ∷ edition ∷ [])) [] []) editions
    ++ map (λ s. deal_with (terms_in (0 ∷ 4 ∷ 0 ∷ s ∷ 0 ∷ 0 ∷ 0 ∷ 0 ∷ 0 ∷ 0 ∷ 0 ∷ 2 ∷ [])) [] []) (0 ∷ 1 ∷ [])
    ++ map (λ s. deal_with (terms_in (0 ∷ 2 ∷ 0 ∷ 6 ∷ 0 ∷ 0 ∷ 0 ∷ 0 ∷ 0 ∷ 0 ∷ 0 ∷ 2 ∷ [])) [] (zero_guarantee ∷ guarantee_in (0 ∷ 3 ∷ 0 ∷ s ∷ []) ∷ [])) (6 ∷ 7 ∷ []))
    ≡ false ∷ true ∷ true ∷ true ∷ false ∷ true ∷ false ∷ true ∷ false ∷ []
unfolding worked
fields_now = refl

-- no edition and no sovereign's step was asked for; all else in its order
tests_before :
    map (λ fields. terms_refusal_by before_floor (terms_in fields)) (
    (500 ∷ 1 ∷ 6 ∷ 7 ∷ 978 ∷ 3 ∷ 1 ∷ 1800 ∷ 1 ∷ 0 ∷ 0 ∷ 9 ∷ [])
    ∷ (1000000000001 ∷ 5 ∷ 7 ∷ 7 ∷ 0 ∷ 3 ∷ 0 ∷ 0 ∷ 1 ∷ 0 ∷ 1 ∷ 9 ∷ [])
    ∷ (500 ∷ 5 ∷ 7 ∷ 7 ∷ 0 ∷ 3 ∷ 0 ∷ 0 ∷ 1 ∷ 0 ∷ 1 ∷ 9 ∷ [])
    ∷ (500 ∷ 3 ∷ 7 ∷ 7 ∷ 0 ∷ 3 ∷ 0 ∷ 0 ∷ 1 ∷ 0 ∷ 1 ∷ 9 ∷ [])
    ∷ (500 ∷ 4 ∷ 1 ∷ 7 ∷ 0 ∷ 3 ∷ 0 ∷ 0 ∷ 1 ∷ 0 ∷ 1 ∷ 9 ∷ [])
    ∷ (500 ∷ 3 ∷ 6 ∷ 7 ∷ 0 ∷ 3 ∷ 0 ∷ 0 ∷ 1 ∷ 0 ∷ 1 ∷ 9 ∷ [])
    ∷ (500 ∷ 3 ∷ 6 ∷ 7 ∷ 999 ∷ 3 ∷ 0 ∷ 1 ∷ 1 ∷ 0 ∷ 0 ∷ 9 ∷ [])
    ∷ (500 ∷ 3 ∷ 6 ∷ 7 ∷ 999 ∷ 3 ∷ 1 ∷ 100001 ∷ 1 ∷ 0 ∷ 0 ∷ 9 ∷ [])
    ∷ [])
    ++ map (λ fields. guarantee_refusal_by before_floor (guarantee_in fields)) (
    (5 ∷ 1 ∷ 6 ∷ 7 ∷ 978 ∷ 1 ∷ 100000 ∷ 1 ∷ 1 ∷ 1 ∷ [])
    ∷ (1000000000001 ∷ 4 ∷ 7 ∷ 7 ∷ 0 ∷ 2 ∷ 0 ∷ 2 ∷ 2 ∷ 2 ∷ [])
    ∷ (5 ∷ 4 ∷ 7 ∷ 7 ∷ 0 ∷ 2 ∷ 0 ∷ 2 ∷ 2 ∷ 2 ∷ [])
    ∷ (5 ∷ 3 ∷ 7 ∷ 7 ∷ 0 ∷ 2 ∷ 0 ∷ 2 ∷ 2 ∷ 2 ∷ [])
    ∷ (5 ∷ 3 ∷ 6 ∷ 7 ∷ 0 ∷ 2 ∷ 0 ∷ 2 ∷ 2 ∷ 2 ∷ [])
    ∷ (5 ∷ 3 ∷ 6 ∷ 7 ∷ 999 ∷ 2 ∷ 0 ∷ 2 ∷ 2 ∷ 2 ∷ [])
    ∷ (5 ∷ 3 ∷ 6 ∷ 7 ∷ 999 ∷ 2 ∷ 1 ∷ 2 ∷ 2 ∷ 2 ∷ [])
    ∷ (5 ∷ 3 ∷ 6 ∷ 7 ∷ 999 ∷ 1 ∷ 1 ∷ 1 ∷ 1 ∷ 2 ∷ [])
    ∷ [])
    ≡ 0 ∷ 1 ∷ 2 ∷ 3 ∷ 3 ∷ 4 ∷ 5 ∷ 5 ∷ 0 ∷ 1 ∷ 2 ∷ 3 ∷ 4 ∷ 5 ∷ 7 ∷ 8 ∷ []
unfolding worked terms_refusal_by guarantee_refusal_by
tests_before = refl
