-- Deals and books answered by the rules before the 2023 tables, by the definitions themselves. 02: L9. Assumes nothing.
use Prim.Native.Nat.{ℕ}
use mathlib.Core.Path.{◌≡◌, refl}
use mathlib.Core.List.{List, [], ◌∷◌, ◌++◌, map}
use lib.ListN.{drop, length, replicate}
use Rattle.tables.specs.Table.{Table}
use Rattle.text.specs.Bytes.{bytes}
use Rattle.deal.specs.Fields.{collateral_in, guarantee_in, terms_fields, terms_in}
use Rattle.deal.specs.Records.{deal_with}
use Rattle.deal.specs.declared.deal.Deal.{Deal}
use Rattle.book.proofs.Examples.{example, worked}
use Rattle.earlier.specs.Before2023.{before_2023, deal_with_edition, heading_before_2023, with_edition}
use Rattle.earlier.specs.Books.{answered_deals_by, answers_by, book_refusal_by, book_tests_by, deal_answer_by, line_opened_by, line_refusal_by, lines_answer_by, opening_refusal_by, reported_by, results_by, with_line_by}
use Rattle.earlier.specs.Deals.{accepted_by, add_collateral_refusal_by, add_guarantee_refusal_by, collateral_refusal_by, deal_opened_by, guarantee_refusal_by, report_by, report_refusal_by, terms_refusal_by, with_collateral_by, with_guarantee_by}

-- the example of 01, The book, by its first line: headed 2, its D and G lines lack a field; headed 3 it was refused, and the list left alone
abbrev headed : List ℕ → List ℕ
headed first = first ++ drop (length (bytes "CRM\t1\n")) example

example_before_2023 :
    map (λ first. book_refusal_by before_2023 (headed first) 13 ∷ results_by before_2023 (headed first) (replicate 13 7))
    (bytes "CRM\t1\n" ∷ bytes "CRM\t2\n" ∷ bytes "CRM\t3\n" ∷ bytes "CRM\t2\t\n" ∷ [])
    ≡ (0 ∷ 1 ∷ 0 ∷ 611314 ∷ 411314 ∷ 2 ∷ 3 ∷ 5 ∷ 0 ∷ 3 ∷ 0 ∷ 900 ∷ 675 ∷ 7 ∷ [])
    ∷ (0 ∷ 1 ∷ 11 ∷ 2 ∷ 0 ∷ 2 ∷ 11 ∷ 5 ∷ 0 ∷ 3 ∷ 11 ∷ 6 ∷ 0 ∷ 7 ∷ [])
    ∷ replicate 2 (9 ∷ replicate 13 7)
unfolding worked heading_before_2023 results_by answered_deals_by book_refusal_by book_tests_by answers_by deal_answer_by lines_answer_by reported_by with_line_by line_refusal_by line_opened_by opening_refusal_by report_by report_refusal_by with_collateral_by with_guarantee_by add_collateral_refusal_by add_guarantee_refusal_by deal_opened_by accepted_by terms_refusal_by collateral_refusal_by guarantee_refusal_by
example_before_2023 = refl

-- two editions were known; what opening refused, in its order
abbrev editions : List ℕ
editions = 0 ∷ 1 ∷ 2 ∷ 3 ∷ 4 ∷ []

openings_before_2023 :
    (map (λ e. terms_refusal_by before_2023 (terms_in (500 ∷ 3 ∷ 0 ∷ 6 ∷ 978 ∷ 3 ∷ 1 ∷ 1800 ∷ 1 ∷ 0 ∷ 0 ∷ e ∷ []))) editions ≡ 2 ∷ 0 ∷ 0 ∷ 2 ∷ 2 ∷ [])
    × (map (λ fields. terms_refusal_by before_2023 (terms_in fields)) (
    (1000000000001 ∷ 5 ∷ 7 ∷ 7 ∷ 0 ∷ 4 ∷ 0 ∷ 0 ∷ 0 ∷ 1 ∷ 1 ∷ 3 ∷ [])
    ∷ (500 ∷ 5 ∷ 7 ∷ 7 ∷ 0 ∷ 3 ∷ 0 ∷ 0 ∷ 1 ∷ 1 ∷ 1 ∷ 2 ∷ [])
    ∷ (500 ∷ 3 ∷ 7 ∷ 7 ∷ 0 ∷ 4 ∷ 0 ∷ 0 ∷ 1 ∷ 1 ∷ 1 ∷ 2 ∷ [])
    ∷ (500 ∷ 3 ∷ 7 ∷ 7 ∷ 0 ∷ 3 ∷ 0 ∷ 0 ∷ 10 ∷ 1 ∷ 1 ∷ 2 ∷ [])
    ∷ (500 ∷ 3 ∷ 7 ∷ 6 ∷ 0 ∷ 3 ∷ 0 ∷ 0 ∷ 1 ∷ 0 ∷ 1 ∷ 2 ∷ [])
    ∷ (500 ∷ 3 ∷ 6 ∷ 7 ∷ 0 ∷ 3 ∷ 0 ∷ 0 ∷ 1 ∷ 0 ∷ 1 ∷ 2 ∷ [])
    ∷ (500 ∷ 3 ∷ 6 ∷ 6 ∷ 0 ∷ 3 ∷ 0 ∷ 0 ∷ 1 ∷ 1 ∷ 1 ∷ 2 ∷ [])
    ∷ (500 ∷ 3 ∷ 6 ∷ 6 ∷ 1000 ∷ 3 ∷ 0 ∷ 0 ∷ 1 ∷ 0 ∷ 1 ∷ 2 ∷ [])
    ∷ (500 ∷ 3 ∷ 6 ∷ 6 ∷ 999 ∷ 3 ∷ 251 ∷ 1 ∷ 1 ∷ 0 ∷ 0 ∷ 2 ∷ [])
    ∷ (500 ∷ 3 ∷ 6 ∷ 6 ∷ 999 ∷ 3 ∷ 250 ∷ 100001 ∷ 1 ∷ 0 ∷ 0 ∷ 2 ∷ [])
    ∷ (500 ∷ 3 ∷ 6 ∷ 6 ∷ 999 ∷ 3 ∷ 250 ∷ 100000 ∷ 2 ∷ 0 ∷ 100001 ∷ 2 ∷ [])
    ∷ (500 ∷ 3 ∷ 6 ∷ 6 ∷ 999 ∷ 3 ∷ 250 ∷ 100000 ∷ 2 ∷ 0 ∷ 100000 ∷ 2 ∷ [])
    ∷ [])
    ≡ 1 ∷ 2 ∷ 2 ∷ 2 ∷ 3 ∷ 3 ∷ 3 ∷ 4 ∷ 5 ∷ 5 ∷ 5 ∷ 0 ∷ [])
unfolding worked terms_refusal_by
openings_before_2023 = (refl, refl)

-- a record was accepted under either of them
abbrev held : Deal
held =
    deal_with (terms_in (1000 ∷ 2 ∷ 0 ∷ 4 ∷ 978 ∷ 2 ∷ 1 ∷ 1800 ∷ 1 ∷ 0 ∷ 0 ∷ 1 ∷ []))
    (collateral_in (400 ∷ 4 ∷ 1 ∷ 3601 ∷ 978 ∷ 1800 ∷ 1800 ∷ 1 ∷ 1 ∷ 1 ∷ 0 ∷ []) ∷ [])
    (guarantee_in (300 ∷ 2 ∷ 2 ∷ 0 ∷ 978 ∷ 1800 ∷ 1800 ∷ 1 ∷ 1 ∷ 1 ∷ []) ∷ [])

-- the same terms and the same deal, but for the edition
editions_changed :
    (terms_fields (with_edition 99 (terms_in (1 ∷ 2 ∷ 3 ∷ 4 ∷ 5 ∷ 6 ∷ 7 ∷ 8 ∷ 9 ∷ 10 ∷ 11 ∷ 12 ∷ []))) ≡ 1 ∷ 2 ∷ 3 ∷ 4 ∷ 5 ∷ 6 ∷ 7 ∷ 8 ∷ 9 ∷ 10 ∷ 11 ∷ 99 ∷ [])
    × ((deal_with_edition 1 held ≡ held) × (deal_with_edition 1 (deal_with_edition 3 held) ≡ held))
editions_changed = (refl, (refl, refl))

-- 400 of bank paper are worth 368; an unrated bank weighs 50, with the floor 100, and another backs it at 50
reports_before_2023 :
    map (λ e. report_refusal_by before_2023 (deal_with_edition e held) ∷ (report_by before_2023 (deal_with_edition e held)).exposure ∷ (report_by before_2023 (deal_with_edition e held)).rwa ∷ []) editions
    ≡ (40 ∷ 0 ∷ 0 ∷ []) ∷ (0 ∷ 632 ∷ 316 ∷ []) ∷ (0 ∷ 632 ∷ 482 ∷ []) ∷ (40 ∷ 0 ∷ 0 ∷ []) ∷ (40 ∷ 0 ∷ 0 ∷ []) ∷ []
unfolding worked report_by report_refusal_by accepted_by terms_refusal_by collateral_refusal_by guarantee_refusal_by
reports_before_2023 = refl

-- the tables of either edition, by cell: at the first and last day of each band, equity and gold, and goods lent that are not eligible
abbrev tables_before : List Table
tables_before = map (λ edition. before_2023.table (terms_in (replicate 11 0 ++ edition ∷ []))) (1 ∷ 2 ∷ [])

abbrev lives : List ℕ
lives = 1 ∷ 360 ∷ 361 ∷ 1080 ∷ 1081 ∷ 1800 ∷ 1801 ∷ 3600 ∷ 3601 ∷ []

abbrev bands : ℕ → ℕ → ℕ → List ℕ
bands a b c = replicate 2 a ++ replicate 4 b ++ replicate 3 c

haircuts_before_2023 :
    map (λ table. map (λ s. map (λ g. map (table.haircut g s) lives) (2 ∷ 3 ∷ 4 ∷ 5 ∷ [])) (1 ∷ 2 ∷ 3 ∷ []) ++ map (λ s. map (table.haircut 4 s) lives ∷ []) (0 ∷ [])) tables_before
    ≡ replicate 2 (
    (bands 5000 20000 40000 ∷ bands 10000 40000 80000 ∷ bands 10000 40000 80000 ∷ bands 20000 80000 160000 ∷ [])
    ∷ (bands 10000 30000 60000 ∷ bands 20000 60000 120000 ∷ bands 20000 60000 120000 ∷ bands 40000 120000 240000 ∷ [])
    ∷ (bands 10000 30000 60000 ∷ bands 20000 60000 120000 ∷ bands 20000 60000 120000 ∷ bands 40000 120000 240000 ∷ [])
    ∷ (bands 20000 60000 120000 ∷ [])
    ∷ [])
unfolding worked
haircuts_before_2023 = refl

others_before_2023 :
    map (λ table. map (λ g. table.haircut g 0 0) (1 ∷ 7 ∷ 8 ∷ 9 ∷ []) ++ table.haircut 2 4 361 ∷ table.lent_haircut 4 0 361 ∷ table.lent_haircut 8 0 0 ∷ table.lent_haircut 3 1 361 ∷ []) tables_before
    ≡ replicate 2 (0 ∷ 150000 ∷ 250000 ∷ 150000 ∷ 150000 ∷ 250000 ∷ 250000 ∷ 40000 ∷ [])
unfolding worked
others_before_2023 = refl

-- weights, unrated first, under a sovereign of step 6: the floor of the second edition is for unrated banks and corporates
weights_before_2023 :
    map (λ table. map (λ c. map (λ s. table.counterparty_weight c s 6) (0 ∷ 1 ∷ 2 ∷ 3 ∷ 4 ∷ 5 ∷ 6 ∷ [])) (1 ∷ 2 ∷ 3 ∷ []) ++ map (λ c. map (λ s. table.provider_weight c s 6) (0 ∷ 2 ∷ 3 ∷ [])) (2 ∷ 3 ∷ [])) tables_before
    ≡ ((100 ∷ 0 ∷ 20 ∷ 50 ∷ 100 ∷ 100 ∷ 150 ∷ []) ∷ (50 ∷ 20 ∷ 50 ∷ 50 ∷ 100 ∷ 100 ∷ 150 ∷ []) ∷ (100 ∷ 20 ∷ 50 ∷ 100 ∷ 100 ∷ 150 ∷ 150 ∷ []) ∷ (50 ∷ 50 ∷ 50 ∷ []) ∷ (100 ∷ 50 ∷ 100 ∷ []) ∷ [])
    ∷ ((100 ∷ 0 ∷ 20 ∷ 50 ∷ 100 ∷ 100 ∷ 150 ∷ []) ∷ (150 ∷ 20 ∷ 50 ∷ 50 ∷ 100 ∷ 100 ∷ 150 ∷ []) ∷ (150 ∷ 20 ∷ 50 ∷ 100 ∷ 100 ∷ 150 ∷ 150 ∷ []) ∷ (150 ∷ 50 ∷ 50 ∷ []) ∷ (100 ∷ 50 ∷ 100 ∷ []) ∷ [])
    ∷ []
unfolding worked
weights_before_2023 = refl
