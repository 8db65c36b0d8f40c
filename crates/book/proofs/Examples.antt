-- Books answered by the definitions themselves: the example of 01, and small ones. Assumes nothing.
use Prim.Native.Nat.{ℕ}
use mathlib.Core.Path.{◌≡◌, refl}
use mathlib.Core.Bool.{true}
use mathlib.Core.List.{List, [], ◌∷◌, ◌++◌, map}
use lib.ListN.{replicate}
use Rattle.base.specs.FirstMet.{first_or}
use Rattle.base.specs.Range.{within}
use Rattle.text.specs.Bytes.{byte, bytes}
use Rattle.text.specs.Decimal.{decimal_from}
use Rattle.text.specs.Text.{tab, starts_with, same_bytes, extend_first, lines_of, first_line}
use Rattle.text.proofs.Bytes.{only}
use Rattle.deal.specs.Opening.{opened_deal}
use Rattle.deal.specs.Adding.{add_collateral_tests, add_collateral_refusal, with_collateral, add_guarantee_tests, add_guarantee_refusal, with_guarantee}
use Rattle.deal.specs.Collateral.{collateral_list_tests}
use Rattle.deal.specs.Guarantees.{guarantee_list_tests}
use Rattle.relief.specs.Report.{report_refusal}
use Rattle.relief.proofs.Computed.{computed}
use Rattle.lines.specs.Numbers.{digits_of, number_allowed, number_read, number_of}
use Rattle.lines.specs.Fields.{field_of, is_end, and_then, with_number, fields_of}
use Rattle.lines.specs.Sovereign.{width_under, with_sovereign}
use Rattle.lines.specs.Lines.{deal_line, collateral_line, guarantee_line, swap_line, if_read, line_of}
use Rattle.book.specs.Deals.{opens_deal, own_lines, deals_from}
use Rattle.book.specs.Answers.{opening_refusal, opened_by, line_refusal, with_line, refused_at, reported, lines_answer, deal_answer, answers_from}
use Rattle.book.specs.Heading.{heading_of}
use Rattle.book.specs.Book.{book_tests, book_refusal, answered_deals, book_reply, results_after}
use Rattle.std.specs.Prelude.{Some, None}
use Rattle.book.specs.Book.{BookReply}

-- `unfolding worked` opens every definition that an answer comes from
unfoldable pub worked : List ℕ → List ℕ → List ℕ
unfolding computed opened_deal report_refusal collateral_list_tests guarantee_list_tests add_collateral_tests add_collateral_refusal with_collateral add_guarantee_tests add_guarantee_refusal with_guarantee first_or within starts_with same_bytes extend_first lines_of first_line decimal_from digits_of number_allowed number_read number_of field_of is_end and_then with_number fields_of width_under with_sovereign deal_line collateral_line guarantee_line swap_line if_read line_of own_lines deals_from opening_refusal opened_by line_refusal with_line refused_at reported lines_answer deal_answer answers_from heading_of book_tests book_refusal answered_deals book_reply results_after
worked book before = results_after book before

abbrev pub example : List ℕ
example =
    bytes "CRM\t1\nD\t1000000\t3\t0\t978\t3\t1\t1800\t1\t0\t0\n"
    ++ bytes "C\t400000\t2\t1\t720\t978\t1800\t1800\t1\t1\t1\t0\n"
    ++ bytes "G\t200000\t1\t1\t978\t1800\t1800\t1\t1\t1\n"
    ++ bytes "D\t500\t2\t7\t840\t1\t1\t30\t1\t0\t0\nD\t900\t4\t0\t978\t3\t1\t90\t1\t0\t0\n"

example_answered : results_after example (replicate 13 7) ≡ 1 ∷ 0 ∷ 611314 ∷ 411314 ∷ 2 ∷ 3 ∷ 5 ∷ 0 ∷ 3 ∷ 0 ∷ 900 ∷ 675 ∷ 7 ∷ []
unfolding worked
example_answered = refl

-- first lines: the right ones; without a line feed, with a carriage return, none; with another number, or more of it
headings_read :
    map heading_of (bytes "CRM\t1\n" ∷ bytes "CRM\t2\n" ∷ bytes "CRM\t3\n" ∷ bytes "CRM\t1" ∷ bytes "CRM\t2" ∷ bytes "CRM\t3" ∷ bytes "CRM\t1\r\n" ∷ bytes "CRM\t2\r\n" ∷ bytes "CRM\t3\r\n" ∷ bytes "" ∷ bytes "CRM\t0\n" ∷ bytes "CRM\t4\n" ∷ bytes "CRM\t03\n" ∷ bytes "CRM\t13\n" ∷ bytes "CRM\t33\n" ∷ bytes "CRM\t3\t\n" ∷ bytes "CRM\t02\n" ∷ bytes "CRM\t22\n" ∷ bytes "CRM\t2\t\n" ∷ bytes "CRM\t\n" ∷ [])
    ≡ Some 1 ∷ Some 2 ∷ Some 3 ∷ replicate 17 None
unfolding worked
headings_read = refl

abbrev refused_by : ℕ → BookReply
refused_by refusal = record { refusal = refusal; deals = 0 }

abbrev accepted : ℕ → BookReply
accepted deals = record { refusal = 0; deals = deals }

-- the header alone asks for no place
header_alone : (book_reply (bytes "CRM\t1\n") 0 ≡ accepted 0) × (results_after (bytes "CRM\t1\n") [] ≡ [])
unfolding worked
header_alone = (refl, refl)

-- no line, no line feed, a carriage return, another header, a second line that opens no deal; three places for a deal
books_refused :
    map (λ book. book_reply book 3) (
    bytes ""
    ∷ bytes "CRM\t1"
    ∷ bytes "CRM\t1\r\n"
    ∷ bytes "CRM\t4\n"
    ∷ bytes "CRM\t1\nC\t0\n"
    ∷ bytes "CRM\t1\n\n"
    ∷ bytes "CRM\t1\nD\n"
    ∷ bytes "CRM\t1\nC\nD\t\n"
    ∷ bytes "CRM\t1\nD\t0\t1\t0\t1\t1\t1\t1\t1\t0\t0\n"
    ∷ []
    )
    ≡ refused_by 9 ∷ refused_by 9 ∷ refused_by 9 ∷ refused_by 9 ∷ refused_by 12 ∷ refused_by 12 ∷ refused_by 12 ∷ refused_by 12 ∷ refused_by 13 ∷ []
unfolding worked
books_refused = refl

list_untouched : results_after (bytes "CRM\t1\nD\t0\t1\t0\t1\t1\t1\t1\t1\t0\t0\n") (7 ∷ 8 ∷ 9 ∷ []) ≡ 7 ∷ 8 ∷ 9 ∷ []
unfolding worked
list_untouched = refl

-- one deal in each, answered by its first refused line: an amount over the limit, with a bad field too, behind the header; a line that
-- opens no deal, an item refused, both; no line feed; a line of a tab alone
first_refused :
    map (λ book. results_after book (replicate 4 7)) (
    bytes "CRM\t1\nD\t1000000000001\t1\t0\t1\t1\t1\t1\t1\t0\t0\nG\n"
    ∷ bytes "CRM\t1\nD\t1000000000001\t1\t0\t1\t1\t1\t1\t1\t00\t0\n"
    ∷ bytes "CRM\t1\nD\t0\t1\t0\t1\t1\t1\t1\t1\t0\t0\nCRM\t1\n"
    ∷ bytes "CRM\t1\nD\t0\t1\t0\t1\t1\t1\t1\t1\t0\t0\nC\t0\t1\t0\t0\t1\t2\t1\t1\t1\t1\t2\n\n"
    ∷ bytes "CRM\t1\nD\t0\t1\t0\t1\t1\t1\t1\t1\t0\t0\n\nC\t0\t1\t0\t0\t1\t2\t1\t1\t1\t1\t2\n"
    ∷ bytes "CRM\t1\nD\t0\t1\t0\t1\t1\t1\t1\t1\t0\t0"
    ∷ bytes "CRM\t1\nD\t0\t1\t0\t1\t1\t1\t1\t1\t0\t0\n\t\n"
    ∷ []
    )
    ≡ (1 ∷ 1 ∷ 2 ∷ 0 ∷ [])
    ∷ (1 ∷ 11 ∷ 2 ∷ 0 ∷ [])
    ∷ (1 ∷ 11 ∷ 3 ∷ 0 ∷ [])
    ∷ (1 ∷ 7 ∷ 3 ∷ 0 ∷ [])
    ∷ (1 ∷ 11 ∷ 3 ∷ 0 ∷ [])
    ∷ (1 ∷ 11 ∷ 2 ∷ 0 ∷ [])
    ∷ (1 ∷ 11 ∷ 3 ∷ 0 ∷ [])
    ∷ []
unfolding worked
first_refused = refl

-- of all bytes behind a D the tab alone opens a deal, and of all bytes before a tab the D alone
opens_only : (only tab (λ b. opens_deal (byte "D" ∷ b ∷ [])) ≡ true) × (only (byte "D") (λ b. opens_deal (b ∷ tab ∷ [])) ≡ true)
unfolding worked
opens_only = (refl, refl)

-- 65,536 bytes are looked at further, one more is too long
limit_of_bytes : (book_reply (replicate 65536 0) 0 ≡ refused_by 9) × (book_reply (replicate 65537 0) 0 ≡ refused_by 10)
unfolding worked
limit_of_bytes = (refl, refl)

-- a wrong first line is answered before a wrong second one, and before a list that is too short
nine_first : map (λ book. book_reply book 0) (bytes "CRM\t4\nC\n" ∷ bytes "\n\n" ∷ bytes "CRM\t4\nD\t\n" ∷ []) ≡ refused_by 9 ∷ refused_by 9 ∷ refused_by 9 ∷ []
unfolding worked
nine_first = refl

-- THE SECOND HEADING. 02: L5

-- the example of 01 with the sovereigns' steps of its parties, 1 each: nothing changes but where a floor binds
abbrev pub example_2 : List ℕ
example_2 =
    bytes "CRM\t2\nD\t1000000\t3\t0\t1\t978\t3\t1\t1800\t1\t0\t0\n"
    ++ bytes "C\t400000\t2\t1\t720\t978\t1800\t1800\t1\t1\t1\t0\n"
    ++ bytes "G\t200000\t1\t1\t0\t978\t1800\t1800\t1\t1\t1\n"
    ++ bytes "D\t500\t2\t7\t1\t840\t1\t1\t30\t1\t0\t0\nD\t900\t4\t0\t0\t978\t3\t1\t90\t1\t0\t0\n"

example_2_answered : results_after example_2 (replicate 13 7) ≡ results_after example (replicate 13 7)
unfolding worked
example_2_answered = refl

-- an unrated bank under a sovereign of step 6, backed by one under a sovereign of step 4: 150 and 100; and the same deal headed 1. Its lines
-- under the other heading are malformed; a step that is not 0 where 0 is due is 3, at its line
abbrev floor_1 : List ℕ
floor_1 = bytes "D\t1000\t2\t0\t978\t3\t1\t1800\t1\t0\t0\nG\t600\t2\t0\t978\t1800\t1800\t1\t1\t1\n"

abbrev floor_2 : List ℕ
floor_2 = bytes "D\t1000\t2\t0\t6\t978\t3\t1\t1800\t1\t0\t0\nG\t600\t2\t0\t4\t978\t1800\t1800\t1\t1\t1\n"

headed :
    map (λ book. results_after book (replicate 4 7)) (
    (bytes "CRM\t1\n" ++ floor_1)
    ∷ (bytes "CRM\t2\n" ++ floor_2)
    ∷ (bytes "CRM\t2\n" ++ floor_1)
    ∷ (bytes "CRM\t1\n" ++ floor_2)
    ∷ bytes "CRM\t2\nD\t1000\t4\t0\t1\t978\t3\t1\t1800\t1\t0\t0\n"
    ∷ bytes "CRM\t2\nD\t1000\t2\t0\t6\t978\t3\t1\t1800\t1\t0\t0\nG\t600\t1\t0\t4\t978\t1800\t1800\t1\t1\t1\n"
    ∷ []
    )
    ≡ (1 ∷ 0 ∷ 1000 ∷ 500 ∷ [])
    ∷ (1 ∷ 0 ∷ 1000 ∷ 1200 ∷ [])
    ∷ (1 ∷ 11 ∷ 2 ∷ 0 ∷ [])
    ∷ (1 ∷ 11 ∷ 2 ∷ 0 ∷ [])
    ∷ (1 ∷ 3 ∷ 2 ∷ 0 ∷ [])
    ∷ (1 ∷ 3 ∷ 3 ∷ 0 ∷ [])
    ∷ []
unfolding worked
headed = refl
