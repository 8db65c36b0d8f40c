-- Credit derivatives count for what they should, and take no answer from a book without them. Assumes nothing.
use Rattle.std.proofs.Common.{if◌then◌else◌}
use Prim.Native.Nat.{ℕ, ◌≤◌}
use mathlib.Core.Path.{◌≡◌, refl, sym, ◌∙◌}
use mathlib.Core.Bool.{Bool, beq, true, false, not, ◌&&◌}
use mathlib.Core.List.{List, [], ◌∷◌, ◌++◌, map}
use native.Mathlib.Omega.{arith}
use borrow.Author.Tests.{le-leb, lt-leb}
use lib.Dec.{eqb}
use lib.ListN.{drop, replicate, take}
use Rattle.base.specs.FirstMet.{Test, ◌when◌, first_met, first_or}
use Rattle.base.proofs.Choice.{if_false}
use Rattle.base.proofs.Every.{every}
use Rattle.tables.specs.Table.{Table}
use Rattle.scaling.specs.Period.{guarantee_period}
use Rattle.valuation.specs.Haircuts.{scaled_currency_haircut}
use Rattle.valuation.specs.Protection.{recognised}
use Rattle.valuation.specs.Valuation.{valuation_of}
use Rattle.valuation.specs.Restructuring.{partially_recognised}
use Rattle.text.specs.Bytes.{byte, bytes}
use Rattle.deal.specs.Adding.{add_guarantee_refusal, add_guarantee_tests, add_swap_refusal, with_guarantee}
use Rattle.deal.specs.Fields.{guarantee_in, swap_sent, terms_in}
use Rattle.deal.specs.Guarantees.{guarantee_list_tests, guarantee_tests}
use Rattle.deal.specs.Instruments.{as_swap, guarantee_instrument, instrument_allowed, swap_with}
use Rattle.deal.specs.Records.{deal_with}
use Rattle.deal.specs.Ranges.{condition_allowed}
use Rattle.deal.specs.declared.terms.Terms.{Terms}
use Rattle.deal.specs.declared.guarantee.Guarantee.{Guarantee}
use Rattle.deal.specs.declared.deal.Deal.{Deal}
use Rattle.relief.specs.Guarantees.{guarantee_ground, guarantee_grounds, guarantee_outcome, guarantee_valuation, hedged_amount, protection_of}
use Rattle.relief.specs.Outcomes.{outcome_for}
use Rattle.relief.specs.Report.{report_of}
use Rattle.relief.proofs.Hedged.{hedged_cut, hedged_whole}
use Rattle.lines.specs.Fields.{fields_of}
use Rattle.lines.specs.Lines.{if_read, line_of, swap_line}
use Rattle.lines.specs.Sovereign.{width_under, with_sovereign}
use Rattle.lines.specs.declared.line.Line.TheVariants.{GuaranteeLine}
use Rattle.book.specs.Answers.{deal_answer, line_refusal, with_line}
use Rattle.book.specs.Book.{results_after}
use Rattle.book.specs.Deals.{DealLines}
use Rattle.book.proofs.Examples.{worked}
use Rattle.response.specs.Response.{printed}
use Rattle.earlier.specs.BeforeSwaps.{before_swaps, book_without_swaps, line_before_swaps, no_swap, none_cut}
use Rattle.earlier.specs.Books.{answered_deals_by, answers_by, book_refusal_by, book_tests_by, deal_answer_by, line_opened_by, line_refusal_by, lines_answer_by, opening_refusal_by, printed_by, results_by}
use Rattle.earlier.specs.Deals.{accepted_by, collateral_refusal_by, deal_opened_by, guarantee_refusal_by, report_by, terms_refusal_by}
use Rattle.earlier.proofs.BeforeSwaps.{accepted_exactly, adding_collateral_same, adding_guarantee_same, deal_same, line_same, opened_same, opening_same, printed_same, reply_same, report_same, results_same, was_malformed, with_collateral_same, with_guarantee_same}
use Rattle.earlier.proofs.Now.{accepted_now, adding_collateral_now, adding_guarantee_now, deal_now, opened_now, opening_now, printed_now, reply_now, report_now, results_now, with_collateral_now, with_guarantee_now}
use Rattle.claims.specs.CreditDerivatives.{CreditDerivatives, filled, guarantee_line as guarantee, sample, sample_answers, sample_first, sample_third, swap_line as swap}

-- What of a swap is hedged

value_met : (t : Terms) (g : Guarantee) → g.instrument ≡ guarantee_instrument → guarantee_valuation t (as_swap 1 g) ≡ guarantee_valuation t g
unfolding guarantee_valuation hedged_amount
value_met t g e = rw e

outcome_met : (table : Table) (t : Terms) (g : Guarantee) → g.instrument ≡ guarantee_instrument → guarantee_outcome table t (as_swap 1 g) ≡ guarantee_outcome table t g
unfolding guarantee_outcome guarantee_ground guarantee_grounds
outcome_met table t g e = rw (value_met t g e)

but_its_letter : (table : Table) (t : Terms) (g : Guarantee) → g.instrument ≡ guarantee_instrument →
    (guarantee_outcome table t (as_swap 1 g) ≡ guarantee_outcome table t g) × (protection_of table t (as_swap 1 g) ≡ protection_of table t g)
but_its_letter table t g e = (outcome_met table t g e, rw (outcome_met table t g e))

grounds : (table : Table) (t : Terms) (restructuring : ℕ) (g : Guarantee) → guarantee_ground table t (as_swap restructuring g) ≡ guarantee_ground table t g
unfolding guarantee_ground guarantee_grounds
grounds table t restructuring g = refl

outcome_is : (table : Table) (t : Terms) (g : Guarantee) → guarantee_outcome table t g ≡ outcome_for (guarantee_ground table t g) g.amount (guarantee_valuation t g)
unfolding guarantee_outcome
outcome_is table t g = refl

after_cut : (t : Terms) (g : Guarantee) →
    (guarantee_valuation t g).value ≡ recognised (hedged_amount t g) (scaled_currency_haircut g.currency t.currency (guarantee_period t.interval)) g.residual t.residual
unfolding guarantee_valuation valuation_of
after_cut t g = refl

-- Lines

line_1 : (rest : List ℕ) → line_of 1 (byte "S" ∷ rest) ≡ if_read (λ fields. GuaranteeLine (swap_sent (take 3 fields ++ 0 ∷ drop 3 fields))) (fields_of 10 rest)
unfolding line_of swap_line width_under with_sovereign
line_1 rest = refl

line_2 : (rest : List ℕ) → line_of 2 (byte "S" ∷ rest) ≡ if_read (λ fields. GuaranteeLine (swap_sent fields)) (fields_of 11 rest)
unfolding line_of swap_line width_under with_sovereign
line_2 rest = refl

line_3 : (rest : List ℕ) → line_of 3 (byte "S" ∷ rest) ≡ if_read (λ fields. GuaranteeLine (swap_sent fields)) (fields_of 11 rest)
unfolding line_of swap_line width_under with_sovereign
line_3 rest = refl

brought : (d : Deal) (g : Guarantee) → (line_refusal d (GuaranteeLine g) ≡ add_guarantee_refusal d g) × (with_line d (GuaranteeLine g) ≡ with_guarantee d g)
unfolding line_refusal with_line
brought d g = (refl, refl)

-- Refusals

-- none of the tests is numbered 0
abbrev numbered : List (Test ℕ) → Type 0
numbered [] = Unit {0}
numbered ((n when met) ∷ ts) = (eqb n 0 ≡ false) × numbered ts

-- a last test that is met, in place of another of the same number
last_met : (front : List (Test ℕ)) → numbered front → (n : ℕ) → eqb n 0 ≡ false → (met : Bool) →
    first_met (front ++ (n when true) ∷ []) ≡ (if eqb (first_met (front ++ (n when met) ∷ [])) 0 then n else first_met (front ++ (n when met) ∷ []))
unfolding first_or
last_met [] ok n k true = sym (if_false _ _ _ k)
last_met [] ok n k false = refl
last_met ((m when true) ∷ front) ok n k met = sym (if_false _ _ _ ok.0)
last_met ((m when false) ∷ front) ok n k met = last_met front ok.1 n k met

and_none : (a : Bool) {b : Bool} → b ≡ false → (a && b) ≡ false
and_none true h = h
and_none false h = refl

module _ (d : Deal) (restructuring : ℕ) (g : Guarantee) (of_guarantee : g.instrument ≡ guarantee_instrument) where
  abbrev others : Bool
  others = condition_allowed g.lawful && condition_allowed g.direct && condition_allowed g.not_in_rating

  as_guarantee : restructuring ≤ 1 → add_swap_refusal d restructuring g ≡ add_guarantee_refusal d g
  unfolding add_guarantee_refusal add_guarantee_tests guarantee_list_tests guarantee_tests
  as_guarantee h =
      let right : instrument_allowed (swap_with restructuring) ≡ true = le-leb (swap_with restructuring) 2 (omega arith) in
      rw (right, of_guarantee) refl

  by_8 : 2 ≤ restructuring → add_swap_refusal d restructuring g ≡ (if eqb (add_guarantee_refusal d g) 0 then 8 else add_guarantee_refusal d g)
  unfolding add_guarantee_refusal add_guarantee_tests guarantee_list_tests guarantee_tests
  by_8 h =
      let wrong : instrument_allowed (swap_with restructuring) ≡ false = lt-leb (swap_with restructuring) 2 (omega arith) in
      let never : (others && instrument_allowed (swap_with restructuring)) ≡ false = and_none others wrong in
      rw never (last_met (take 8 (add_guarantee_tests d g)) (refl, (refl, (refl, (refl, (refl, (refl, (refl, (refl, tt)))))))) 8 refl (not (others && instrument_allowed g.instrument)))

-- Figures

by_number : map (λ amount. partially_recognised amount 1001) (0 ∷ 1 ∷ 2 ∷ 3 ∷ 999 ∷ 1000 ∷ 1001 ∷ 1002 ∷ 1000000000000 ∷ []) ≡ 0 ∷ 0 ∷ 1 ∷ 1 ∷ 599 ∷ 600 ∷ 600 ∷ 600 ∷ 600 ∷ []
unfolding partially_recognised
by_number = refl

at_the_limit : partially_recognised 1000000000000 1000000000000 ≡ 600000000000
unfolding partially_recognised
at_the_limit = refl

answered : results_after sample (replicate 72 7) ≡ sample_answers
unfolding worked
answered = refl

full : (map (λ last. results_after (filled last) (replicate 4 7)) (swap ∷ guarantee ∷ []) ≡ replicate 2 (1 ∷ 6 ∷ 19 ∷ 0 ∷ [])) × (results_after (filled []) (replicate 4 7) ≡ 1 ∷ 0 ∷ 1000 ∷ 0 ∷ [])
unfolding worked
full = (refl, refl)

answered_1 : results_after sample_first (replicate 4 7) ≡ 1 ∷ 0 ∷ 1000 ∷ 700 ∷ []
unfolding worked
answered_1 = refl

answered_3 : results_after sample_third (replicate 4 7) ≡ 1 ∷ 0 ∷ 1000 ∷ 700 ∷ []
unfolding worked
answered_3 = refl

pub credit_derivatives : CreditDerivatives
credit_derivatives = record {
  reply_same = λ book places. sym (reply_now book places) ∙ reply_same book places;
  results_same = λ book list n. sym (results_now book list) ∙ results_same book n list;
  printed_same = λ book n. sym (printed_now book) ∙ printed_same book n;
  line_same = line_same;
  deal_same = λ edition deal n. sym (deal_now edition deal) ∙ deal_same edition deal n;
  was_malformed = was_malformed;
  report_same = λ d a n. sym (report_now d) ∙ report_same d (accepted_now d ∙ a) n;
  accepted_exactly = λ d. sym (accepted_now d) ∙ accepted_exactly d;
  opening_same = λ t. (sym (opening_now t) ∙ opening_same t, sym (opened_now t) ∙ opened_same t);
  adding_collateral_same = λ d c a. (sym (adding_collateral_now d c) ∙ adding_collateral_same d (accepted_now d ∙ a) c, sym (with_collateral_now d c) ∙ with_collateral_same d (accepted_now d ∙ a) c);
  adding_guarantee_same = λ d g a k. (sym (adding_guarantee_now d g) ∙ adding_guarantee_same d (accepted_now d ∙ a) g k, sym (with_guarantee_now d g) ∙ with_guarantee_same d (accepted_now d ∙ a) g k);
  without_condition = hedged_cut;
  whole_amount = hedged_whole;
  in_all_but_its_letter = but_its_letter;
  grounds_same = grounds;
  value_after = after_cut;
  outcome_of = outcome_is;
  covers_with = λ table t g. refl;
  pieces_of_lem = λ table v. refl;
  cut_by_number = by_number;
  cut_at_the_limit = at_the_limit;
  swap_numbers = λ amount class step sovereign currency residual original lawful direct rated restructuring. refl;
  swap_line_1 = line_1;
  swap_line_2 = line_2;
  swap_line_3 = line_3;
  line_added = brought;
  refused_as_guarantee = λ d r g h e. as_guarantee d r g e h;
  wrong_entry = λ d r g h e. by_8 d r g e h;
  seventeenth = full;
  sample_answered = answered;
  sample_1_answered = answered_1;
  sample_3_answered = answered_3;
}

-- WHAT THE CLAIM SAYS OF SOME BOOKS AND RECORDS, so that it is not empty

-- a book with a guarantee
abbrev plain : List ℕ
plain = bytes "CRM\t1\nD\t1000\t3\t0\t978\t3\t1\t1800\t1\t0\t0\nG\t600\t2\t1\t978\t1800\t1800\t1\t1\t1\n"

books_said : (results_after plain (replicate 5 7) ≡ results_by before_swaps plain (replicate 5 7)) × (printed plain ≡ printed_by before_swaps plain)
unfolding worked
books_said = (credit_derivatives.results_same plain (replicate 5 7) refl, credit_derivatives.printed_same plain refl)

books_answered : (results_after plain (replicate 5 7) ≡ 1 ∷ 0 ∷ 1000 ∷ 520 ∷ 7 ∷ []) × (results_by before_swaps sample_first (replicate 4 7) ≡ 1 ∷ 11 ∷ 3 ∷ 0 ∷ [])
unfolding worked results_by answers_by answered_deals_by book_refusal_by book_tests_by deal_answer_by lines_answer_by opening_refusal_by line_opened_by line_refusal_by terms_refusal_by deal_opened_by line_before_swaps
books_answered = (refl, refl)

-- a deal with collateral and a guarantee, as its lines stand in a book whatever the other deals are
abbrev own : DealLines
own = record {
  number = 9;
  opening = bytes "D\t1000\t3\t0\t978\t3\t1\t1800\t1\t0\t0\n";
  further = bytes "C\t100\t1\t0\t0\t978\t1800\t1800\t1\t1\t1\t0\n" ∷ bytes "G\t600\t2\t1\t978\t1800\t1800\t1\t1\t1\n" ∷ [];
}

deal_said : (deal_answer 1 own ≡ deal_answer_by before_swaps 1 own) × (deal_answer 1 own ≡ 0 ∷ 900 ∷ 420 ∷ [])
unfolding worked
deal_said = (credit_derivatives.deal_same 1 own refl, refl)

-- records with a guarantee and a swap whose condition is met, and with one whose amount is cut
abbrev held : ℕ → Deal
held instrument =
    deal_with (terms_in (1000 ∷ 3 ∷ 0 ∷ 0 ∷ 978 ∷ 3 ∷ 1 ∷ 1800 ∷ 1 ∷ 0 ∷ 0 ∷ 1 ∷ [])) []
    (guarantee_in (300 ∷ 2 ∷ 1 ∷ 0 ∷ 978 ∷ 1800 ∷ 1800 ∷ 1 ∷ 1 ∷ 1 ∷ 0 ∷ []) ∷ guarantee_in (500 ∷ 1 ∷ 1 ∷ 0 ∷ 978 ∷ 1800 ∷ 1800 ∷ 1 ∷ 1 ∷ 1 ∷ instrument ∷ []) ∷ [])

record_said : report_of (held 2) ≡ report_by before_swaps (held 2)
unfolding worked
record_said = credit_derivatives.report_same (held 2) refl refl

-- 260 and 500 uncovered at 100, 300 at 20; cut to 300, 460
record_reported : (report_of (held 0)).rwa ∷ (report_of (held 1)).rwa ∷ (report_of (held 2)).rwa ∷ (report_of (held 3)).rwa ∷ [] ≡ 260 ∷ 460 ∷ 260 ∷ 0 ∷ []
unfolding worked
record_reported = refl

-- the rules of before: an S was malformed, every item a guarantee, and nothing asked what it was
before_swaps_lem :
    ((report_by before_swaps (held 1)).rwa ≡ 260)
    × (map (λ k. accepted_by before_swaps (held k)) (0 ∷ 1 ∷ 2 ∷ 3 ∷ 256 ∷ []) ≡ replicate 5 true)
    × (every 256 (λ b. beq (not (eqb b (byte "S"))) (no_swap (b ∷ bytes "\t1\n"))) ≡ true)
    × (book_without_swaps plain ≡ true)
    × (none_cut (held 0) ∷ none_cut (held 1) ∷ none_cut (held 2) ∷ [] ≡ true ∷ false ∷ true ∷ [])
unfolding worked report_by accepted_by terms_refusal_by collateral_refusal_by guarantee_refusal_by
before_swaps_lem = (refl, refl, refl, refl, refl)
