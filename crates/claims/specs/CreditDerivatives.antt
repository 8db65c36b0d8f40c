-- 02: L1. "Two members hedge loans with credit default swaps. Take them as a line S, laid out as G with one more condition at the end:
-- restructuring is a credit event (CRE22.86, 22.87). Without that condition the amount is first cut to 60 percent, rounded down, of the smaller of
-- the swap and the deal's amount. Currency and maturity follow as for a guarantee, with its grounds. Swaps and guarantees share the list of sixteen
-- and cover in a single order of weight. The rule on betterments now includes swaps and this condition. (A line S is refused as a G is.)"
--
-- `before_swaps` is the set of rules before this request, as they stood (earlier/specs/BeforeSwaps), with the losses that reports have since 02: L2 on
-- both sides. What ends in By is a definition of opening,
-- adding, reporting or answering a book by a set of rules; by the rules in force it is the one that contracts name (the fields ending in -now of
-- claims/specs/SovereignFloor). Each item of the list of guarantees has an instrument: 0 a guarantee, 1 a swap without the condition, 2 one with it
-- (deal/specs/Instruments). The order of cover is `rising_order` of claims/specs/Demand2, over the pieces of guarantees and swaps alike; the rule on
-- betterments is claims/specs/Demand3.
use Rattle.std.specs.Prelude.{ℕ, zero, suc, ◌+◌, ◌*◌, ◌/◌, ◌≤◌, min, ◌≡◌, true, false, not, ◌&&◌, List, [], ◌∷◌, ◌++◌, map, eqb, leb, drop, get_or, replicate, take, if◌then◌else◌}
use Rattle.base.specs.All.{all_pass}
use Rattle.tables.specs.Table.{Table}
use Rattle.scaling.specs.Period.{guarantee_period}
use Rattle.valuation.specs.Haircuts.{scaled_currency_haircut}
use Rattle.valuation.specs.Protection.{recognised}
use Rattle.valuation.specs.Restructuring.{partially_recognised}
use Rattle.text.specs.Bytes.{byte, bytes}
use Rattle.deal.specs.Adding.{add_collateral_refusal, add_guarantee_refusal, add_swap_refusal, with_collateral, with_guarantee}
use Rattle.deal.specs.Fields.{swap_sent}
use Rattle.deal.specs.Instruments.{as_swap, guarantee_instrument, instrument_allowed, swap_without_restructuring}
use Rattle.deal.specs.Opening.{opened_deal}
use Rattle.deal.specs.Records.{accepted}
use Rattle.deal.specs.Views.{View, view_of}
use Rattle.deal.specs.Terms.{terms_refusal}
use Rattle.deal.specs.declared.terms.Terms.{Terms}
use Rattle.deal.specs.declared.collateral.Collateral.{Collateral}
use Rattle.deal.specs.declared.guarantee.Guarantee.{Guarantee}
use Rattle.deal.specs.declared.deal.Deal.{Deal}
use Rattle.relief.specs.Guarantees.{guarantee_ground, guarantee_outcome, guarantee_valuation, hedged_amount, protection_of}
use Rattle.relief.specs.Exposure.{pieces_of}
use Rattle.relief.specs.Outcomes.{outcome_for, outcome_value}
use Rattle.relief.specs.Report.{report_of}
use Rattle.relief.specs.Weights.{provider_weight_of}
use Rattle.lines.specs.Fields.{fields_of}
use Rattle.lines.specs.Lines.{if_read, line_of}
use Rattle.lines.specs.declared.line.Line.TheVariants.{GuaranteeLine, Malformed}
use Rattle.book.specs.Answers.{deal_answer, line_refusal, with_line}
use Rattle.book.specs.Book.{book_reply, lines_behind, results_after}
use Rattle.book.specs.Deals.{DealLines}
use Rattle.response.specs.Response.{printed}
use Rattle.earlier.specs.BeforeSwaps.{before_swaps, line_before_swaps}
use Rattle.earlier.specs.Books.{book_reply_by, deal_answer_by, printed_by, results_by}
use Rattle.earlier.specs.Deals.{accepted_by, add_collateral_refusal_by, add_guarantee_refusal_by, deal_opened_by, report_by, terms_refusal_by, with_collateral_by, with_guarantee_by}

-- deals of 1,000 headed 2, to a corporate that weighs 100, hedged by a sovereign that weighs 0
abbrev pub loan : List ℕ
loan = bytes "D\t1000\t3\t0\t1\t978\t3\t1\t1800\t1\t0\t0\n"

abbrev pub sample : List ℕ
sample =
    bytes "CRM\t2\n"
    -- without the condition: below the deal's amount, at it and above it: 300, 600, 600
    ++ loan ++ bytes "S\t500\t1\t1\t0\t978\t1800\t1800\t1\t1\t1\t0\n"
    ++ loan ++ bytes "S\t1000\t1\t1\t0\t978\t1800\t1800\t1\t1\t1\t0\n"
    ++ loan ++ bytes "S\t1001\t1\t1\t0\t978\t1800\t1800\t1\t1\t1\t0\n"
    -- 999: 599 and four tenths, rounded down; 1: nothing
    ++ loan ++ bytes "S\t999\t1\t1\t0\t978\t1800\t1800\t1\t1\t1\t0\n"
    ++ loan ++ bytes "S\t1\t1\t1\t0\t978\t1800\t1800\t1\t1\t1\t0\n"
    -- the condition met: whole, above the deal's amount too (in another currency, 1,840 of 2,000)
    ++ loan ++ bytes "S\t500\t1\t1\t0\t978\t1800\t1800\t1\t1\t1\t1\n"
    ++ loan ++ bytes "S\t2000\t1\t1\t0\t840\t1800\t1800\t1\t1\t1\t1\n"
    -- cut, then the currency's 8 percent: 128, 76, 69 (the other way round 70); then the mismatch: 25, 15, 7 (the other way round 6)
    ++ loan ++ bytes "S\t128\t1\t1\t0\t840\t1800\t1800\t1\t1\t1\t0\n"
    ++ loan ++ bytes "S\t25\t1\t1\t0\t978\t900\t1800\t1\t1\t1\t0\n"
    -- E* is 500 after cash; the deal's amount decides: 600 cover it
    ++ loan ++ bytes "C\t500\t1\t0\t0\t978\t1800\t1800\t1\t1\t1\t0\nS\t1000\t1\t1\t0\t978\t1800\t1800\t1\t1\t1\t0\n"
    -- two of them, each cut by itself: 300 and 300; and one of 2,000 beside one of 1,000: 600 each, which cover it all
    ++ loan ++ bytes "S\t500\t1\t1\t0\t978\t1800\t1800\t1\t1\t1\t0\nS\t500\t1\t1\t0\t978\t1800\t1800\t1\t1\t1\t0\n"
    ++ loan ++ bytes "S\t2000\t1\t1\t0\t978\t1800\t1800\t1\t1\t1\t0\nS\t1000\t1\t1\t0\t978\t1800\t1800\t1\t1\t1\t0\n"
    -- one order of weight: a bank's guarantee of 900 at 20 arrives before a swap that hedges 300 at 0, and covers the 700 behind it; and the other way
    -- round
    ++ loan ++ bytes "G\t900\t2\t1\t1\t978\t1800\t1800\t1\t1\t1\nS\t500\t1\t1\t0\t978\t1800\t1800\t1\t1\t1\t0\n"
    ++ loan ++ bytes "S\t2000\t2\t1\t1\t978\t1800\t1800\t1\t1\t1\t0\nG\t300\t1\t1\t0\t978\t1800\t1800\t1\t1\t1\n"
    -- not lawful: left out; refused by 8 and by 7, malformed with a guarantee's numbers
    ++ loan ++ bytes "S\t500\t1\t1\t0\t978\t1800\t1800\t0\t1\t1\t1\n"
    ++ loan ++ bytes "S\t500\t1\t1\t0\t978\t1800\t1800\t1\t1\t1\t2\n"
    ++ loan ++ bytes "S\t500\t1\t1\t0\t978\t1801\t1800\t1\t1\t1\t2\n"
    ++ loan ++ bytes "S\t500\t1\t1\t0\t978\t1800\t1800\t1\t1\t1\n"

abbrev pub sample_answers : List ℕ
sample_answers =
    (1 ∷ 0 ∷ 1000 ∷ 700 ∷ [])
    ++ (2 ∷ 0 ∷ 1000 ∷ 400 ∷ [])
    ++ (3 ∷ 0 ∷ 1000 ∷ 400 ∷ [])
    ++ (4 ∷ 0 ∷ 1000 ∷ 401 ∷ [])
    ++ (5 ∷ 0 ∷ 1000 ∷ 1000 ∷ [])
    ++ (6 ∷ 0 ∷ 1000 ∷ 500 ∷ [])
    ++ (7 ∷ 0 ∷ 1000 ∷ 0 ∷ [])
    ++ (8 ∷ 0 ∷ 1000 ∷ 931 ∷ [])
    ++ (9 ∷ 0 ∷ 1000 ∷ 993 ∷ [])
    ++ (10 ∷ 0 ∷ 500 ∷ 0 ∷ [])
    ++ (11 ∷ 0 ∷ 1000 ∷ 400 ∷ [])
    ++ (12 ∷ 0 ∷ 1000 ∷ 0 ∷ [])
    ++ (13 ∷ 0 ∷ 1000 ∷ 140 ∷ [])
    ++ (14 ∷ 0 ∷ 1000 ∷ 220 ∷ [])
    ++ (15 ∷ 0 ∷ 1000 ∷ 1000 ∷ [])
    ++ (16 ∷ 8 ∷ 38 ∷ 0 ∷ [])
    ++ (17 ∷ 7 ∷ 40 ∷ 0 ∷ [])
    ++ (18 ∷ 11 ∷ 42 ∷ 0 ∷ [])

-- the first of them headed 1, and headed 3
abbrev pub sample_first : List ℕ
sample_first = bytes "CRM\t1\nD\t1000\t3\t0\t978\t3\t1\t1800\t1\t0\t0\nS\t500\t1\t1\t978\t1800\t1800\t1\t1\t1\t0\n"

abbrev pub sample_third : List ℕ
sample_third = bytes "CRM\t3\n" ++ loan ++ bytes "S\t500\t1\t1\t0\t978\t1800\t1800\t1\t1\t1\t0\n"

-- nine guarantees and seven swaps of 100, and a line behind them
abbrev pub guarantee_line : List ℕ
guarantee_line = bytes "G\t100\t1\t1\t0\t978\t1800\t1800\t1\t1\t1\n"

abbrev pub swap_line : List ℕ
swap_line = bytes "S\t100\t1\t1\t0\t978\t1800\t1800\t1\t1\t1\t0\n"

abbrev pub times : ℕ → List ℕ → List ℕ
times zero line = []
times (suc n) line = line ++ times n line

abbrev pub filled : List ℕ → List ℕ
filled last = bytes "CRM\t2\n" ++ loan ++ times 9 guarantee_line ++ times 7 swap_line ++ last

pub record CreditDerivatives : Type 0 where
  -- A BOOK WITHOUT A LINE S HAS THE ANSWERS IT HAD, under every heading

  -- the reply to every book; every number of every results list, and every byte that is printed
  pub reply_same : (book : List ℕ) (places : ℕ) → book_reply book places ≡ book_reply_by before_swaps book places
  pub results_same : (book list : List ℕ) → all_pass (lines_behind book) (λ line. not (eqb (get_or line 0 0) (byte "S"))) ≡ true → results_after book list ≡ results_by before_swaps book list
  pub printed_same : (book : List ℕ) → all_pass (lines_behind book) (λ line. not (eqb (get_or line 0 0) (byte "S"))) ≡ true → printed book ≡ printed_by before_swaps book
  -- each line but an S reads as before, and each deal without one has the three numbers it had, whatever stands in the deals around it
  pub line_same : (edition : ℕ) (line : List ℕ) → not (eqb (get_or line 0 0) (byte "S")) ≡ true → line_of edition line ≡ line_before_swaps edition line
  pub deal_same : (edition : ℕ) (deal : DealLines) → all_pass (deal.opening ∷ deal.further) (λ line. not (eqb (get_or line 0 0) (byte "S"))) ≡ true →
      deal_answer edition deal ≡ deal_answer_by before_swaps edition deal
  -- a line S was malformed
  pub was_malformed : (edition : ℕ) (rest : List ℕ) → line_before_swaps edition (byte "S" ∷ rest) ≡ Malformed
  -- A DEAL IN WHICH NO SWAP'S AMOUNT IS CUT HAS THE REPORT IT HAD, swaps with the condition met among its guarantees
  pub report_same : (d : Deal) → accepted d ≡ true → all_pass (view_of d).guarantees (λ g. not (eqb g.instrument swap_without_restructuring)) ≡ true →
      report_of d ≡ report_by before_swaps d
  -- accepted are exactly the records that were accepted before and hold one of the three instruments in each counted place
  pub accepted_exactly : (d : Deal) → accepted d ≡ (accepted_by before_swaps d && all_pass (view_of d).guarantees (λ g. leb g.instrument 2))
  pub opening_same : (t : Terms) → (terms_refusal t ≡ terms_refusal_by before_swaps t) × (opened_deal t ≡ deal_opened_by before_swaps t)
  pub adding_collateral_same : (d : Deal) (c : Collateral) → accepted d ≡ true →
      (add_collateral_refusal d c ≡ add_collateral_refusal_by before_swaps d c) × (with_collateral d c ≡ with_collateral_by before_swaps d c)
  pub adding_guarantee_same : (d : Deal) (g : Guarantee) → accepted d ≡ true → instrument_allowed g.instrument ≡ true →
      (add_guarantee_refusal d g ≡ add_guarantee_refusal_by before_swaps d g) × (with_guarantee d g ≡ with_guarantee_by before_swaps d g)
  -- WHAT OF A SWAP IS HEDGED

  -- without the condition, 60 percent of the smaller amount, rounded down
  pub without_condition : (t : Terms) (g : Guarantee) → g.instrument ≡ swap_without_restructuring →
      hedged_amount t g ≡ min g.amount t.amount * 60 / 100
  -- of anything else, the whole amount
  pub whole_amount : (t : Terms) (g : Guarantee) → eqb g.instrument swap_without_restructuring ≡ false → hedged_amount t g ≡ g.amount
  -- with the condition met, a swap has the outcome of the guarantee of the same fields, and covers with what that covers with
  pub in_all_but_its_letter : (table : Table) (t : Terms) (g : Guarantee) → g.instrument ≡ guarantee_instrument →
      (guarantee_outcome table t (as_swap 1 g) ≡ guarantee_outcome table t g) × (protection_of table t (as_swap 1 g) ≡ protection_of table t g)
  -- "with its grounds": those of the guarantee of the same fields, whichever the entry
  pub grounds_same : (table : Table) (t : Terms) (restructuring : ℕ) (g : Guarantee) → guarantee_ground table t (as_swap restructuring g) ≡ guarantee_ground table t g
  -- "Currency and maturity follow as for a guarantee": the amount that is hedged, then the haircut over the guarantees' period, then the mismatch
  pub value_after : (t : Terms) (g : Guarantee) →
      (guarantee_valuation t g).value
      ≡ recognised (hedged_amount t g) (scaled_currency_haircut g.currency t.currency (guarantee_period t.interval)) g.residual t.residual
  -- that value, or its ground, is what is reported of it (with where the rest went: claims/specs/Losses)
  pub outcome_of : (table : Table) (t : Terms) (g : Guarantee) → guarantee_outcome table t g ≡ outcome_for (guarantee_ground table t g) g.amount (guarantee_valuation t g)
  -- and it covers with that value at its provider's own weight
  pub covers_with : (table : Table) (t : Terms) (g : Guarantee) →
      protection_of table t g ≡ record { value = outcome_value (guarantee_outcome table t g); weight = provider_weight_of table g }
  pub pieces_of_lem : (table : Table) (v : View) → pieces_of table v ≡ map (protection_of table v.terms) v.guarantees
  -- by number, of a deal of 1,001
  pub cut_by_number : map (λ amount. partially_recognised amount 1001) (0 ∷ 1 ∷ 2 ∷ 3 ∷ 999 ∷ 1000 ∷ 1001 ∷ 1002 ∷ 1000000000000 ∷ [])
      ≡ 0 ∷ 0 ∷ 1 ∷ 1 ∷ 599 ∷ 600 ∷ 600 ∷ 600 ∷ 600 ∷ []
  pub cut_at_the_limit : partially_recognised 1000000000000 1000000000000 ≡ 600000000000
  -- LINES

  -- each number that is sent for a swap in its place; entries 0 and 1 of the condition give instruments 1 and 2, any other 3, which is none
  pub swap_numbers : (amount class step sovereign currency residual original lawful direct rated restructuring : ℕ) →
      swap_sent (amount ∷ class ∷ step ∷ sovereign ∷ currency ∷ residual ∷ original ∷ lawful ∷ direct ∷ rated ∷ restructuring ∷ [])
      ≡ record {
        amount = amount;
        provider = record { class = class; step = step; sovereign_step = sovereign };
        currency = currency;
        residual = residual;
        original = original;
        lawful = lawful;
        direct = direct;
        not_in_rating = rated;
        instrument = 1 + min restructuring 2;
      }
  -- headed 1, ten numbers behind the letter, the sovereign's step left out; headed 2 and 3, eleven with it in its place
  pub swap_line_1 : (rest : List ℕ) →
      line_of 1 (byte "S" ∷ rest) ≡ if_read (λ fields. GuaranteeLine (swap_sent (take 3 fields ++ 0 ∷ drop 3 fields))) (fields_of 10 rest)
  pub swap_line_2 : (rest : List ℕ) → line_of 2 (byte "S" ∷ rest) ≡ if_read (λ fields. GuaranteeLine (swap_sent fields)) (fields_of 11 rest)
  pub swap_line_3 : (rest : List ℕ) → line_of 3 (byte "S" ∷ rest) ≡ if_read (λ fields. GuaranteeLine (swap_sent fields)) (fields_of 11 rest)
  -- what a line G or S brings is added to the deal's list of guarantees as it is
  pub line_added : (d : Deal) (g : Guarantee) → (line_refusal d (GuaranteeLine g) ≡ add_guarantee_refusal d g) × (with_line d (GuaranteeLine g) ≡ with_guarantee d g)
  -- REFUSED AS A G IS, in every respect

  -- with an entry of 0 or 1, exactly as the guarantee of the same fields
  pub refused_as_guarantee : (d : Deal) (restructuring : ℕ) (g : Guarantee) → restructuring ≤ 1 → g.instrument ≡ guarantee_instrument →
      add_swap_refusal d restructuring g ≡ add_guarantee_refusal d g
  -- with any other, by 8, unless the guarantee would be refused
  pub wrong_entry : (d : Deal) (restructuring : ℕ) (g : Guarantee) → 2 ≤ restructuring → g.instrument ≡ guarantee_instrument →
      add_swap_refusal d restructuring g ≡ (if eqb (add_guarantee_refusal d g) 0 then 8 else add_guarantee_refusal d g)
  -- "share the list of sixteen": a seventeenth line, G or S, is refused by 6, behind any sixteen of both
  pub seventeenth : (map (λ last. results_after (filled last) (replicate 4 7)) (swap_line ∷ guarantee_line ∷ []) ≡ replicate 2 (1 ∷ 6 ∷ 19 ∷ 0 ∷ []))
      × (results_after (filled []) (replicate 4 7) ≡ 1 ∷ 0 ∷ 1000 ∷ 0 ∷ [])
  -- BOOKS THAT HAVE IT ALL, worked out

  pub sample_answered : results_after sample (replicate 72 7) ≡ sample_answers
  pub sample_1_answered : results_after sample_first (replicate 4 7) ≡ 1 ∷ 0 ∷ 1000 ∷ 700 ∷ []
  pub sample_3_answered : results_after sample_third (replicate 4 7) ≡ 1 ∷ 0 ∷ 1000 ∷ 700 ∷ []
