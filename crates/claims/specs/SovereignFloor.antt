-- 02: L5. "an unrated bank or corporate may not weigh less than its sovereign of incorporation. .. An unrated bank or corporate takes the
-- larger of its own weight and the sovereign's; an unrated other entity still has ground 28. The header's second field becomes 2, and a
-- book headed 1 reads as before with no floor."
--
-- `before_floor` is the set of rules before this request, each as it stood, but that it has lines S and swaps, which came later (02: L1), as they are
-- today (earlier/specs/BeforeFloor): what is said here of lines, records and books before means these among them, and what they change is said in
-- claims/specs/CreditDerivatives. What ends in By is a definition of opening,
-- adding, reporting or answering a book by a set of rules (earlier/specs/Deals, earlier/specs/Books); by the rules in force it is the one
-- that contracts name, as the fields ending in -now say. What the request did not touch (values, losses, grounds, cover, rounding, the deals of a
-- book) is today's definition on both sides, and is not compared. Demand 3 speaks of deals of every edition, a guarantor's sovereign's step among
-- what may get better (claims/specs/Demand3). Since 02: L9 a book may be headed 3 too, which has tables of its own (claims/specs/Tables2023).
use Rattle.std.specs.Prelude.{ℕ, ◌≤◌, max, ◌≡◌, true, false, ◌&&◌, List, [], ◌∷◌, ◌++◌, map, eqb, leb, length, replicate}
use Rattle.tables.specs.Classes.{bank, bank_or_securities_firm, corporate, other_entity, retail, sovereign}
use Rattle.tables.specs.Weights.{counterparty_weight, own_weight, provider_weight, table_weight}
use Rattle.text.specs.Bytes.{byte, bytes}
use Rattle.text.specs.Text.{first_line, same_bytes}
use Rattle.deal.specs.Adding.{add_collateral_refusal, add_guarantee_refusal, with_collateral, with_guarantee}
use Rattle.deal.specs.Editions.{edition_known, table_for}
use Rattle.deal.specs.Fields.{guarantee_sent, terms_under}
use Rattle.deal.specs.Guarantees.{guarantee_checks, guarantee_refusal}
use Rattle.deal.specs.Opening.{opened_deal}
use Rattle.deal.specs.Parties.{sovereign_step_allowed}
use Rattle.deal.specs.Ranges.{amount_allowed, days_limit}
use Rattle.deal.specs.Records.{accepted}
use Rattle.deal.specs.Terms.{terms_checks, terms_refusal}
use Rattle.deal.specs.declared.party.Party.{Party}
use Rattle.deal.specs.declared.terms.Terms.{Terms}
use Rattle.deal.specs.declared.collateral.Collateral.{Collateral}
use Rattle.deal.specs.declared.guarantee.Guarantee.{Guarantee}
use Rattle.deal.specs.declared.deal.Deal.{Deal}
use Rattle.relief.specs.Guarantees.{guarantee_ground}
use Rattle.relief.specs.Report.{report_of}
use Rattle.relief.specs.Weights.{counterparty_weight_of, provider_weight_of}
use Rattle.lines.specs.Fields.{fields_of}
use Rattle.lines.specs.Lines.{if_read, line_of}
use Rattle.lines.specs.declared.line.Line.TheVariants.{DealLine, GuaranteeLine}
use Rattle.book.specs.Answers.{deal_answer}
use Rattle.book.specs.Book.{book_edition, book_reply, results_after}
use Rattle.book.specs.Heading.{heading_of, is_wrong}
use Rattle.book.specs.Deals.{DealLines}
use Rattle.response.specs.Response.{printed}
use Rattle.earlier.specs.BeforeFloor.{before_floor, line_before, new_fields_allowed}
use Rattle.earlier.specs.Books.{book_refusal_by, book_reply_by, deal_answer_by, printed_by, results_by}
use Rattle.earlier.specs.Deals.{accepted_by, add_collateral_refusal_by, add_guarantee_refusal_by, deal_opened_by, report_by, terms_refusal_by, with_collateral_by, with_guarantee_by}
use Rattle.earlier.specs.Rules.{in_force}

-- a book whose first line is that of no later edition than the first
abbrev pub NotHeadedLater : List ℕ → Type 0
NotHeadedLater book = (same_bytes (first_line book) (bytes "CRM\t2\n") ≡ false) × (same_bytes (first_line book) (bytes "CRM\t3\n") ≡ false)

abbrev pub steps : List ℕ
steps = 0 ∷ 1 ∷ 2 ∷ 3 ∷ 4 ∷ 5 ∷ 6 ∷ []

-- twelve deals headed 2, with the weights that tell
abbrev pub sample : List ℕ
sample =
    bytes "CRM\t2\n"
    -- 150, backed at 50; 150 of a corporate; 100 under an unrated sovereign, backed at 50; 50; 20, rated
    ++ bytes "D\t1000\t2\t0\t6\t978\t3\t1\t1800\t1\t0\t0\nG\t400\t2\t0\t3\t978\t1800\t1800\t1\t1\t1\n"
    ++ bytes "D\t1000\t3\t0\t6\t978\t3\t1\t1800\t1\t0\t0\n"
    ++ bytes "D\t1000\t2\t0\t0\t978\t3\t1\t1800\t1\t0\t0\nG\t400\t2\t0\t3\t978\t1800\t1800\t1\t1\t1\n"
    ++ bytes "D\t1000\t2\t0\t1\t978\t3\t1\t1800\t1\t0\t0\n"
    ++ bytes "D\t1000\t2\t1\t6\t978\t3\t1\t1800\t1\t0\t0\n"
    -- an unrated other entity is left out
    ++ bytes "D\t1000\t3\t0\t6\t978\t3\t1\t1800\t1\t0\t0\nG\t400\t3\t0\t1\t978\t1800\t1800\t1\t1\t1\n"
    -- a sovereign's step that is not 0 for a sovereign, for retail; one above 6; a line of a book headed 1
    ++ bytes "D\t1000\t1\t0\t1\t978\t3\t1\t1800\t1\t0\t0\n"
    ++ bytes "D\t1000\t4\t0\t1\t978\t3\t1\t1800\t1\t0\t0\n"
    ++ bytes "D\t1000\t2\t0\t7\t978\t3\t1\t1800\t1\t0\t0\n"
    ++ bytes "D\t1000\t2\t0\t978\t3\t1\t1800\t1\t0\t0\n"
    -- the same of a guarantee
    ++ bytes "D\t1000\t2\t0\t0\t978\t3\t1\t1800\t1\t0\t0\nG\t400\t1\t1\t1\t978\t1800\t1800\t1\t1\t1\n"
    ++ bytes "D\t1000\t2\t0\t0\t978\t3\t1\t1800\t1\t0\t0\nG\t400\t1\t1\t978\t1800\t1800\t1\t1\t1\n"

abbrev pub sample_answers : List ℕ
sample_answers =
    (1 ∷ 0 ∷ 1000 ∷ 1100 ∷ [])
    ++ (2 ∷ 0 ∷ 1000 ∷ 1500 ∷ [])
    ++ (3 ∷ 0 ∷ 1000 ∷ 800 ∷ [])
    ++ (4 ∷ 0 ∷ 1000 ∷ 500 ∷ [])
    ++ (5 ∷ 0 ∷ 1000 ∷ 200 ∷ [])
    ++ (6 ∷ 0 ∷ 1000 ∷ 1500 ∷ [])
    ++ (7 ∷ 3 ∷ 11 ∷ 0 ∷ [])
    ++ (8 ∷ 3 ∷ 12 ∷ 0 ∷ [])
    ++ (9 ∷ 3 ∷ 13 ∷ 0 ∷ [])
    ++ (10 ∷ 11 ∷ 14 ∷ 0 ∷ [])
    ++ (11 ∷ 3 ∷ 16 ∷ 0 ∷ [])
    ++ (12 ∷ 11 ∷ 18 ∷ 0 ∷ [])

pub record SovereignFloor : Type 0 where
  -- A BOOK THAT IS HEADED NEITHER 2 NOR 3, one headed 1 among them, HAS THE ANSWERS IT HAD

  -- the reply, every number of every results list, and every byte that is printed
  pub reply_same : (book : List ℕ) (places : ℕ) → NotHeadedLater book → book_reply book places ≡ book_reply_by before_floor book places
  pub results_same : (book list : List ℕ) → NotHeadedLater book → results_after book list ≡ results_by before_floor book list
  pub printed_same : (book : List ℕ) → NotHeadedLater book → printed book ≡ printed_by before_floor book
  -- headed 1, each line reads as before, field by field, and each deal has the three numbers it had
  pub line_same : (line : List ℕ) → line_of 1 line ≡ line_before line
  pub deal_same : (deal : DealLines) → deal_answer 1 deal ≡ deal_answer_by before_floor 1 deal
  -- headed 2, it was refused: by 9, unless it was too long
  pub was_refused : (book : List ℕ) (places : ℕ) → same_bytes (first_line book) (bytes "CRM\t2\n") ≡ true → length book ≤ 65536 → book_refusal_by before_floor book places ≡ 9
  -- A DEAL OF THE FIRST EDITION HAS THE REPORT IT HAD, beside the losses that came later (02: L2)

  -- whatever allowed steps of sovereigns its record holds
  pub report_same : (d : Deal) → accepted d ≡ true → d.terms.edition ≡ 1 → report_of d ≡ report_by before_floor d
  -- accepted are exactly the records that were accepted before and hold a known edition and allowed steps of sovereigns
  pub accepted_exactly : (d : Deal) → accepted d ≡ (accepted_by before_floor d && new_fields_allowed d)
  -- and where these are so, opening and adding answer what they answered, under every edition
  pub opening_same : (t : Terms) → edition_known t.edition ≡ true → sovereign_step_allowed t.counterparty ≡ true →
      (terms_refusal t ≡ terms_refusal_by before_floor t) × (opened_deal t ≡ deal_opened_by before_floor t)
  pub adding_collateral_same : (d : Deal) (c : Collateral) → accepted d ≡ true →
      (add_collateral_refusal d c ≡ add_collateral_refusal_by before_floor d c) × (with_collateral d c ≡ with_collateral_by before_floor d c)
  pub adding_guarantee_same : (d : Deal) (g : Guarantee) → accepted d ≡ true → sovereign_step_allowed g.provider ≡ true →
      (add_guarantee_refusal d g ≡ add_guarantee_refusal_by before_floor d g) × (with_guarantee d g ≡ with_guarantee_by before_floor d g)
  -- THE FLOOR under the second edition, by the sovereign's step (the third has it too: claims/specs/Tables2023)

  -- an unrated bank, which weighs 50 by itself, and an unrated corporate, which weighs 100; an unrated bank that gives a guarantee
  pub bank_floor : (sovereign_step : ℕ) → counterparty_weight 2 bank 0 sovereign_step ≡ max 50 (table_weight sovereign sovereign_step)
  pub corporate_floor : (sovereign_step : ℕ) → counterparty_weight 2 corporate 0 sovereign_step ≡ max 100 (table_weight sovereign sovereign_step)
  pub provider_floor : (sovereign_step : ℕ) → provider_weight 2 bank_or_securities_firm 0 sovereign_step ≡ max 50 (table_weight sovereign sovereign_step)
  -- whoever is rated weighs by class and step alone, and so does every sovereign, retail and other entity
  pub rated_counterparty : (class step sovereign_step : ℕ) → 1 ≤ step → counterparty_weight 2 class step sovereign_step ≡ own_weight class step
  pub rated_provider : (class step sovereign_step : ℕ) → 1 ≤ step → provider_weight 2 class step sovereign_step ≡ table_weight class step
  pub others : (step sovereign_step : ℕ) →
      (counterparty_weight 2 sovereign step sovereign_step ≡ own_weight sovereign step)
      × (counterparty_weight 2 retail step sovereign_step ≡ own_weight retail step)
      × (provider_weight 2 sovereign step sovereign_step ≡ table_weight sovereign step)
      × (provider_weight 2 other_entity step sovereign_step ≡ table_weight other_entity step)
  -- under the first edition everyone
  pub no_floor : (class step sovereign_step : ℕ) →
      (counterparty_weight 1 class step sovereign_step ≡ own_weight class step) × (provider_weight 1 class step sovereign_step ≡ table_weight class step)
  -- by number, of the sovereign's steps 0 to 6
  pub bank_floors : map (counterparty_weight 2 bank 0) steps ≡ 100 ∷ 50 ∷ 50 ∷ 50 ∷ 100 ∷ 100 ∷ 150 ∷ []
  pub corporate_floors : map (counterparty_weight 2 corporate 0) steps ≡ 100 ∷ 100 ∷ 100 ∷ 100 ∷ 100 ∷ 100 ∷ 150 ∷ []
  pub provider_floors : map (provider_weight 2 bank_or_securities_firm 0) steps ≡ 100 ∷ 50 ∷ 50 ∷ 50 ∷ 100 ∷ 100 ∷ 150 ∷ []
  -- these are the weights of a deal's report, by its edition, each party's class, step and sovereign's step; the third edition has those of 2023
  pub weight_used : (t : Terms) → eqb t.edition 3 ≡ false →
      counterparty_weight_of (table_for t) t ≡ counterparty_weight t.edition t.counterparty.class t.counterparty.step t.counterparty.sovereign_step
  pub provider_weight_used : (t : Terms) (g : Guarantee) → eqb t.edition 3 ≡ false →
      provider_weight_of (table_for t) g ≡ provider_weight t.edition g.provider.class g.provider.step g.provider.sovereign_step
  -- "an unrated other entity still has ground 28", under every edition and whatever its sovereign's step
  pub entity_left_out : (t : Terms) (g : Guarantee) → g.provider.class ≡ other_entity → g.provider.step ≡ 0 →
      g.lawful ≡ 1 → g.direct ≡ 1 → g.not_in_rating ≡ 1 → guarantee_ground (table_for t) t g ≡ 28
  -- THE HEADER, THE LINES, THE REFUSALS

  -- a book headed 2 is not wrongly headed, and has edition 2; its lines hold the sovereign's step in the fourth place
  pub headed_2 : (book : List ℕ) → same_bytes (first_line book) (bytes "CRM\t2\n") ≡ true → (is_wrong (heading_of (first_line book)) ≡ false) × (book_edition book ≡ 2)
  pub deal_line_2 : (rest : List ℕ) → line_of 2 (byte "D" ∷ rest) ≡ if_read (λ fields. DealLine (terms_under 2 fields)) (fields_of 11 rest)
  pub guarantee_line_2 : (rest : List ℕ) → line_of 2 (byte "G" ∷ rest) ≡ if_read (λ fields. GuaranteeLine (guarantee_sent fields)) (fields_of 10 rest)
  pub collateral_line_2 : (rest : List ℕ) → line_of 2 (byte "C" ∷ rest) ≡ line_of 1 (byte "C" ∷ rest)
  -- an unknown edition is refused by 2, behind 1
  pub editions_known : map edition_known (0 ∷ 1 ∷ 2 ∷ 3 ∷ 4 ∷ []) ≡ false ∷ true ∷ true ∷ true ∷ false ∷ []
  pub editions_unknown : (edition : ℕ) → 4 ≤ edition → edition_known edition ≡ false
  pub unknown_edition : (t : Terms) → amount_allowed t.amount ≡ true → edition_known t.edition ≡ false → terms_refusal t ≡ 2
  -- a sovereign's step is 0 for classes 1 and 4, and at most 6 for 2 and 3; else it is 3, behind 1 and 2
  pub steps_of_sovereigns : (class step s : ℕ) → let party : Party = record { class = class; step = step; sovereign_step = s } in
      (class ≡ sovereign → sovereign_step_allowed party ≡ eqb s 0)
      × (class ≡ bank → sovereign_step_allowed party ≡ leb s 6)
      × (class ≡ corporate → sovereign_step_allowed party ≡ leb s 6)
      × (class ≡ retail → sovereign_step_allowed party ≡ eqb s 0)
  pub wrong_step : (t : Terms) → (terms_checks days_limit t).amount ≡ true → (terms_checks days_limit t).codes ≡ true →
      sovereign_step_allowed t.counterparty ≡ false → terms_refusal t ≡ 3
  pub wrong_provider_step : (g : Guarantee) → (guarantee_checks days_limit g).amount ≡ true → (guarantee_checks days_limit g).codes ≡ true →
      sovereign_step_allowed g.provider ≡ false → guarantee_refusal g ≡ 3
  -- A BOOK THAT HAS IT ALL, worked out

  pub sample_answered : results_after sample (replicate 48 7) ≡ sample_answers
  -- BY THE RULES IN FORCE each definition that ends in By is the one that contracts name

  pub opening_now : (t : Terms) → (terms_refusal_by in_force t ≡ terms_refusal t) × (deal_opened_by in_force t ≡ opened_deal t)
  pub accepted_now : (d : Deal) → accepted_by in_force d ≡ accepted d
  pub collateral_now : (d : Deal) (c : Collateral) →
      (add_collateral_refusal_by in_force d c ≡ add_collateral_refusal d c) × (with_collateral_by in_force d c ≡ with_collateral d c)
  pub guarantee_now : (d : Deal) (g : Guarantee) →
      (add_guarantee_refusal_by in_force d g ≡ add_guarantee_refusal d g) × (with_guarantee_by in_force d g ≡ with_guarantee d g)
  pub report_now : (d : Deal) → report_by in_force d ≡ report_of d
  pub deal_now : (edition : ℕ) (deal : DealLines) → deal_answer_by in_force edition deal ≡ deal_answer edition deal
  pub reply_now : (book : List ℕ) (places : ℕ) → book_reply_by in_force book places ≡ book_reply book places
  pub results_now : (book list : List ℕ) → results_by in_force book list ≡ results_after book list
  pub printed_now : (book : List ℕ) → printed_by in_force book ≡ printed book
