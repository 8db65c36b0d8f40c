-- 02: L9. "A header second field of 3 chooses it, with lines as under 2. .. What is listed here decides over source document 000 and is all
-- that changes; demand 2 means it for these members." ("A netting set names its table by that number" waits for L6.)
--
-- `before_2023` is the set of rules before this request (earlier/specs/Before2023); what ends in By is said by a set of rules, as in
-- claims/specs/SovereignFloor, where the fields ending in -now show that by the rules in force it is what contracts name. What the request did not
-- touch (the figures of 2019, lines, the tests of items, values, losses, grounds, cover, rounding) is today's definition on both sides, and is not compared;
-- so are lines S and swaps, which came later (02: L1; claims/specs/CreditDerivatives).
-- "Prove the betterment rule from what any such table must have, and show each table has it" is in claims/specs/Demand3.
use Rattle.std.specs.Prelude.{ℕ, ◌≤◌, max, ◌⊎◌, ◌≡◌, true, false, ◌&&◌, ◌||◌, List, [], ◌∷◌, ◌++◌, map, eqb, length, replicate, if◌then◌else◌}
use Rattle.tables.specs.Classes.{bank, bank_or_securities_firm, corporate, other_entity, retail, sovereign}
use Rattle.tables.specs.Eligibility.{eligible}
use Rattle.tables.specs.Goods.{bank_debt, cash, gold, main_index_equity, other_debt, other_listed_equity, securitisation, sovereign_debt}
use Rattle.tables.specs.Haircuts.{haircut}
use Rattle.tables.specs.Table.{Table, table_2019, table_2023}
use Rattle.tables.specs.Weights.{counterparty_weight, provider_weight, table_weight}
use Rattle.text.specs.Bytes.{byte, bytes}
use Rattle.text.specs.Text.{first_line, same_bytes}
use Rattle.scaling.specs.Period.{holding_period}
use Rattle.scaling.specs.Scaling.{scaled}
use Rattle.valuation.specs.Haircuts.{combined_haircut}
use Rattle.deal.specs.Adding.{add_collateral_refusal, add_guarantee_refusal, with_collateral, with_guarantee}
use Rattle.deal.specs.Editions.{table_for}
use Rattle.deal.specs.Fields.{guarantee_sent, terms_in, terms_under}
use Rattle.deal.specs.Opening.{opened_deal}
use Rattle.deal.specs.Records.{accepted}
use Rattle.deal.specs.Terms.{terms_refusal}
use Rattle.deal.specs.Views.{view_of}
use Rattle.deal.specs.declared.terms.Terms.{Terms}
use Rattle.deal.specs.declared.collateral.Collateral.{Collateral}
use Rattle.deal.specs.declared.guarantee.Guarantee.{Guarantee}
use Rattle.deal.specs.declared.deal.Deal.{Deal}
use Rattle.relief.specs.Collateral.{combined_haircut_of}
use Rattle.relief.specs.Exposure.{scaled_lent_haircut}
use Rattle.relief.specs.Guarantees.{guarantee_ground}
use Rattle.relief.specs.Report.{full_report, report_of}
use Rattle.relief.specs.Weights.{counterparty_weight_of, provider_weight_of}
use Rattle.lines.specs.Fields.{fields_of}
use Rattle.lines.specs.Lines.{if_read, line_of}
use Rattle.lines.specs.declared.line.Line.TheVariants.{DealLine}
use Rattle.book.specs.Answers.{deal_answer}
use Rattle.book.specs.Book.{book_edition, book_reply, results_after}
use Rattle.book.specs.Deals.{DealLines}
use Rattle.book.specs.Heading.{edition_of, heading_of, is_wrong}
use Rattle.response.specs.Response.{printed}
use Rattle.earlier.specs.Before2023.{before_2023, deal_with_edition, with_edition}
use Rattle.earlier.specs.Books.{book_refusal_by, book_reply_by, deal_answer_by, printed_by, results_by}
use Rattle.earlier.specs.Deals.{accepted_by, add_collateral_refusal_by, add_guarantee_refusal_by, deal_opened_by, report_by, terms_refusal_by, with_collateral_by, with_guarantee_by}
use Rattle.claims.specs.SovereignFloor.{steps}

-- a book whose first line is not that of the third edition, and a number that is not the third edition's
abbrev pub NotHeaded3 : List ℕ → Type 0
NotHeaded3 book = same_bytes (first_line book) (bytes "CRM\t3\n") ≡ false

abbrev pub NotThird : ℕ → Type 0
NotThird edition = eqb edition 3 ≡ false

-- not among the weights that the request lists: banks' at step 2 and unrated, corporates' and other entities' at step 3
abbrev pub NotListed : ℕ → ℕ → Type 0
NotListed class step = ((eqb class bank && eqb step 2) ≡ false) × ((eqb class corporate && eqb step 3) ≡ false) × ((eqb class bank && eqb step 0) ≡ false)

-- a figure by life: up to 1, 3, 5, 10 years of 360 days, and above
abbrev pub InBands : (ℕ → ℕ) → ℕ → ℕ → ℕ → ℕ → ℕ → Type 0
InBands figure a b c d e = (life : ℕ) →
    (life ≤ 360 → figure life ≡ a)
    × (361 ≤ life → life ≤ 1080 → figure life ≡ b)
    × (1081 ≤ life → life ≤ 1800 → figure life ≡ c)
    × (1801 ≤ life → life ≤ 3600 → figure life ≡ d)
    × (3601 ≤ life → figure life ≡ e)

-- the ground on which a guarantee of a provider is left out of a deal with a counterparty, or 0, under each edition; both by class and step,
-- banks, corporates and other entities under sovereigns of step 1
abbrev pub grounds_of : ℕ → ℕ → ℕ → ℕ → List ℕ
grounds_of class step provider_class provider_step =
    let sovereign_step : ℕ → ℕ = λ c. if eqb c bank || eqb c corporate then 1 else 0 in
    map (λ edition.
    let t = terms_in (1000 ∷ class ∷ step ∷ sovereign_step class ∷ 978 ∷ 3 ∷ 1 ∷ 1800 ∷ 1 ∷ 0 ∷ 0 ∷ edition ∷ []) in
    guarantee_ground (table_for t) t (guarantee_sent (500 ∷ provider_class ∷ provider_step ∷ sovereign_step provider_class ∷ 978 ∷ 1800 ∷ 1800 ∷ 1 ∷ 1 ∷ 1 ∷ [])))
    (1 ∷ 2 ∷ 3 ∷ [])

-- fourteen deals headed 3, revalued daily, of kind 2 in which haircuts are those of the table
abbrev pub sample3 : List ℕ
sample3 =
    bytes "CRM\t3\n"
    -- bank paper of 1,080 days: 3 percent; other paper of step 2 and 3,601 days: 20; state stock of 1,801 days: 4, as before
    ++ bytes "D\t100000\t3\t0\t1\t978\t2\t1\t1800\t1\t0\t0\nC\t10000\t4\t1\t1080\t978\t1800\t1800\t1\t1\t1\t0\n"
    ++ bytes "D\t100000\t3\t0\t1\t978\t2\t1\t1800\t1\t0\t0\nC\t10000\t3\t2\t3601\t978\t1800\t1800\t1\t1\t1\t0\n"
    ++ bytes "D\t100000\t3\t0\t1\t978\t2\t1\t1800\t1\t0\t0\nC\t10000\t2\t1\t1801\t978\t1800\t1800\t1\t1\t1\t0\n"
    -- gold: 20; other listed equity: 30; re-securitisations lent: 30, and half of the deal's amount pledged in cash
    ++ bytes "D\t100000\t3\t0\t1\t978\t2\t1\t1800\t1\t0\t0\nC\t10000\t9\t0\t0\t978\t1800\t1800\t1\t1\t1\t0\n"
    ++ bytes "D\t100000\t3\t0\t1\t978\t2\t1\t1800\t1\t0\t0\nC\t10000\t8\t0\t0\t978\t1800\t1800\t1\t1\t1\t0\n"
    ++ bytes "D\t100000\t3\t0\t1\t978\t2\t1\t1800\t6\t1\t360\nC\t50000\t1\t0\t0\t978\t1800\t1800\t1\t1\t1\t0\n"
    -- a bank of step 2: 30; a corporate of step 3: 75; an unrated bank: 150; an unrated corporate under a sovereign of step 6: 150, backed at 30
    ++ bytes "D\t1000\t2\t2\t1\t978\t2\t1\t1800\t1\t0\t0\n"
    ++ bytes "D\t1000\t3\t3\t1\t978\t2\t1\t1800\t1\t0\t0\n"
    ++ bytes "D\t1000\t2\t0\t1\t978\t2\t1\t1800\t1\t0\t0\n"
    ++ bytes "D\t1000\t3\t0\t6\t978\t2\t1\t1800\t1\t0\t0\nG\t400\t2\t2\t1\t978\t1800\t1800\t1\t1\t1\n"
    -- an unrated corporate, backed by an unrated bank, which is left out; another, backed by an other entity of step 3 at 75
    ++ bytes "D\t1000\t3\t0\t1\t978\t2\t1\t1800\t1\t0\t0\nG\t400\t2\t0\t1\t978\t1800\t1800\t1\t1\t1\n"
    ++ bytes "D\t1000\t3\t0\t1\t978\t2\t1\t1800\t1\t0\t0\nG\t400\t3\t3\t1\t978\t1800\t1800\t1\t1\t1\n"
    -- a line of a book headed 1
    ++ bytes "D\t1000\t2\t0\t978\t2\t1\t1800\t1\t0\t0\n"
    -- other paper of step 1 and 1,080 days lent: 3 percent
    ++ bytes "D\t100000\t3\t0\t1\t978\t2\t1\t1800\t3\t1\t1080\nC\t50000\t1\t0\t0\t978\t1800\t1800\t1\t1\t1\t0\n"

abbrev pub sample_answers3 : List ℕ
sample_answers3 =
    (1 ∷ 0 ∷ 90300 ∷ 90300 ∷ [])
    ++ (2 ∷ 0 ∷ 92000 ∷ 92000 ∷ [])
    ++ (3 ∷ 0 ∷ 90400 ∷ 90400 ∷ [])
    ++ (4 ∷ 0 ∷ 92000 ∷ 92000 ∷ [])
    ++ (5 ∷ 0 ∷ 93000 ∷ 93000 ∷ [])
    ++ (6 ∷ 0 ∷ 80000 ∷ 80000 ∷ [])
    ++ (7 ∷ 0 ∷ 1000 ∷ 300 ∷ [])
    ++ (8 ∷ 0 ∷ 1000 ∷ 750 ∷ [])
    ++ (9 ∷ 0 ∷ 1000 ∷ 1500 ∷ [])
    ++ (10 ∷ 0 ∷ 1000 ∷ 1020 ∷ [])
    ++ (11 ∷ 0 ∷ 1000 ∷ 1000 ∷ [])
    ++ (12 ∷ 0 ∷ 1000 ∷ 900 ∷ [])
    ++ (13 ∷ 11 ∷ 23 ∷ 0 ∷ [])
    ++ (14 ∷ 0 ∷ 53000 ∷ 53000 ∷ [])

pub record Tables2023 : Type 0 where
  -- A BOOK THAT IS NOT HEADED 3 HAS THE ANSWERS IT HAD

  -- the reply, every number of every results list, and every byte that is printed; each deal of another edition has the three numbers it had
  pub reply_same : (book : List ℕ) (places : ℕ) → NotHeaded3 book → book_reply book places ≡ book_reply_by before_2023 book places
  pub results_same : (book list : List ℕ) → NotHeaded3 book → results_after book list ≡ results_by before_2023 book list
  pub printed_same : (book : List ℕ) → NotHeaded3 book → printed book ≡ printed_by before_2023 book
  pub deal_same : (edition : ℕ) (deal : DealLines) → NotThird edition → deal_answer edition deal ≡ deal_answer_by before_2023 edition deal
  -- headed 3, it was refused: by 9, unless it was too long
  pub was_refused : (book : List ℕ) (places : ℕ) → same_bytes (first_line book) (bytes "CRM\t3\n") ≡ true → length book ≤ 65536 → book_refusal_by before_2023 book places ≡ 9
  -- A DEAL OF ANOTHER EDITION IS OPENED, ADDED TO AND REPORTED AS IT WAS

  pub opening_same : (t : Terms) → NotThird t.edition → (terms_refusal t ≡ terms_refusal_by before_2023 t) × (opened_deal t ≡ deal_opened_by before_2023 t)
  pub accepted_same : (d : Deal) → NotThird d.terms.edition → accepted d ≡ accepted_by before_2023 d
  pub adding_collateral_same : (d : Deal) (c : Collateral) → NotThird d.terms.edition →
      (add_collateral_refusal d c ≡ add_collateral_refusal_by before_2023 d c) × (with_collateral d c ≡ with_collateral_by before_2023 d c)
  pub adding_guarantee_same : (d : Deal) (g : Guarantee) → NotThird d.terms.edition →
      (add_guarantee_refusal d g ≡ add_guarantee_refusal_by before_2023 d g) × (with_guarantee d g ≡ with_guarantee_by before_2023 d g)
  pub report_same : (d : Deal) → NotThird d.terms.edition → report_of d ≡ report_by before_2023 d
  -- one of the third was refused, and is accepted now exactly where the same deal of the second was
  pub third_refused : (d : Deal) → d.terms.edition ≡ 3 → accepted_by before_2023 d ≡ false
  pub third_opening : (t : Terms) → terms_refusal (with_edition 3 t) ≡ terms_refusal_by before_2023 (with_edition 2 t)
  pub third_accepted : (d : Deal) → accepted (deal_with_edition 3 d) ≡ accepted_by before_2023 (deal_with_edition 2 d)
  -- and so is added to
  pub third_collateral : (d : Deal) (c : Collateral) →
      (add_collateral_refusal (deal_with_edition 3 d) c ≡ add_collateral_refusal_by before_2023 (deal_with_edition 2 d) c)
      × (with_collateral (deal_with_edition 3 d) c ≡ deal_with_edition 3 (with_collateral_by before_2023 (deal_with_edition 2 d) c))
  pub third_guarantee : (d : Deal) (g : Guarantee) →
      (add_guarantee_refusal (deal_with_edition 3 d) g ≡ add_guarantee_refusal_by before_2023 (deal_with_edition 2 d) g)
      × (with_guarantee (deal_with_edition 3 d) g ≡ deal_with_edition 3 (with_guarantee_by before_2023 (deal_with_edition 2 d) g))
  -- "A header second field of 3 chooses it, with lines as under 2"
  pub headed_3 : (book : List ℕ) → same_bytes (first_line book) (bytes "CRM\t3\n") ≡ true → (is_wrong (heading_of (first_line book)) ≡ false) × (book_edition book ≡ 3)
  -- and no other first line is right but those of 1 and 2
  pub headings : (line : List ℕ) → is_wrong (heading_of line) ≡ false →
      ((line ≡ bytes "CRM\t1\n") × (edition_of (heading_of line) ≡ 1))
      ⊎ (((line ≡ bytes "CRM\t2\n") × (edition_of (heading_of line) ≡ 2)) ⊎ ((line ≡ bytes "CRM\t3\n") × (edition_of (heading_of line) ≡ 3)))
  pub deal_line_3 : (rest : List ℕ) → line_of 3 (byte "D" ∷ rest) ≡ if_read (λ fields. DealLine (terms_under 3 fields)) (fields_of 11 rest)
  pub other_line_3 : (letter : ℕ) (rest : List ℕ) → eqb letter (byte "D") ≡ false → line_of 3 (letter ∷ rest) ≡ line_of 2 (letter ∷ rest)
  pub empty_line_3 : line_of 3 [] ≡ line_of 2 []
  -- WHICH TABLES A DEAL IS REPORTED UNDER

  pub third_tables : (t : Terms) → t.edition ≡ 3 → table_for t ≡ table_2023
  pub other_tables : (t : Terms) → NotThird t.edition → table_for t ≡ table_2019 t.edition
  -- THE FIGURES THAT ARE LISTED

  -- "For other issuers, step 1 has 1, 3, 4, 6, 12 percent and steps 2 and 3 have 2, 4, 6, 12, 20", bank debt and unrated bank paper among them
  pub step_1 : InBands (table_2023.haircut other_debt 1) 10000 30000 40000 60000 120000
  pub step_2 : InBands (table_2023.haircut other_debt 2) 20000 40000 60000 120000 200000
  pub step_3 : InBands (table_2023.haircut other_debt 3) 20000 40000 60000 120000 200000
  pub bank_paper : (step life : ℕ) → table_2023.haircut bank_debt step life ≡ table_2023.haircut other_debt step life
  pub unrated_bank_paper : InBands (table_2023.haircut bank_debt 0) 20000 40000 60000 120000 200000
  -- "Main index equity and gold become 20 percent; other equity, and lent goods not eligible, 30"
  pub equity_and_gold : (step life : ℕ) →
      (table_2023.haircut main_index_equity step life ≡ 200000) × (table_2023.haircut gold step life ≡ 200000) × (table_2023.haircut other_listed_equity step life ≡ 300000)
  pub lent_not_eligible : (goods step life : ℕ) → eligible goods step 0 ≡ false → table_2023.lent_haircut goods step life ≡ 300000
  pub lent_eligible : (goods step life : ℕ) → eligible goods step 0 ≡ true → table_2023.lent_haircut goods step life ≡ table_2023.haircut goods step life
  -- "Bank step 2 weighs 30, corporate and other entity step 3 weighs 75. An unrated bank weighs 150": whatever its sovereign's step, 0 to 6
  pub bank_2 : (sovereign_step : ℕ) → (table_2023.counterparty_weight bank 2 sovereign_step ≡ 30) × (table_2023.provider_weight bank_or_securities_firm 2 sovereign_step ≡ 30)
  pub corporate_3 : (sovereign_step : ℕ) → (table_2023.counterparty_weight corporate 3 sovereign_step ≡ 75) × (table_2023.provider_weight other_entity 3 sovereign_step ≡ 75)
  pub bank_unrated : map (table_2023.counterparty_weight bank 0) steps ++ map (table_2023.provider_weight bank_or_securities_firm 0) steps ≡ replicate 14 150
  -- "AND IS ALL THAT CHANGES", so these stay: eligibility, under every edition; cash's haircut; "The sovereign and securitisation figures", which "keep
  -- their earlier bands", of any step and life; every other party's weight, with "the sovereign floor" that "Our supervisor keeps". The currency
  -- haircut, periods, scaling, the other grounds, cover and rounding are the same for every edition, since it enters a report by its tables alone

  -- how a report uses a set of tables: the haircut of the goods lent, of an item's goods, and the weights of the parties
  pub lent_used : (table : Table) (t : Terms) →
      scaled_lent_haircut table t ≡ scaled (table.lent_haircut t.lent.goods t.lent.step t.lent.life) (holding_period t.kind t.interval)
  pub haircut_used : (table : Table) (t : Terms) (c : Collateral) →
      combined_haircut_of table t c ≡ combined_haircut (table.haircut c.asset.goods c.asset.step c.asset.life) c.currency t.currency (holding_period t.kind t.interval)
  pub counterparty_used : (table : Table) (t : Terms) →
      counterparty_weight_of table t ≡ table.counterparty_weight t.counterparty.class t.counterparty.step t.counterparty.sovereign_step
  pub provider_used : (table : Table) (g : Guarantee) →
      provider_weight_of table g ≡ table.provider_weight g.provider.class g.provider.step g.provider.sovereign_step
  -- under one and the same set of tables the edition makes no difference to any number of a report
  pub only_tables : (table : Table) (edition : ℕ) (d : Deal) → full_report table (view_of (deal_with_edition edition d)) ≡ full_report table (view_of d)
  pub eligible_same : (t : Terms) (goods step listed : ℕ) → (table_for t).eligible goods step listed ≡ eligible goods step listed
  pub cash_same : (step life : ℕ) → table_2023.haircut cash step life ≡ haircut cash step life
  pub sovereign_same : (step life : ℕ) → table_2023.haircut sovereign_debt step life ≡ haircut sovereign_debt step life
  pub securitisation_same : (step life : ℕ) → table_2023.haircut securitisation step life ≡ haircut securitisation step life
  pub counterparty_same : (class step sovereign_step : ℕ) → NotListed class step →
      table_2023.counterparty_weight class step sovereign_step ≡ counterparty_weight 2 class step sovereign_step
  pub provider_same : (class step sovereign_step : ℕ) → NotListed class step →
      table_2023.provider_weight class step sovereign_step ≡ provider_weight 2 class step sovereign_step
  -- the floor of an unrated corporate, which weighs 100 by itself
  pub corporate_floor : (sovereign_step : ℕ) → table_2023.counterparty_weight corporate 0 sovereign_step ≡ max 100 (table_weight sovereign sovereign_step)
  -- WHERE AN EDITION CHANGES A GROUND, editions 1, 2 and 3 in turn

  -- a bank of step 2 weighs 50 or 30: for a bank of step 3 it is recognised at 30; one of step 3, for a bank of step 2, is left out throughout
  pub grounds_of_30 : grounds_of bank 3 bank_or_securities_firm 2 ∷ grounds_of bank 2 bank_or_securities_firm 3 ∷ [] ≡ (29 ∷ 29 ∷ 0 ∷ []) ∷ (29 ∷ 29 ∷ 29 ∷ []) ∷ []
  -- an other entity of step 3 weighs 100 or 75: for an unrated corporate it is recognised at 75; for retail, and for a corporate of step 3, which weighs
  -- as much, it is left out throughout
  pub grounds_of_75 : grounds_of corporate 0 other_entity 3 ∷ grounds_of retail 0 other_entity 3 ∷ grounds_of corporate 3 other_entity 3 ∷ []
      ≡ (29 ∷ 29 ∷ 0 ∷ []) ∷ (29 ∷ 29 ∷ 29 ∷ []) ∷ (29 ∷ 29 ∷ 29 ∷ []) ∷ []
  -- an unrated bank weighs 50 or 150: for retail it is recognised no more; as a counterparty it is backed by banks of 50 and of 100, not of 150
  pub grounds_of_150 : grounds_of retail 0 bank_or_securities_firm 0 ∷ grounds_of bank 0 bank_or_securities_firm 3 ∷ grounds_of bank 0 bank_or_securities_firm 4 ∷ grounds_of bank 0 bank_or_securities_firm 6 ∷ []
      ≡ (0 ∷ 0 ∷ 29 ∷ []) ∷ (29 ∷ 29 ∷ 0 ∷ []) ∷ (29 ∷ 29 ∷ 0 ∷ []) ∷ (29 ∷ 29 ∷ 29 ∷ []) ∷ []
  -- A BOOK OF FOURTEEN DEALS, worked out

  pub sample_answered : results_after sample3 (replicate 56 7) ≡ sample_answers3
