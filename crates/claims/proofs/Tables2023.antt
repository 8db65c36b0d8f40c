-- The 2023 tables are those that the request lists, and take no answer from a book headed 1 or 2. Assumes nothing.
use Prim.Native.Nat.{ℕ, max}
use mathlib.Core.Path.{◌≡◌, refl, sym, ap, ◌∙◌}
use mathlib.Core.Bool.{true, false}
use mathlib.Core.List.{List, [], ◌∷◌, ◌++◌, map}
use native.Mathlib.Omega.{arith}
use lib.Dec.{eqb}
use lib.ListN.{get_or, replicate}
use borrow.Author.Tests.{eq-eqb}
use Rattle.base.proofs.Choice.{if_false, if_true, either₂}
use Rattle.tables.specs.Classes.{bank, bank_or_securities_firm, corporate, other_entity, retail, sovereign}
use Rattle.tables.specs.Eligibility.{eligible}
use Rattle.tables.specs.Goods.{bank_debt, cash, gold, main_index_equity, other_debt, other_listed_equity, securitisation, sovereign_debt}
use Rattle.tables.specs.Haircuts.{haircut, row_of}
use Rattle.tables.specs.Table.{Table, table_2019, table_2023}
use Rattle.tables.specs.Version2023.{band_of_2023, counterparty_weight_2023, debt_haircut_2023, haircut_2023, lent_haircut_2023, not_eligible_2023, other_issuers_2023, other_issuers_haircut_2023, own_weight_2023, provider_weight_2023, table_weight_2023}
use Rattle.tables.specs.Weights.{at_least_sovereign, counterparty_weight, has_floor, own_weight, provider_weight, step_column, table_weight}
use Rattle.tables.proofs.Bands2023.{band_1, band_2, band_3, band_4, band_5}
use Rattle.tables.proofs.Versions.{eligible_same as always_eligible, of_2019, of_2023}
use Rattle.text.specs.Bytes.{byte, bytes}
use Rattle.text.specs.Text.{first_line, same_bytes}
use Rattle.text.proofs.Equal.{same_equal}
use Rattle.scaling.specs.Period.{holding_period}
use Rattle.scaling.specs.Scaling.{scaled}
use Rattle.valuation.specs.Haircuts.{combined_haircut}
use Rattle.deal.specs.Editions.{table_for}
use Rattle.deal.specs.Fields.{collateral_in, guarantee_in, terms_in, terms_under}
use Rattle.deal.specs.Records.{deal_with}
use Rattle.deal.specs.declared.terms.Terms.{Terms}
use Rattle.deal.specs.declared.collateral.Collateral.{Collateral}
use Rattle.deal.specs.declared.deal.Deal.{Deal}
use Rattle.relief.specs.Collateral.{combined_haircut_of}
use Rattle.relief.specs.Exposure.{scaled_lent_haircut}
use Rattle.relief.specs.Report.{report_of}
use Rattle.lines.specs.Fields.{fields_of}
use Rattle.lines.specs.Lines.{deal_line, guarantee_line, if_read, line_of, swap_line}
use Rattle.lines.specs.Sovereign.{width_under, with_sovereign}
use Rattle.lines.specs.declared.line.Line.TheVariants.{DealLine}
use Rattle.book.specs.Book.{book_edition, results_after}
use Rattle.book.specs.Heading.{edition_of, heading_of, is_wrong}
use Rattle.book.proofs.Examples.{worked}
use Rattle.book.proofs.Refusing.{heading_right}
use Rattle.response.specs.Response.{printed}
use Rattle.earlier.specs.Before2023.{before_2023, deal_with_edition, with_edition}
use Rattle.earlier.specs.Books.{book_refusal_by, printed_by, results_by}
use Rattle.earlier.specs.Deals.{report_by}
use Rattle.earlier.proofs.Before2023.{accepted_same, adding_collateral_same, adding_guarantee_same, deal_same, only_tables, opened_same, opening_same, printed_same, reply_same, report_same, results_same, third_accepted, third_adding_collateral, third_adding_guarantee, third_opening, third_refused, third_with_collateral, third_with_guarantee, was_refused, with_collateral_same, with_guarantee_same}
use Rattle.earlier.proofs.Now.{accepted_now, adding_collateral_now, adding_guarantee_now, deal_now, opened_now, opening_now, printed_now, reply_now, report_now, results_now, with_collateral_now, with_guarantee_now}
use Rattle.claims.specs.SovereignFloor.{steps}
use Rattle.claims.specs.Tables2023.{InBands, NotListed, Tables2023, grounds_of, sample3, sample_answers3}

-- The header and the lines

third_heading : (is_wrong (heading_of (bytes "CRM\t3\n")) ≡ false) × (edition_of (heading_of (bytes "CRM\t3\n")) ≡ 3)
unfolding worked
third_heading = (refl, refl)

headed_3 : (book : List ℕ) → same_bytes (first_line book) (bytes "CRM\t3\n") ≡ true → (is_wrong (heading_of (first_line book)) ≡ false) × (book_edition book ≡ 3)
headed_3 book e =
    let line : first_line book ≡ bytes "CRM\t3\n" = same_equal (first_line book) (bytes "CRM\t3\n") e in
    (ap (λ l. is_wrong (heading_of l)) line ∙ third_heading.0, ap (λ l. edition_of (heading_of l)) line ∙ third_heading.1)

deal_line_3 : (rest : List ℕ) → line_of 3 (byte "D" ∷ rest) ≡ if_read (λ fields. DealLine (terms_under 3 fields)) (fields_of 11 rest)
unfolding line_of deal_line width_under with_sovereign
deal_line_3 rest = refl

other_line_3 : (letter : ℕ) (rest : List ℕ) → eqb letter (byte "D") ≡ false → line_of 3 (letter ∷ rest) ≡ line_of 2 (letter ∷ rest)
unfolding line_of guarantee_line swap_line width_under with_sovereign
other_line_3 letter rest n = rw n

empty_line_3 : line_of 3 [] ≡ line_of 2 []
unfolding line_of
empty_line_3 = refl

-- The tables

third_tables : (t : Terms) → t.edition ≡ 3 → table_for t ≡ table_2023
unfolding table_for
third_tables t e = of_2023 t.edition (eq-eqb _ 3 e)

other_tables : (t : Terms) → eqb t.edition 3 ≡ false → table_for t ≡ table_2019 t.edition
unfolding table_for
other_tables t n = of_2019 t.edition n

-- a figure by band, on every day
in_bands : (figure at : ℕ → ℕ) → ((life : ℕ) → figure life ≡ at (band_of_2023 life)) → InBands figure (at 0) (at 1) (at 2) (at 3) (at 4)
in_bands figure at e life = (
  λ h. e life ∙ ap at (band_1 life h),
  λ l h. e life ∙ ap at (band_2 life l h),
  λ l h. e life ∙ ap at (band_3 life l h),
  λ l h. e life ∙ ap at (band_4 life l h),
  λ l. e life ∙ ap at (band_5 life l),
)

-- a row of other issuers'
abbrev row : ℕ → ℕ → ℕ
row r band = get_or (get_or other_issuers_2023 r []) band not_eligible_2023

step_1 : InBands (table_2023.haircut other_debt 1) 10000 30000 40000 60000 120000
unfolding haircut_2023 debt_haircut_2023 other_issuers_haircut_2023 row_of
step_1 = in_bands (table_2023.haircut other_debt 1) (row 0) (λ life. refl)

step_2 : InBands (table_2023.haircut other_debt 2) 20000 40000 60000 120000 200000
unfolding haircut_2023 debt_haircut_2023 other_issuers_haircut_2023 row_of
step_2 = in_bands (table_2023.haircut other_debt 2) (row 1) (λ life. refl)

step_3 : InBands (table_2023.haircut other_debt 3) 20000 40000 60000 120000 200000
unfolding haircut_2023 debt_haircut_2023 other_issuers_haircut_2023 row_of
step_3 = in_bands (table_2023.haircut other_debt 3) (row 1) (λ life. refl)

bank_paper : (step life : ℕ) → table_2023.haircut bank_debt step life ≡ table_2023.haircut other_debt step life
unfolding haircut_2023 debt_haircut_2023
bank_paper step life = refl

unrated_bank_paper : InBands (table_2023.haircut bank_debt 0) 20000 40000 60000 120000 200000
unfolding haircut_2023 debt_haircut_2023 other_issuers_haircut_2023 row_of
unrated_bank_paper = in_bands (table_2023.haircut bank_debt 0) (row 1) (λ life. refl)

equity_and_gold : (step life : ℕ) →
    (table_2023.haircut main_index_equity step life ≡ 200000) × (table_2023.haircut gold step life ≡ 200000) × (table_2023.haircut other_listed_equity step life ≡ 300000)
unfolding haircut_2023
equity_and_gold step life = (refl, refl, refl)

lent_not_eligible : (goods step life : ℕ) → eligible goods step 0 ≡ false → table_2023.lent_haircut goods step life ≡ 300000
unfolding lent_haircut_2023
lent_not_eligible goods step life e = if_false _ _ _ e

lent_eligible : (goods step life : ℕ) → eligible goods step 0 ≡ true → table_2023.lent_haircut goods step life ≡ table_2023.haircut goods step life
unfolding lent_haircut_2023
lent_eligible goods step life e = if_true _ _ _ e

bank_2 : (sovereign_step : ℕ) → (table_2023.counterparty_weight bank 2 sovereign_step ≡ 30) × (table_2023.provider_weight bank_or_securities_firm 2 sovereign_step ≡ 30)
unfolding counterparty_weight_2023 provider_weight_2023 own_weight_2023 table_weight_2023 at_least_sovereign has_floor
bank_2 sovereign_step = (refl, refl)

corporate_3 : (sovereign_step : ℕ) → (table_2023.counterparty_weight corporate 3 sovereign_step ≡ 75) × (table_2023.provider_weight other_entity 3 sovereign_step ≡ 75)
unfolding counterparty_weight_2023 provider_weight_2023 own_weight_2023 table_weight_2023 at_least_sovereign has_floor
corporate_3 sovereign_step = (refl, refl)

bank_unrated : map (table_2023.counterparty_weight bank 0) steps ++ map (table_2023.provider_weight bank_or_securities_firm 0) steps ≡ replicate 14 150
unfolding worked
bank_unrated = refl

-- How a report uses them

lent_used : (table : Table) (t : Terms) →
    scaled_lent_haircut table t ≡ scaled (table.lent_haircut t.lent.goods t.lent.step t.lent.life) (holding_period t.kind t.interval)
unfolding scaled_lent_haircut
lent_used table t = refl

haircut_used : (table : Table) (t : Terms) (c : Collateral) →
    combined_haircut_of table t c ≡ combined_haircut (table.haircut c.asset.goods c.asset.step c.asset.life) c.currency t.currency (holding_period t.kind t.interval)
unfolding combined_haircut_of
haircut_used table t c = refl

-- What stays

eligible_same : (t : Terms) (goods step listed : ℕ) → (table_for t).eligible goods step listed ≡ eligible goods step listed
unfolding table_for
eligible_same t goods step listed = always_eligible t.edition goods step listed

cash_same : (step life : ℕ) → table_2023.haircut cash step life ≡ haircut cash step life
unfolding haircut_2023 haircut
cash_same step life = refl

sovereign_same : (step life : ℕ) → table_2023.haircut sovereign_debt step life ≡ haircut sovereign_debt step life
unfolding haircut_2023 debt_haircut_2023 haircut
sovereign_same step life = refl

securitisation_same : (step life : ℕ) → table_2023.haircut securitisation step life ≡ haircut securitisation step life
unfolding haircut_2023 debt_haircut_2023 haircut
securitisation_same step life = refl

table_same : (class step : ℕ) → NotListed class step → table_weight_2023 class step ≡ table_weight class step
unfolding table_weight_2023
table_same class step n = if_false _ _ _ n.0 ∙ if_false _ _ _ n.1 ∙ if_false _ _ _ n.2

own_same : (class step : ℕ) → NotListed class step → own_weight_2023 class step ≡ own_weight class step
unfolding own_weight_2023 own_weight
own_same class step n = either₂ (λ a b. a ≡ b) (eqb class retail) (λ e. if_true _ _ _ e) (λ e. table_same class step n)

counterparty_same : (class step sovereign_step : ℕ) → NotListed class step → table_2023.counterparty_weight class step sovereign_step ≡ counterparty_weight 2 class step sovereign_step
unfolding counterparty_weight_2023 counterparty_weight has_floor
counterparty_same class step sovereign_step n = rw (own_same class step n)

provider_same : (class step sovereign_step : ℕ) → NotListed class step → table_2023.provider_weight class step sovereign_step ≡ provider_weight 2 class step sovereign_step
unfolding provider_weight_2023 provider_weight has_floor
provider_same class step sovereign_step n = rw (table_same class step n)

corporate_floor : (sovereign_step : ℕ) → table_2023.counterparty_weight corporate 0 sovereign_step ≡ max 100 (table_weight sovereign sovereign_step)
unfolding counterparty_weight_2023 own_weight_2023 table_weight_2023 at_least_sovereign has_floor table_weight step_column
corporate_floor sovereign_step = refl

-- The grounds

grounds :
    (grounds_of bank 3 bank_or_securities_firm 2 ∷ grounds_of bank 2 bank_or_securities_firm 3 ∷ [] ≡ (29 ∷ 29 ∷ 0 ∷ []) ∷ (29 ∷ 29 ∷ 29 ∷ []) ∷ [])
    × (grounds_of corporate 0 other_entity 3 ∷ grounds_of retail 0 other_entity 3 ∷ grounds_of corporate 3 other_entity 3 ∷ [] ≡ (29 ∷ 29 ∷ 0 ∷ []) ∷ (29 ∷ 29 ∷ 29 ∷ []) ∷ (29 ∷ 29 ∷ 29 ∷ []) ∷ [])
    × (grounds_of retail 0 bank_or_securities_firm 0 ∷ grounds_of bank 0 bank_or_securities_firm 3 ∷ grounds_of bank 0 bank_or_securities_firm 4 ∷ grounds_of bank 0 bank_or_securities_firm 6 ∷ []
    ≡ (0 ∷ 0 ∷ 29 ∷ []) ∷ (29 ∷ 29 ∷ 0 ∷ []) ∷ (29 ∷ 29 ∷ 0 ∷ []) ∷ (29 ∷ 29 ∷ 29 ∷ []) ∷ [])
unfolding worked
grounds = (refl, refl, refl)

sample_answered : results_after sample3 (replicate 56 7) ≡ sample_answers3
unfolding worked
sample_answered = refl

pub tables_2023 : Tables2023
tables_2023 = record {
  reply_same = λ book places n. sym (reply_now book places) ∙ reply_same book n places;
  results_same = λ book list n. sym (results_now book list) ∙ results_same book n list;
  printed_same = λ book n. sym (printed_now book) ∙ printed_same book n;
  deal_same = λ edition deal n. sym (deal_now edition deal) ∙ deal_same edition n deal;
  was_refused = was_refused;
  opening_same = λ t n. (sym (opening_now t) ∙ opening_same t n, sym (opened_now t) ∙ opened_same t n);
  accepted_same = λ d n. sym (accepted_now d) ∙ accepted_same d n;
  adding_collateral_same = λ d c n. (sym (adding_collateral_now d c) ∙ adding_collateral_same d n c, sym (with_collateral_now d c) ∙ with_collateral_same d n c);
  adding_guarantee_same = λ d g n. (sym (adding_guarantee_now d g) ∙ adding_guarantee_same d n g, sym (with_guarantee_now d g) ∙ with_guarantee_same d n g);
  report_same = λ d n. sym (report_now d) ∙ report_same d n;
  third_refused = third_refused;
  third_opening = λ t. sym (opening_now (with_edition 3 t)) ∙ third_opening t;
  third_accepted = λ d. sym (accepted_now (deal_with_edition 3 d)) ∙ third_accepted d;
  third_collateral = λ d c. (sym (adding_collateral_now (deal_with_edition 3 d) c) ∙ third_adding_collateral d c, sym (with_collateral_now (deal_with_edition 3 d) c) ∙ third_with_collateral d c);
  third_guarantee = λ d g. (sym (adding_guarantee_now (deal_with_edition 3 d) g) ∙ third_adding_guarantee d g, sym (with_guarantee_now (deal_with_edition 3 d) g) ∙ third_with_guarantee d g);
  headed_3 = headed_3;
  headings = heading_right;
  deal_line_3 = deal_line_3;
  other_line_3 = other_line_3;
  empty_line_3 = empty_line_3;
  third_tables = third_tables;
  other_tables = other_tables;
  step_1 = step_1;
  step_2 = step_2;
  step_3 = step_3;
  bank_paper = bank_paper;
  unrated_bank_paper = unrated_bank_paper;
  equity_and_gold = equity_and_gold;
  lent_not_eligible = lent_not_eligible;
  lent_eligible = lent_eligible;
  bank_2 = bank_2;
  corporate_3 = corporate_3;
  bank_unrated = bank_unrated;
  lent_used = lent_used;
  haircut_used = haircut_used;
  counterparty_used = λ table t. refl;
  provider_used = λ table g. refl;
  only_tables = only_tables;
  eligible_same = eligible_same;
  cash_same = cash_same;
  sovereign_same = sovereign_same;
  securitisation_same = securitisation_same;
  counterparty_same = counterparty_same;
  provider_same = provider_same;
  corporate_floor = corporate_floor;
  grounds_of_30 = grounds.0;
  grounds_of_75 = grounds.1;
  grounds_of_150 = grounds.2;
  sample_answered = sample_answered;
}

-- NO PROMISE IS EMPTY: of these nothing more is asked

-- an unrated bank, backed by another of step 2, with bank paper of more than ten years, under each heading
abbrev lines : List ℕ
lines =
    bytes "D\t1000\t2\t0\t4\t978\t2\t1\t1800\t1\t0\t0\nC\t400\t4\t1\t3601\t978\t1800\t1800\t1\t1\t1\t0\n"
    ++ bytes "G\t300\t2\t2\t0\t978\t1800\t1800\t1\t1\t1\n"

abbrev second : List ℕ
second = bytes "CRM\t2\n" ++ lines

abbrev other : List ℕ
other = bytes "CRM\t4\n" ++ lines

books_said :
    (results_after second (replicate 4 7) ≡ results_by before_2023 second (replicate 4 7))
    × (results_after other (replicate 4 7) ≡ results_by before_2023 other (replicate 4 7))
    × (printed second ≡ printed_by before_2023 second)
    × (book_refusal_by before_2023 (bytes "CRM\t3\n" ++ lines) 4 ≡ 9)
unfolding worked
books_said = (
  tables_2023.results_same second (replicate 4 7) refl,
  tables_2023.results_same other (replicate 4 7) refl,
  tables_2023.printed_same second refl,
  tables_2023.was_refused (bytes "CRM\t3\n" ++ lines) 4 refl (omega arith),
)

-- and what that is: 400 worth 368 or 352; the bank at 100, backed at 50, or at 150, backed at 30
books_answered :
    map (λ book. results_after book (replicate 4 7)) (second ∷ (bytes "CRM\t3\n" ++ lines) ∷ other ∷ [])
    ≡ (1 ∷ 0 ∷ 632 ∷ 482 ∷ []) ∷ (1 ∷ 0 ∷ 648 ∷ 612 ∷ []) ∷ replicate 4 7 ∷ []
unfolding worked
books_answered = refl

-- the same as a record, by edition
abbrev held : Deal
held =
    deal_with (terms_in (1000 ∷ 2 ∷ 0 ∷ 4 ∷ 978 ∷ 2 ∷ 1 ∷ 1800 ∷ 1 ∷ 0 ∷ 0 ∷ 1 ∷ []))
    (collateral_in (400 ∷ 4 ∷ 1 ∷ 3601 ∷ 978 ∷ 1800 ∷ 1800 ∷ 1 ∷ 1 ∷ 1 ∷ 0 ∷ []) ∷ [])
    (guarantee_in (300 ∷ 2 ∷ 2 ∷ 0 ∷ 978 ∷ 1800 ∷ 1800 ∷ 1 ∷ 1 ∷ 1 ∷ []) ∷ [])

records_said : (report_of (deal_with_edition 1 held) ≡ report_by before_2023 (deal_with_edition 1 held)) × (report_of (deal_with_edition 2 held) ≡ report_by before_2023 (deal_with_edition 2 held))
unfolding worked
records_said = (tables_2023.report_same (deal_with_edition 1 held) refl, tables_2023.report_same (deal_with_edition 2 held) refl)

records_reported : map (λ edition. (report_of (deal_with_edition edition held)).rwa) (1 ∷ 2 ∷ 3 ∷ 4 ∷ []) ≡ 316 ∷ 482 ∷ 612 ∷ 0 ∷ []
unfolding worked
records_reported = refl

-- parties that are not listed
weighed : (table_2023.counterparty_weight bank 3 6 ≡ 50) × (table_2023.provider_weight other_entity 2 6 ≡ 50) × (table_2023.counterparty_weight retail 0 0 ≡ 75)
unfolding worked
weighed = (tables_2023.counterparty_same bank 3 6 (refl, refl, refl), tables_2023.provider_same other_entity 2 6 (refl, refl, refl), tables_2023.counterparty_same retail 0 0 (refl, refl, refl))
