-- The sovereign floor is there where it is due, and takes no answer from a book headed 1. Assumes nothing.
use Prim.Native.Nat.{ℕ, ◌≤◌, max}
use mathlib.Core.Path.{◌≡◌, refl, sym, ap, ◌∙◌}
use mathlib.Core.Bool.{Bool, true, false, ◌&&◌}
use mathlib.Core.List.{List, [], ◌∷◌, ◌++◌, map}
use native.Mathlib.Omega.{arith}
use borrow.Author.Tests.{le-leb, lt-leb, ne_eqb}
use lib.Dec.{eqb, leb}
use lib.ListN.{replicate}
use Rattle.base.specs.FirstMet.{first_met, first_or}
use Rattle.base.specs.Range.{within}
use Rattle.base.proofs.Choice.{if_false}
use Rattle.base.proofs.Tests.{and_first, and_second}
use Rattle.tables.specs.Classes.{bank, bank_or_securities_firm, corporate, other_entity, retail, sovereign}
use Rattle.tables.specs.Weights.{at_least_sovereign, counterparty_weight, floor_for_counterparty, floor_for_provider, has_floor, own_weight, provider_weight, step_column, table_weight}
use Rattle.tables.proofs.Versions.{of_2019}
use Rattle.text.specs.Bytes.{byte, bytes}
use Rattle.text.specs.Text.{first_line, same_bytes}
use Rattle.text.proofs.Equal.{same_equal}
use Rattle.deal.specs.Assets.{goods_known}
use Rattle.deal.specs.Checks.{field_tests}
use Rattle.deal.specs.Editions.{edition_known, table_for}
use Rattle.deal.specs.Fields.{guarantee_in, guarantee_sent, terms_in, terms_under}
use Rattle.deal.specs.Guarantees.{guarantee_checks, guarantee_refusal, guarantee_tests}
use Rattle.deal.specs.Parties.{counterparty_known, party_step_allowed, party_steps_allowed, sovereign_step_allowed}
use Rattle.deal.specs.Ranges.{amount_allowed, days_limit}
use Rattle.deal.specs.Records.{deal_with}
use Rattle.deal.specs.Terms.{kind_known, terms_checks, terms_refusal, terms_tests}
use Rattle.deal.specs.declared.checks.FieldChecks.{FieldChecks}
use Rattle.deal.specs.declared.party.Party.{Party}
use Rattle.deal.specs.declared.terms.Terms.{Terms}
use Rattle.deal.specs.declared.guarantee.Guarantee.{Guarantee}
use Rattle.deal.specs.declared.deal.Deal.{Deal}
use Rattle.relief.specs.Guarantees.{guarantee_ground, guarantee_grounds}
use Rattle.relief.specs.Report.{report_of}
use Rattle.relief.specs.Weights.{counterparty_weight_of, provider_weight_of}
use Rattle.lines.specs.Fields.{fields_of}
use Rattle.lines.specs.Lines.{deal_line, guarantee_line, if_read, line_of}
use Rattle.lines.specs.Sovereign.{width_under, with_sovereign}
use Rattle.lines.specs.declared.line.Line.TheVariants.{DealLine, GuaranteeLine}
use Rattle.book.specs.Book.{book_edition, results_after}
use Rattle.book.specs.Heading.{edition_of, heading_of, is_wrong}
use Rattle.book.proofs.Examples.{worked}
use Rattle.earlier.specs.BeforeFloor.{before_floor}
use Rattle.response.specs.Response.{printed}
use Rattle.earlier.specs.Books.{book_refusal_by, printed_by, results_by}
use Rattle.earlier.specs.Deals.{report_by}
use Rattle.earlier.proofs.BeforeFloor.{accepted_exactly, adding_collateral_same, adding_guarantee_same, deal_same, line_same, opened_same, opening_same, printed_same, reply_same, report_same, results_same, was_refused, with_collateral_same, with_guarantee_same}
use Rattle.earlier.proofs.Now.{accepted_now, adding_collateral_now, adding_guarantee_now, deal_now, opened_now, opening_now, printed_now, reply_now, report_now, results_now, with_collateral_now, with_guarantee_now}
use Rattle.claims.specs.SovereignFloor.{SovereignFloor, sample, sample_answers, steps}

-- Weights

bank_floor : (sovereign_step : ℕ) → counterparty_weight 2 bank 0 sovereign_step ≡ max 50 (table_weight sovereign sovereign_step)
unfolding counterparty_weight own_weight at_least_sovereign has_floor table_weight step_column
bank_floor sovereign_step = refl

corporate_floor : (sovereign_step : ℕ) → counterparty_weight 2 corporate 0 sovereign_step ≡ max 100 (table_weight sovereign sovereign_step)
unfolding counterparty_weight own_weight at_least_sovereign has_floor table_weight step_column
corporate_floor sovereign_step = refl

provider_floor : (sovereign_step : ℕ) → provider_weight 2 bank_or_securities_firm 0 sovereign_step ≡ max 50 (table_weight sovereign sovereign_step)
unfolding provider_weight at_least_sovereign has_floor table_weight step_column
provider_floor sovereign_step = refl

-- where the floor does not apply
unfloored : (applies : Bool) (own sovereign_step : ℕ) → applies ≡ false → at_least_sovereign applies own sovereign_step ≡ own
unfolding at_least_sovereign
unfloored applies own sovereign_step e = if_false _ _ _ e

not_applied : (a b c : Bool) → b ≡ false → (a && b && c) ≡ false
not_applied true b c e = and_first b c e
not_applied false b c e = refl

not_for : (a b c : Bool) → c ≡ false → (a && b && c) ≡ false
not_for true true c e = e
not_for true false c e = refl
not_for false b c e = refl

rated_counterparty : (class step sovereign_step : ℕ) → 1 ≤ step → counterparty_weight 2 class step sovereign_step ≡ own_weight class step
unfolding counterparty_weight
rated_counterparty class step sovereign_step h = unfloored (floor_for_counterparty 2 class step) _ _ (not_applied (has_floor 2) _ _ (ne_eqb step 0 (λ e. omega arith)))

rated_provider : (class step sovereign_step : ℕ) → 1 ≤ step → provider_weight 2 class step sovereign_step ≡ table_weight class step
unfolding provider_weight
rated_provider class step sovereign_step h = unfloored (floor_for_provider 2 class step) _ _ (not_applied (has_floor 2) _ _ (ne_eqb step 0 (λ e. omega arith)))

others : (step sovereign_step : ℕ) →
    (counterparty_weight 2 sovereign step sovereign_step ≡ own_weight sovereign step)
    × (counterparty_weight 2 retail step sovereign_step ≡ own_weight retail step)
    × (provider_weight 2 sovereign step sovereign_step ≡ table_weight sovereign step)
    × (provider_weight 2 other_entity step sovereign_step ≡ table_weight other_entity step)
unfolding counterparty_weight provider_weight
others step sovereign_step = (
  unfloored (floor_for_counterparty 2 sovereign step) _ _ (not_for (has_floor 2) (eqb step 0) _ refl),
  unfloored (floor_for_counterparty 2 retail step) _ _ (not_for (has_floor 2) (eqb step 0) _ refl),
  unfloored (floor_for_provider 2 sovereign step) _ _ (not_for (has_floor 2) (eqb step 0) _ refl),
  unfloored (floor_for_provider 2 other_entity step) _ _ (not_for (has_floor 2) (eqb step 0) _ refl),
)

no_floor : (class step sovereign_step : ℕ) →
    (counterparty_weight 1 class step sovereign_step ≡ own_weight class step) × (provider_weight 1 class step sovereign_step ≡ table_weight class step)
unfolding counterparty_weight provider_weight at_least_sovereign has_floor
no_floor class step sovereign_step = (refl, refl)

floors :
    (map (counterparty_weight 2 bank 0) steps ≡ 100 ∷ 50 ∷ 50 ∷ 50 ∷ 100 ∷ 100 ∷ 150 ∷ [])
    × (map (counterparty_weight 2 corporate 0) steps ≡ 100 ∷ 100 ∷ 100 ∷ 100 ∷ 100 ∷ 100 ∷ 150 ∷ [])
    × (map (provider_weight 2 bank_or_securities_firm 0) steps ≡ 100 ∷ 50 ∷ 50 ∷ 50 ∷ 100 ∷ 100 ∷ 150 ∷ [])
unfolding worked
floors = (refl, refl, refl)

weight_used : (t : Terms) → eqb t.edition 3 ≡ false → counterparty_weight_of (table_for t) t ≡ counterparty_weight t.edition t.counterparty.class t.counterparty.step t.counterparty.sovereign_step
unfolding table_for
weight_used t n = rw (of_2019 t.edition n)

provider_weight_used : (t : Terms) (g : Guarantee) → eqb t.edition 3 ≡ false → provider_weight_of (table_for t) g ≡ provider_weight t.edition g.provider.class g.provider.step g.provider.sovereign_step
unfolding table_for
provider_weight_used t g n = rw (of_2019 t.edition n)

entity_left_out : (t : Terms) (g : Guarantee) → g.provider.class ≡ other_entity → g.provider.step ≡ 0 →
    g.lawful ≡ 1 → g.direct ≡ 1 → g.not_in_rating ≡ 1 → guarantee_ground (table_for t) t g ≡ 28
unfolding guarantee_ground guarantee_grounds first_or
entity_left_out t g class step lawful direct rating = rw (lawful, direct, rating, class, step)

-- The header and the lines

second_heading : (is_wrong (heading_of (bytes "CRM\t2\n")) ≡ false) × (edition_of (heading_of (bytes "CRM\t2\n")) ≡ 2)
unfolding worked
second_heading = (refl, refl)

headed_2 : (book : List ℕ) → same_bytes (first_line book) (bytes "CRM\t2\n") ≡ true → (is_wrong (heading_of (first_line book)) ≡ false) × (book_edition book ≡ 2)
headed_2 book e =
    let line : first_line book ≡ bytes "CRM\t2\n" = same_equal (first_line book) (bytes "CRM\t2\n") e in
    (ap (λ l. is_wrong (heading_of l)) line ∙ second_heading.0, ap (λ l. edition_of (heading_of l)) line ∙ second_heading.1)

deal_line_2 : (rest : List ℕ) → line_of 2 (byte "D" ∷ rest) ≡ if_read (λ fields. DealLine (terms_under 2 fields)) (fields_of 11 rest)
unfolding line_of deal_line width_under with_sovereign
deal_line_2 rest = refl

guarantee_line_2 : (rest : List ℕ) → line_of 2 (byte "G" ∷ rest) ≡ if_read (λ fields. GuaranteeLine (guarantee_sent fields)) (fields_of 10 rest)
unfolding line_of guarantee_line width_under with_sovereign
guarantee_line_2 rest = refl

collateral_line_2 : (rest : List ℕ) → line_of 2 (byte "C" ∷ rest) ≡ line_of 1 (byte "C" ∷ rest)
unfolding line_of
collateral_line_2 rest = refl

-- The refusals

editions_known : map edition_known (0 ∷ 1 ∷ 2 ∷ 3 ∷ 4 ∷ []) ≡ false ∷ true ∷ true ∷ true ∷ false ∷ []
unfolding within
editions_known = refl

editions_unknown : (edition : ℕ) → 4 ≤ edition → edition_known edition ≡ false
unfolding within
editions_unknown edition h = and_second (leb 1 edition) (leb edition 3) (le-leb 1 edition (omega arith)) (lt-leb edition 3 (omega arith))

-- the second or third test is met, and none before it
second_met : (c : FieldChecks) → c.amount ≡ true → c.codes ≡ false → first_met (field_tests c) ≡ 2
unfolding first_or
second_met c a b = rw (a, b)

third_met : (c : FieldChecks) → c.amount ≡ true → c.codes ≡ true → c.steps ≡ false → first_met (field_tests c) ≡ 3
unfolding first_or
third_met c a b s = rw (a, b, s)

and_false : (a b : Bool) → b ≡ false → (a && b) ≡ false
and_false true b e = e
and_false false b e = refl

unknown_edition : (t : Terms) → amount_allowed t.amount ≡ true → edition_known t.edition ≡ false → terms_refusal t ≡ 2
unfolding terms_refusal terms_tests
unknown_edition t a e =
    second_met (terms_checks days_limit t) a (and_false (counterparty_known t.counterparty && kind_known t.kind && goods_known t.lent) (edition_known t.edition) e)

steps_of_sovereigns : (class step s : ℕ) → let party : Party = record { class = class; step = step; sovereign_step = s } in
    (class ≡ sovereign → sovereign_step_allowed party ≡ eqb s 0)
    × (class ≡ bank → sovereign_step_allowed party ≡ leb s 6)
    × (class ≡ corporate → sovereign_step_allowed party ≡ leb s 6)
    × (class ≡ retail → sovereign_step_allowed party ≡ eqb s 0)
unfolding sovereign_step_allowed
steps_of_sovereigns class step s = (λ e. rw e, λ e. rw e, λ e. rw e, λ e. rw e)

wrong_step : (t : Terms) → (terms_checks days_limit t).amount ≡ true → (terms_checks days_limit t).codes ≡ true → sovereign_step_allowed t.counterparty ≡ false → terms_refusal t ≡ 3
unfolding terms_refusal terms_tests party_steps_allowed
wrong_step t a b e = third_met (terms_checks days_limit t) a b (and_first _ _ (and_false (party_step_allowed t.counterparty) _ e))

wrong_provider_step : (g : Guarantee) → (guarantee_checks days_limit g).amount ≡ true → (guarantee_checks days_limit g).codes ≡ true → sovereign_step_allowed g.provider ≡ false → guarantee_refusal g ≡ 3
unfolding guarantee_refusal guarantee_tests party_steps_allowed
wrong_provider_step g a b e = third_met (guarantee_checks days_limit g) a b (and_false (party_step_allowed g.provider) _ e)

sample_answered : results_after sample (replicate 48 7) ≡ sample_answers
unfolding worked
sample_answered = refl

pub sovereign_floor : SovereignFloor
sovereign_floor = record {
  reply_same = λ book places e. sym (reply_now book places) ∙ reply_same book e.0 e.1 places;
  results_same = λ book list e. sym (results_now book list) ∙ results_same book e.0 e.1 list;
  printed_same = λ book e. sym (printed_now book) ∙ printed_same book e.0 e.1;
  line_same = line_same;
  deal_same = λ deal. sym (deal_now 1 deal) ∙ deal_same deal;
  was_refused = was_refused;
  report_same = λ d a e. sym (report_now d) ∙ report_same d (accepted_now d ∙ a) e;
  accepted_exactly = λ d. sym (accepted_now d) ∙ accepted_exactly d;
  opening_same = λ t h k. (sym (opening_now t) ∙ opening_same t h k, sym (opened_now t) ∙ opened_same t h k);
  adding_collateral_same = λ d c a. (sym (adding_collateral_now d c) ∙ adding_collateral_same d (accepted_now d ∙ a) c, sym (with_collateral_now d c) ∙ with_collateral_same d (accepted_now d ∙ a) c);
  adding_guarantee_same = λ d g a k. (sym (adding_guarantee_now d g) ∙ adding_guarantee_same d (accepted_now d ∙ a) g k, sym (with_guarantee_now d g) ∙ with_guarantee_same d (accepted_now d ∙ a) g k);
  bank_floor = bank_floor;
  corporate_floor = corporate_floor;
  provider_floor = provider_floor;
  rated_counterparty = rated_counterparty;
  rated_provider = rated_provider;
  others = others;
  no_floor = no_floor;
  bank_floors = floors.0;
  corporate_floors = floors.1;
  provider_floors = floors.2;
  weight_used = weight_used;
  provider_weight_used = provider_weight_used;
  entity_left_out = entity_left_out;
  headed_2 = headed_2;
  deal_line_2 = deal_line_2;
  guarantee_line_2 = guarantee_line_2;
  collateral_line_2 = collateral_line_2;
  editions_known = editions_known;
  editions_unknown = editions_unknown;
  unknown_edition = unknown_edition;
  steps_of_sovereigns = steps_of_sovereigns;
  wrong_step = wrong_step;
  wrong_provider_step = wrong_provider_step;
  sample_answered = sample_answered;
  opening_now = λ t. (opening_now t, opened_now t);
  accepted_now = accepted_now;
  collateral_now = λ d c. (adding_collateral_now d c, with_collateral_now d c);
  guarantee_now = λ d g. (adding_guarantee_now d g, with_guarantee_now d g);
  report_now = report_now;
  deal_now = deal_now;
  reply_now = reply_now;
  results_now = results_now;
  printed_now = printed_now;
}

-- NO PROMISE IS EMPTY: of these nothing more is asked

-- an unrated bank, backed by another; headed 1, and headed as no book is
abbrev lines : List ℕ
lines = bytes "D\t1000\t3\t0\t978\t3\t1\t1800\t1\t0\t0\nG\t600\t2\t0\t978\t1800\t1800\t1\t1\t1\n"

abbrev first : List ℕ
first = bytes "CRM\t1\n" ++ lines

abbrev other : List ℕ
other = bytes "CRM\t4\n" ++ lines

books_said :
    (results_after first (replicate 4 7) ≡ results_by before_floor first (replicate 4 7))
    × (results_after other (replicate 4 7) ≡ results_by before_floor other (replicate 4 7))
    × (printed first ≡ printed_by before_floor first)
    × (book_refusal_by before_floor (bytes "CRM\t2\n" ++ lines) 4 ≡ 9)
unfolding worked
books_said = (
  sovereign_floor.results_same first (replicate 4 7) (refl, refl),
  sovereign_floor.results_same other (replicate 4 7) (refl, refl),
  sovereign_floor.printed_same first (refl, refl),
  sovereign_floor.was_refused (bytes "CRM\t2\n" ++ lines) 4 refl (omega arith),
)

-- and what that is
books_answered : map (λ book. results_after book (replicate 4 7)) (first ∷ other ∷ []) ≡ (1 ∷ 0 ∷ 1000 ∷ 700 ∷ []) ∷ replicate 4 7 ∷ []
unfolding worked
books_answered = refl

-- a record of the first edition that holds steps of sovereigns
abbrev held : ℕ → Deal
held edition =
    deal_with (terms_in (1000 ∷ 3 ∷ 0 ∷ 6 ∷ 978 ∷ 3 ∷ 1 ∷ 1800 ∷ 1 ∷ 0 ∷ 0 ∷ edition ∷ [])) []
    (guarantee_in (600 ∷ 2 ∷ 0 ∷ 4 ∷ 978 ∷ 1800 ∷ 1800 ∷ 1 ∷ 1 ∷ 1 ∷ []) ∷ [])

record_said : report_of (held 1) ≡ report_by before_floor (held 1)
unfolding worked
record_said = sovereign_floor.report_same (held 1) refl refl

-- under the second its amount is another
record_reported : map (λ edition. (report_of (held edition)).rwa) (1 ∷ 2 ∷ []) ≡ 700 ∷ 1200 ∷ []
unfolding worked
record_reported = refl

-- which weights these are
weighed :
    (counterparty_weight 2 corporate 0 6 ≡ 150) × (provider_weight 2 bank_or_securities_firm 0 4 ≡ 100) × (counterparty_weight 2 corporate 1 6 ≡ 20)
unfolding table_weight own_weight step_column
weighed = (sovereign_floor.corporate_floor 6, sovereign_floor.provider_floor 4, sovereign_floor.rated_counterparty corporate 1 6 (omega arith))
