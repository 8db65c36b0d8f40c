-- Demand 1 is met. Assumes nothing.
use Prim.Native.Nat.{ℕ, ◌+◌}
use mathlib.Core.Path.{◌≡◌, refl, sym, ap, ◌∙◌}
use mathlib.Core.Bool.{Bool, true, false, not}
use mathlib.Core.List.{List, [], ◌∷◌, map}
use lib.Dec.{eqb}
use lib.ListN.{get_or, length, replicate, take}
use borrow.Author.Tests.{eq-eqb}
use Rattle.base.specs.FirstMet.{◌when◌, first_or}
use Rattle.base.specs.Range.{within}
use Rattle.base.proofs.Choice.{either, if_true}
use Rattle.base.proofs.FirstMet.{exact, first_holds, met_first}
use Rattle.base.proofs.Tests.{not_true, told_not_false}
use Rattle.deal.specs.Instruments.{as_swap}
use Rattle.deal.specs.Adding.{add_collateral_refusal, add_collateral_tests, add_guarantee_refusal, add_guarantee_tests, with_collateral, with_guarantee}
use Rattle.deal.specs.Answers.{answer_number, refusal_number}
use Rattle.deal.specs.Assets.{asset_step_allowed, life_allowed}
use Rattle.deal.specs.Checks.{field_tests}
use Rattle.deal.specs.Collateral.{append_collateral, collateral_list_allowed, collateral_list_refusal, collateral_list_tests, collateral_refusal, collateral_tests}
use Rattle.deal.specs.Editions.{table_for}
use Rattle.deal.specs.Fields.{collateral_in, guarantee_in, terms_in}
use Rattle.deal.specs.Guarantees.{append_guarantee, guarantee_list_allowed, guarantee_list_refusal, guarantee_list_tests, guarantee_refusal, guarantee_tests}
use Rattle.deal.specs.Records.{accepted, deal_of, deal_with, record_allowed}
use Rattle.deal.specs.Parties.{party_step_allowed, party_steps_allowed, sovereign_step_allowed}
use Rattle.deal.specs.Ranges.{days_limit}
use Rattle.deal.specs.Terms.{terms_checks, terms_refusal, terms_tests}
use Rattle.deal.specs.declared.terms.Terms.{Terms}
use Rattle.deal.specs.declared.collateral.Collateral.{Collateral}
use Rattle.deal.specs.declared.guarantee.Guarantee.{Guarantee}
use Rattle.deal.specs.declared.deal.Deal.{Deal}
use Rattle.deal.proofs.Deals.{allowed_accepted, collateral_added_accepted, collateral_by_list, collateral_refused, guarantee_added_accepted, guarantee_by_list, guarantee_refused, new_accepted, refused_not_accepted}
use Rattle.deal_laws.proofs.Exact.{collateral_exact, guarantee_exact, opening_exact}
use Rattle.relief.specs.Report.{full_report, report_of, report_refusal}
use Rattle.relief.proofs.Reports.{accepted_unrefused, report_accepted, report_refused}
use Rattle.lines.specs.Lines.{line_of}
use Rattle.lines.specs.declared.line.Line.{Line}
use Rattle.lines.specs.declared.line.Line.TheVariants.{DealLine, CollateralLine, GuaranteeLine, Malformed}
use Rattle.book.specs.Answers.{deal_answer, line_refusal, lines_answer, opened_by, opening_refusal, refused_at, with_line}
use Rattle.book.specs.Book.{book_refusal, book_reply, book_tests, deals_of}
use Rattle.book.specs.Deals.{DealLines}
use Rattle.book.proofs.Answering.{line_allowed, no_more_lines}
use Rattle.book.proofs.Refusing.{accepted_reply, accepted_results, accepted_tests, refused_results}
use Rattle.book_laws.proofs.Answered.{each_answered, opening_allowed}
use Rattle.book_laws.proofs.Refusals.{book_exact}
use Rattle.claims.specs.Demand1.{Among, Demand1, is_among, line_refusals}

abbrev of_opening : List ℕ
of_opening = 0 ∷ 1 ∷ 2 ∷ 3 ∷ 4 ∷ 5 ∷ []

abbrev of_adding : List ℕ
of_adding = 0 ∷ 40 ∷ 6 ∷ 1 ∷ 2 ∷ 3 ∷ 4 ∷ 5 ∷ 7 ∷ 8 ∷ []

abbrev of_reporting : List ℕ
of_reporting = 0 ∷ 40 ∷ []

-- a list names its own numbers and no other
no_other : map (is_among of_reporting) (0 ∷ 6 ∷ 40 ∷ []) ≡ true ∷ false ∷ true ∷ []
no_other = refl

-- and each number that is listed is given: by opening
opening_each : map (λ fields. terms_refusal (terms_in fields)) (
    (0 ∷ 1 ∷ 0 ∷ 0 ∷ 1 ∷ 1 ∷ 1 ∷ 1 ∷ 1 ∷ 0 ∷ 0 ∷ 1 ∷ [])
    ∷ (1000000000001 ∷ [])
    ∷ []
    ∷ (0 ∷ 1 ∷ 7 ∷ 0 ∷ 0 ∷ 1 ∷ 0 ∷ 0 ∷ 1 ∷ 0 ∷ 0 ∷ 2 ∷ [])
    ∷ (0 ∷ 1 ∷ 0 ∷ 0 ∷ 0 ∷ 1 ∷ 0 ∷ 0 ∷ 1 ∷ 0 ∷ 0 ∷ 2 ∷ [])
    ∷ (0 ∷ 1 ∷ 0 ∷ 0 ∷ 1 ∷ 1 ∷ 0 ∷ 0 ∷ 1 ∷ 0 ∷ 0 ∷ 2 ∷ [])
    ∷ []
    ) ≡ of_opening
unfolding terms_refusal terms_tests first_or within party_step_allowed sovereign_step_allowed party_steps_allowed asset_step_allowed life_allowed
opening_each = refl

-- by adding
abbrev sound : List ℕ
sound = 0 ∷ 1 ∷ 0 ∷ 0 ∷ 1 ∷ 1 ∷ 1 ∷ 1 ∷ 1 ∷ 0 ∷ 0 ∷ 1 ∷ []

adding_each :
    (let cash : Collateral = collateral_in (0 ∷ 1 ∷ 0 ∷ 0 ∷ 1 ∷ 1 ∷ 1 ∷ []) in
    let added : List ℕ → ℕ = λ fields. add_collateral_refusal (deal_with (terms_in sound) [] []) (collateral_in fields) in
    added (0 ∷ 1 ∷ 0 ∷ 0 ∷ 1 ∷ 1 ∷ 1 ∷ [])
    ∷ add_collateral_refusal (deal_with (terms_in []) [] []) cash
    ∷ add_collateral_refusal (deal_with (terms_in sound) (replicate 16 cash) []) cash
    ∷ map added (
    (1000000000001 ∷ [])
    ∷ []
    ∷ (0 ∷ 1 ∷ 7 ∷ [])
    ∷ (0 ∷ 1 ∷ [])
    ∷ (0 ∷ 1 ∷ 0 ∷ 0 ∷ 1 ∷ [])
    ∷ (0 ∷ 1 ∷ 0 ∷ 0 ∷ 1 ∷ 2 ∷ 1 ∷ [])
    ∷ (0 ∷ 1 ∷ 0 ∷ 0 ∷ 1 ∷ 1 ∷ 1 ∷ 2 ∷ [])
    ∷ []
    ) ≡ of_adding)
unfolding add_collateral_refusal add_collateral_tests record_allowed collateral_list_tests collateral_list_allowed guarantee_list_allowed terms_refusal terms_tests collateral_refusal collateral_tests guarantee_refusal guarantee_tests first_or within party_step_allowed sovereign_step_allowed party_steps_allowed asset_step_allowed life_allowed
adding_each = refl

guarantees_each :
    (let backing : Guarantee = guarantee_in (0 ∷ 1 ∷ 0 ∷ 0 ∷ 1 ∷ 1 ∷ 1 ∷ []) in
    let added : List ℕ → ℕ = λ fields. add_guarantee_refusal (deal_with (terms_in sound) [] []) (guarantee_in fields) in
    added (0 ∷ 1 ∷ 0 ∷ 0 ∷ 1 ∷ 1 ∷ 1 ∷ [])
    ∷ add_guarantee_refusal (deal_with (terms_in []) [] []) backing
    ∷ add_guarantee_refusal (deal_with (terms_in sound) [] (replicate 16 backing)) backing
    ∷ map added (
    (1000000000001 ∷ [])
    ∷ []
    ∷ (0 ∷ 1 ∷ 7 ∷ [])
    ∷ (0 ∷ 1 ∷ [])
    ∷ (0 ∷ 1 ∷ 0 ∷ 0 ∷ 1 ∷ [])
    ∷ (0 ∷ 1 ∷ 0 ∷ 0 ∷ 1 ∷ 2 ∷ 1 ∷ [])
    ∷ (0 ∷ 1 ∷ 0 ∷ 0 ∷ 1 ∷ 1 ∷ 1 ∷ 2 ∷ [])
    ∷ []
    ) ≡ of_adding)
unfolding add_guarantee_refusal add_guarantee_tests record_allowed guarantee_list_tests collateral_list_allowed guarantee_list_allowed terms_refusal terms_tests collateral_refusal collateral_tests guarantee_refusal guarantee_tests first_or within party_step_allowed sovereign_step_allowed party_steps_allowed asset_step_allowed life_allowed
guarantees_each = refl

-- by reporting
reporting_each : report_refusal (deal_with (terms_in sound) [] []) ∷ report_refusal (deal_with (terms_in []) [] []) ∷ [] ≡ of_reporting
unfolding report_refusal accepted record_allowed collateral_list_allowed guarantee_list_allowed terms_refusal terms_tests first_or within party_step_allowed sovereign_step_allowed party_steps_allowed asset_step_allowed life_allowed
reporting_each = refl

opening_numbers : (t : Terms) → Among of_opening (terms_refusal t)
unfolding terms_refusal terms_tests first_or
opening_numbers t = first_holds 0 (Among of_opening) (take 5 (field_tests (terms_checks days_limit t))) (refl, (refl, (refl, (refl, (refl, tt))))) (λ none. refl)

collateral_numbers : (d : Deal) (c : Collateral) → Among of_adding (add_collateral_refusal d c)
unfolding add_collateral_refusal add_collateral_tests collateral_list_tests collateral_tests
collateral_numbers d c =
    first_holds 0 (Among of_adding) (add_collateral_tests d c) (refl, (refl, (refl, (refl, (refl, (refl, (refl, (refl, (refl, tt))))))))) (λ none. refl)

guarantee_numbers : (d : Deal) (g : Guarantee) → Among of_adding (add_guarantee_refusal d g)
unfolding add_guarantee_refusal add_guarantee_tests guarantee_list_tests guarantee_tests
guarantee_numbers d g =
    first_holds 0 (Among of_adding) (add_guarantee_tests d g) (refl, (refl, (refl, (refl, (refl, (refl, (refl, (refl, (refl, tt))))))))) (λ none. refl)

report_numbers : (d : Deal) → Among of_reporting (report_refusal d)
unfolding report_refusal
report_numbers d = first_holds 0 (Among of_reporting) _ (refl, tt) (λ none. refl)

book_numbers : (text : List ℕ) (places : ℕ) → Among (0 ∷ 10 ∷ 9 ∷ 12 ∷ 13 ∷ []) (book_refusal text places)
unfolding book_refusal book_tests
book_numbers text places = first_holds 0 (Among (0 ∷ 10 ∷ 9 ∷ 12 ∷ 13 ∷ [])) (book_tests text places) (refl, (refl, (refl, (refl, tt)))) (λ none. refl)

-- a line of a deal that adding takes

collateral_line_lem : (d : Deal) (c : Collateral) → record_allowed d ≡ true → Among (0 ∷ line_refusals) (add_collateral_refusal d c)
unfolding collateral_list_refusal collateral_list_tests collateral_tests
collateral_line_lem d c h =
    rw (collateral_by_list d c h) (first_holds 0 (Among (0 ∷ line_refusals)) (collateral_list_tests d.collateral c) (refl, (refl, (refl, (refl, (refl, (refl, (refl, (refl, tt)))))))) (λ none. refl))

guarantee_line_lem : (d : Deal) (g : Guarantee) → record_allowed d ≡ true → Among (0 ∷ line_refusals) (add_guarantee_refusal d g)
unfolding guarantee_list_refusal guarantee_list_tests guarantee_tests
guarantee_line_lem d g h =
    rw (guarantee_by_list d g h) (first_holds 0 (Among (0 ∷ line_refusals)) (guarantee_list_tests d.guarantees g) (refl, (refl, (refl, (refl, (refl, (refl, (refl, (refl, tt)))))))) (λ none. refl))

line_numbers : (d : Deal) (line : Line) → record_allowed d ≡ true → Among (0 ∷ line_refusals) (line_refusal d line)
unfolding line_refusal
line_numbers d (CollateralLine c) h = collateral_line_lem d c h
line_numbers d (GuaranteeLine g) h = guarantee_line_lem d g h
line_numbers d (DealLine t) h = refl
line_numbers d Malformed h = refl

opening_line : (line : Line) → Among (0 ∷ line_refusals) (opening_refusal line)
unfolding opening_refusal terms_refusal terms_tests
opening_line (DealLine t) = first_holds 0 (Among (0 ∷ line_refusals)) (terms_tests t) (refl, (refl, (refl, (refl, (refl, (refl, (refl, tt))))))) (λ none. refl)
opening_line (CollateralLine c) = refl
opening_line (GuaranteeLine g) = refl
opening_line Malformed = refl

lines_numbers : (opening number : ℕ) (d : Deal) (lines : List (List ℕ)) → record_allowed d ≡ true → Among (0 ∷ line_refusals) (get_or (lines_answer opening number d lines) 0 0)
unfolding lines_answer refused_at
lines_numbers opening number d [] h = ap (λ l. is_among (0 ∷ line_refusals) (get_or l 0 0)) (no_more_lines opening number d (allowed_accepted d h))
lines_numbers opening number d (line ∷ lines) h =
    either (λ l. Among (0 ∷ line_refusals) (get_or l 0 0)) (eqb (line_refusal d (line_of d.terms.edition line)) 0)
    (λ e. lines_numbers opening (number + 1) (with_line d (line_of d.terms.edition line)) lines (line_allowed d (line_of d.terms.edition line) h))
    (λ e. line_numbers d (line_of d.terms.edition line) h)

deal_numbers : (edition : ℕ) (deal : DealLines) → Among (0 ∷ line_refusals) (get_or (deal_answer edition deal) 0 0)
unfolding deal_answer refused_at
deal_numbers edition deal =
    let line = line_of edition deal.opening in
    either (λ l. Among (0 ∷ line_refusals) (get_or l 0 0)) (eqb (opening_refusal line) 0)
    (λ e. lines_numbers deal.number (deal.number + 1) (opened_by line) deal.further (opening_allowed line e))
    (λ e. opening_line line)

-- Reporting

report_due : (d : Deal) → (report_refusal d ≡ 40 → accepted d ≡ false) × (accepted d ≡ false → report_refusal d ≡ 40)
unfolding report_refusal
report_due d = (λ h. told_not_false (accepted d) (accepted d) refl (((exact (40 when not (accepted d) ∷ []) refl).0 40 refl).0 h), λ h. met_first 40 _ _ (not_true (accepted d) h))

report_said : (d : Deal) → answer_number (report_of d).answer ≡ report_refusal d
unfolding answer_number refusal_number full_report
report_said d = go (accepted d) refl
  where
    go : (b : Bool) → accepted d ≡ b → answer_number (report_of d).answer ≡ report_refusal d
    go true e = ap (λ r. answer_number r.answer) (report_accepted (table_for d.terms) d e) ∙ sym (accepted_unrefused d e)
    go false e = ap (λ r. answer_number r.answer) (report_refused (table_for d.terms) d e) ∙ sym ((report_due d).1 e)

-- Adding

collateral_made : (d : Deal) (c : Collateral) → add_collateral_refusal d c ≡ 0 → with_collateral d c ≡ deal_of d.terms (append_collateral d.collateral c) d.guarantees
unfolding with_collateral
collateral_made d c e = if_true _ _ _ (eq-eqb _ 0 e)

guarantee_made : (d : Deal) (g : Guarantee) → add_guarantee_refusal d g ≡ 0 → with_guarantee d g ≡ deal_of d.terms d.collateral (append_guarantee d.guarantees g)
unfolding with_guarantee
guarantee_made d g e = if_true _ _ _ (eq-eqb _ 0 e)

book_counted : (text : List ℕ) (places : ℕ) → book_refusal text places ≡ 0 → (book_reply text places).deals ≡ length (deals_of text)
book_counted text places e = ap (λ r. r.deals) (accepted_reply text places (accepted_tests text places e))

pub demand_1 : Demand1
demand_1 = record {
  opening = opening_numbers;
  adding_collateral = collateral_numbers;
  adding_guarantee = guarantee_numbers;
  adding_swap = λ d r g. guarantee_numbers d (as_swap r g);
  reporting = report_numbers;
  report_says = report_said;
  book = book_numbers;
  deal_in_book = deal_numbers;
  figures_in_book = each_answered;
  opening_due = opening_exact;
  collateral_due = collateral_exact;
  guarantee_due = guarantee_exact;
  swap_due = λ d r g. guarantee_exact d (as_swap r g);
  reporting_due = report_due;
  book_due = book_exact;
  opened = new_accepted;
  collateral_added = λ d c e. (collateral_added_accepted d c e, collateral_made d c e);
  guarantee_added = λ d g e. (guarantee_added_accepted d g e, guarantee_made d g e);
  swap_added = λ d r g e. (guarantee_added_accepted d (as_swap r g) e, guarantee_made d (as_swap r g) e);
  list_written_lem = accepted_results;
  deals_counted = book_counted;
  no_deal = refused_not_accepted;
  collateral_kept = collateral_refused;
  guarantee_kept = guarantee_refused;
  swap_kept = λ d r g e. guarantee_refused d (as_swap r g) e;
  report_zeros = λ d e. report_refused (table_for d.terms) d e;
  list_kept = refused_results;
}
