-- Before the 2023 tables and now: a book that is not headed 3 has the same answers, and so has a deal of another edition than the third. Assumes
-- nothing.
use Prim.Native.Nat.{ℕ, ◌≤◌}
use mathlib.Core.Path.{◌≡◌, refl, sym, ap, ◌∙◌}
use mathlib.Core.Bool.{Bool, true, false, ◌&&◌}
use mathlib.Core.List.{List, ◌∷◌}
use native.Mathlib.Omega.{arith}
use lib.Dec.{eqb, leb}
use lib.ListN.{length}
use borrow.Author.Tests.{eqb-false, leb-false, leb-true, le-leb, lt-leb, not-false as held}
use Rattle.base.specs.Range.{within}
use Rattle.base.proofs.Choice.{either, never, through}
use Rattle.base.proofs.Every.{both}
use Rattle.base.proofs.FirstMet.{none_exactly}
use Rattle.tables.specs.Table.{Table}
use Rattle.tables.proofs.Versions.{of_2019}
use Rattle.text.specs.Text.{book_limit, first_line, same_bytes, starts_with}
use Rattle.text.proofs.Equal.{same_equal}
use Rattle.deal.specs.Assets.{goods_known}
use Rattle.deal.specs.Checks.{field_tests}
use Rattle.deal.specs.Editions.{edition_known, table_for}
use Rattle.deal.specs.Parties.{counterparty_known}
use Rattle.deal.specs.Terms.{kind_known, terms_tests}
use Rattle.deal.specs.declared.terms.Terms.{Terms}
use Rattle.deal.specs.declared.collateral.Collateral.{Collateral}
use Rattle.deal.specs.declared.guarantee.Guarantee.{Guarantee}
use Rattle.deal.specs.Views.{view_of}
use Rattle.deal.specs.declared.deal.Deal.{Deal}
use Rattle.relief.specs.Collateral.{collateral_ground, collateral_grounds, collateral_outcome, collateral_valuation, combined_haircut_of}
use Rattle.relief.specs.Exposure.{adjusted_exposure_of, collateral_total, exposure_after, risk_weighted_amount_of, scaled_lent_haircut}
use Rattle.relief.specs.Guarantees.{guarantee_ground, guarantee_grounds, guarantee_outcome, guarantee_valuation, hedged_amount}
use Rattle.relief.specs.Maturity.{short_original, short_residual}
use Rattle.relief.specs.Report.{full_report}
use Rattle.lines.specs.Lines.{line_of}
use Rattle.lines.specs.declared.line.Line.{Line}
use Rattle.lines.specs.declared.line.Line.TheVariants.{DealLine, CollateralLine, GuaranteeLine, Malformed}
use Rattle.book.specs.Book.{lines_behind}
use Rattle.book.specs.Deals.{DealLines}
use Rattle.book.specs.Heading.{edition_of, first_header, heading_of, is_wrong, second_header, third_header}
use Rattle.std.specs.Prelude.{Option}
use Rattle.earlier.specs.Before2023.{before_2023, edition_before_2023, heading_before_2023, terms_checks_before_2023, with_edition, deal_with_edition}
use Rattle.earlier.specs.Books.{book_refusal_by, book_reply_by, deal_answer_by, edition_by, line_opened_by, line_refusal_by, opening_refusal_by, printed_by, reported_by, results_by, with_line_by}
use Rattle.earlier.specs.Deals.{accepted_by, add_collateral_refusal_by, add_guarantee_refusal_by, collateral_refusal_by, deal_opened_by, guarantee_refusal_by, report_by, report_refusal_by, terms_refusal_by, with_collateral_by, with_guarantee_by}
use Rattle.earlier.specs.Rules.{in_force}
use Rattle.earlier.proofs.Accepted.{parts}
use Rattle.earlier.proofs.Alike.{Alike, AnyDeal, any_lines, any_line, deal_same as alike_deal, printed_same as alike_printed, reply_same as alike_reply, results_same as alike_results, wrong_by_9}
use Rattle.earlier.proofs.Days.{apart_now}
use Rattle.earlier.proofs.Lines.{Says, said_edition}

-- another edition than the third
abbrev Other : ℕ → Type 0
Other edition = eqb edition 3 ≡ false

-- FIELDS: what is new is one edition more

edition_same : (edition : ℕ) → Other edition → edition_known edition ≡ edition_before_2023 edition
unfolding within
edition_same edition n = ap (λ b. leb 1 edition && b) (go (leb edition 2) refl)
  where
    go : (t : Bool) → leb edition 2 ≡ t → leb edition 3 ≡ leb edition 2
    go true e = le-leb edition 3 (omega (arith, leb-true edition 2 e)) ∙ sym e
    go false e = lt-leb edition 3 (above (leb-false edition 2 e) (eqb-false edition 3 n)) ∙ sym e
      where
        above : 3 ≤ edition → (edition ≡ 3 → ⊥) → 4 ≤ edition
        above h k = omega arith

module _ (t : Terms) (n : Other t.edition) where
  pub opening_same : terms_refusal_by in_force t ≡ terms_refusal_by before_2023 t
  unfolding terms_refusal_by terms_tests
  opening_same = rw (edition_same t.edition n)

  pub opened_same : deal_opened_by in_force t ≡ deal_opened_by before_2023 t
  unfolding deal_opened_by
  opened_same = rw opening_same

-- A DEAL OF ANOTHER EDITION: accepted, added to and reported as before

module _ (d : Deal) (n : Other d.terms.edition) where
  pub accepted_same : accepted_by in_force d ≡ accepted_by before_2023 d
  unfolding accepted_by collateral_refusal_by guarantee_refusal_by
  accepted_same = rw (opening_same d.terms n)

  pub adding_collateral_same : (c : Collateral) → add_collateral_refusal_by in_force d c ≡ add_collateral_refusal_by before_2023 d c
  unfolding add_collateral_refusal_by
  adding_collateral_same c = rw accepted_same

  pub adding_guarantee_same : (g : Guarantee) → add_guarantee_refusal_by in_force d g ≡ add_guarantee_refusal_by before_2023 d g
  unfolding add_guarantee_refusal_by
  adding_guarantee_same g = rw accepted_same

  pub with_collateral_same : (c : Collateral) → with_collateral_by in_force d c ≡ with_collateral_by before_2023 d c
  unfolding with_collateral_by
  with_collateral_same c = rw (adding_collateral_same c)

  pub with_guarantee_same : (g : Guarantee) → with_guarantee_by in_force d g ≡ with_guarantee_by before_2023 d g
  unfolding with_guarantee_by
  with_guarantee_same g = rw (adding_guarantee_same g)

  pub report_same : report_by in_force d ≡ report_by before_2023 d
  unfolding report_by table_for
  report_same = rw (accepted_same, of_2019 d.terms.edition n)

  reporting_same : report_refusal_by in_force d ≡ report_refusal_by before_2023 d
  unfolding report_refusal_by
  reporting_same = rw accepted_same

  reported_same : (opening : ℕ) → reported_by in_force opening d ≡ reported_by before_2023 opening d
  unfolding reported_by
  reported_same opening = rw (reporting_same, report_same)

  further_line : (line : Line) → line_refusal_by in_force d line ≡ line_refusal_by before_2023 d line
  unfolding line_refusal_by
  further_line (CollateralLine c) = adding_collateral_same c
  further_line (GuaranteeLine g) = adding_guarantee_same g
  further_line (DealLine t) = refl
  further_line Malformed = refl

  with_line_lem : (line : Line) → with_line_by in_force d line ≡ with_line_by before_2023 d line
  unfolding with_line_by
  with_line_lem (CollateralLine c) = with_collateral_same c
  with_line_lem (GuaranteeLine g) = with_guarantee_same g
  with_line_lem (DealLine t) = refl
  with_line_lem Malformed = refl

-- A DEAL OF THE THIRD: as one of the second was, but for its tables; before, it was refused

pub third_opening : (t : Terms) → terms_refusal_by in_force (with_edition 3 t) ≡ terms_refusal_by before_2023 (with_edition 2 t)
unfolding terms_refusal_by terms_tests within
third_opening t = refl

pub third_accepted : (d : Deal) → accepted_by in_force (deal_with_edition 3 d) ≡ accepted_by before_2023 (deal_with_edition 2 d)
unfolding accepted_by collateral_refusal_by guarantee_refusal_by
third_accepted d = rw (third_opening d.terms)

pub third_adding_collateral : (d : Deal) (c : Collateral) → add_collateral_refusal_by in_force (deal_with_edition 3 d) c ≡ add_collateral_refusal_by before_2023 (deal_with_edition 2 d) c
unfolding add_collateral_refusal_by
third_adding_collateral d c = rw (third_accepted d)

pub third_adding_guarantee : (d : Deal) (g : Guarantee) → add_guarantee_refusal_by in_force (deal_with_edition 3 d) g ≡ add_guarantee_refusal_by before_2023 (deal_with_edition 2 d) g
unfolding add_guarantee_refusal_by
third_adding_guarantee d g = rw (third_accepted d)

pub third_with_collateral : (d : Deal) (c : Collateral) → with_collateral_by in_force (deal_with_edition 3 d) c ≡ deal_with_edition 3 (with_collateral_by before_2023 (deal_with_edition 2 d) c)
unfolding with_collateral_by
third_with_collateral d c = rw (third_adding_collateral d c) (through (deal_with_edition 3) (eqb (add_collateral_refusal_by before_2023 (deal_with_edition 2 d) c) 0) _ _)

pub third_with_guarantee : (d : Deal) (g : Guarantee) → with_guarantee_by in_force (deal_with_edition 3 d) g ≡ deal_with_edition 3 (with_guarantee_by before_2023 (deal_with_edition 2 d) g)
unfolding with_guarantee_by
third_with_guarantee d g = rw (third_adding_guarantee d g) (through (deal_with_edition 3) (eqb (add_guarantee_refusal_by before_2023 (deal_with_edition 2 d) g) 0) _ _)

pub third_refused : (d : Deal) → d.terms.edition ≡ 3 → accepted_by before_2023 d ≡ false
unfolding within terms_refusal_by
third_refused d e = go (accepted_by before_2023 d) refl
  where
    known : accepted_by before_2023 d ≡ true → edition_before_2023 d.terms.edition ≡ true
    known a =
        let t = d.terms in
        let n = none_exactly (field_tests (terms_checks_before_2023 t)) refl (parts before_2023 d a).terms in
        (both (counterparty_known t.counterparty && kind_known t.kind && goods_known t.lent) _ (held _ n.1.0)).1

    go : (b : Bool) → accepted_by before_2023 d ≡ b → b ≡ false
    go true a = absurd (never (known a) (rw e))
    go false a = refl

-- THE EDITION ENTERS A REPORT BY ITS TABLES ALONE: under one and the same set of tables it makes no difference
pub only_tables : (table : Table) (edition : ℕ) (d : Deal) → full_report table (view_of (deal_with_edition edition d)) ≡ full_report table (view_of d)
unfolding hedged_amount full_report collateral_outcome collateral_ground collateral_grounds collateral_valuation combined_haircut_of guarantee_outcome guarantee_ground guarantee_grounds guarantee_valuation short_original short_residual scaled_lent_haircut adjusted_exposure_of collateral_total exposure_after risk_weighted_amount_of
only_tables table edition d = refl

-- A BOOK THAT IS NOT HEADED 3

opening_line : (edition : ℕ) → Other edition → (line : Line) → Says edition line → opening_refusal_by in_force line ≡ opening_refusal_by before_2023 line
unfolding opening_refusal_by
opening_line edition n (DealLine t) s = opening_same t (rw s n)
opening_line edition n (CollateralLine c) s = refl
opening_line edition n (GuaranteeLine g) s = refl
opening_line edition n Malformed s = refl

opened_line : (edition : ℕ) → Other edition → (line : Line) → Says edition line → line_opened_by in_force line ≡ line_opened_by before_2023 line
unfolding line_opened_by
opened_line edition n (DealLine t) s = opened_same t (rw s n)
opened_line edition n (CollateralLine c) s = refl
opened_line edition n (GuaranteeLine g) s = refl
opened_line edition n Malformed s = refl

alike : (edition : ℕ) → Other edition → Alike in_force before_2023 edition any_line AnyDeal
alike edition n = record {
  apart = apart_now;
  line = λ line f. refl;
  says = said_edition edition;
  opening = λ line. opening_line edition n (line_of edition line) (said_edition edition line);
  opened = λ line. opened_line edition n (line_of edition line) (said_edition edition line);
  opens = λ line. tt;
  refusal = λ d a e line. further_line d (rw e n) (line_of edition line);
  added = λ d a e line. with_line_lem d (rw e n) (line_of edition line);
  keeps = λ d h line. tt;
  reported = λ d a e h opening. reported_same d (rw e n) opening;
}

pub deal_same : (edition : ℕ) → eqb edition 3 ≡ false → (deal : DealLines) → deal_answer_by in_force edition deal ≡ deal_answer_by before_2023 edition deal
deal_same edition n deal = alike_deal in_force before_2023 edition any_line AnyDeal (alike edition n) deal (any_lines (deal.opening ∷ deal.further))

module _ (book : List ℕ) (not_3 : same_bytes (first_line book) third_header ≡ false) where
  heading_same : heading_of (first_line book) ≡ heading_before_2023 (first_line book)
  unfolding heading_of heading_before_2023
  heading_same = rw not_3

  headed : Other (edition_by before_2023 book)
  unfolding heading_before_2023
  headed =
      either (λ (h : Option ℕ). Other (edition_of h)) (same_bytes (first_line book) first_header) (λ e. refl)
      (λ e. either (λ (h : Option ℕ). Other (edition_of h)) (same_bytes (first_line book) second_header) (λ e. refl) (λ e. refl))

  book_alike : is_wrong (heading_before_2023 (first_line book)) ≡ false → Alike in_force before_2023 (edition_by before_2023 book) any_line AnyDeal
  book_alike h = alike (edition_by before_2023 book) headed

  pub reply_same : (n : ℕ) → book_reply_by in_force book n ≡ book_reply_by before_2023 book n
  reply_same = alike_reply in_force before_2023 book heading_same any_line AnyDeal (any_lines (lines_behind book)) book_alike

  pub results_same : (list : List ℕ) → results_by in_force book list ≡ results_by before_2023 book list
  results_same = alike_results in_force before_2023 book heading_same any_line AnyDeal (any_lines (lines_behind book)) book_alike

  pub printed_same : printed_by in_force book ≡ printed_by before_2023 book
  printed_same = alike_printed in_force before_2023 book heading_same any_line AnyDeal (any_lines (lines_behind book)) book_alike

-- a book headed 3 was refused, by 9 if it was not too long
third_wrong : is_wrong (heading_before_2023 third_header) ≡ true
unfolding heading_before_2023 same_bytes starts_with
third_wrong = refl

pub was_refused : (book : List ℕ) (n : ℕ) → same_bytes (first_line book) third_header ≡ true → length book ≤ book_limit → book_refusal_by before_2023 book n ≡ 9
was_refused book n e h = wrong_by_9 before_2023 book n (ap (λ line. is_wrong (heading_before_2023 line)) (same_equal (first_line book) third_header e) ∙ third_wrong) h
