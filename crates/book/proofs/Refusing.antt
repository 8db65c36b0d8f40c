-- Laws of a book's refusals. Assumes nothing.
use Prim.Native.Nat.{ℕ, ◌*◌, ◌≤◌}
use mathlib.Core.Path.{sym, ◌≡◌, refl, ◌∙◌, ap}
use mathlib.Core.Logic.{◌⊎◌, inl, inr, ⊎_elim}
use mathlib.Core.Bool.{Bool, true, false, not, ◌&&◌}
use mathlib.Core.List.{List, [], ◌∷◌}
use native.Mathlib.Omega.{arith}
use borrow.Author.Tests.{eqb-true, ltb-false}
use lib.Dec.{eqb}
use lib.ListN.{length, take}
use Rattle.base.specs.All.{all_pass}
use Rattle.base.proofs.Choice.{if_true, if_false, either, never}
use Rattle.base.proofs.FirstMet.{first_is, none_met, none_exactly}
use Rattle.base.specs.FirstMet.{NoneMet, FirstIs}
use Rattle.text.specs.Text.{same_bytes, first_line, lines_of}
use Rattle.text.proofs.Equal.{same_equal}
use Rattle.text.proofs.Lines.{lines_first, no_lines}
use Rattle.book.specs.Deals.{opens_deal}
use Rattle.book.specs.Answers.{answers_from}
use Rattle.book.specs.Heading.{edition_of, first_header, heading_of, is_wrong, second_header, third_header}
use Rattle.std.specs.Prelude.{Option}
use Rattle.book.specs.Start.{own_first}
use Rattle.book.specs.Book.{book_edition, book_tests, book_refusal, deals_of, answered_deals, refused_reply, book_reply, results_after}
use Rattle.base.specs.Writing.{overwrite}
use Rattle.std.specs.Prelude.{Ok, Err}
use Rattle.book.specs.Reply.{book_refusal_number, reply_sent}
use Rattle.book.specs.declared.reply.BookRefusal.{BookRefusal}
use Rattle.book.proofs.Numbers.{book_refusal_some}
use Rattle.book.proofs.Grouping.{opens_first}
use Rattle.book.proofs.Answering.{no_answers}

-- a first line that is not wrong is one of those asked for, byte for byte, and says its edition
abbrev pub Headed : List ℕ → ℕ → Type 0
Headed line edition = ((line ≡ first_header) × (edition ≡ 1)) ⊎ (((line ≡ second_header) × (edition ≡ 2)) ⊎ ((line ≡ third_header) × (edition ≡ 3)))

abbrev Right : List ℕ → Option ℕ → Type 0
Right line h = is_wrong h ≡ false → Headed line (edition_of h)

pub heading_right : (line : List ℕ) → is_wrong (heading_of line) ≡ false → Headed line (edition_of (heading_of line))
unfolding heading_of
heading_right line =
    either (Right line) (same_bytes line first_header) (λ e h. inl (same_equal line first_header e, refl))
    (λ _. either (Right line) (same_bytes line second_header) (λ e h. inr (inl (same_equal line second_header e, refl)))
    (λ _. either (Right line) (same_bytes line third_header) (λ e h. inr (inr (same_equal line third_header e, refl)))
    (λ e h. absurd (never refl h))))

-- so it has some bytes, and the lines behind it can be numbered
pub heading_long : (line : List ℕ) → is_wrong (heading_of line) ≡ false → 2 ≤ length line
heading_long line h =
    ⊎_elim (λ e. omega (arith, ap length e.0)) (λ e. ⊎_elim (λ e. omega (arith, ap length e.0)) (λ e. omega (arith, ap length e.0)) e) (heading_right line h)

-- the first line behind the heading opens no deal
pub second_wrong : (text : List ℕ) → not (all_pass (take 1 (lines_of text)) opens_deal) ≡ own_first text
unfolding own_first
second_wrong [] = ap (λ ls. not (all_pass (take 1 ls) opens_deal)) no_lines
second_wrong (b ∷ bs) =
    ap (λ ls. not (all_pass (take 1 ls) opens_deal)) (lines_first b bs) ∙ go (opens_deal (first_line (b ∷ bs))) (opens_deal (b ∷ bs)) (opens_first (b ∷ bs))
  where
    go : (t u : Bool) → t ≡ u → not (t && true) ≡ not u
    go true u e = ap not e
    go false u e = ap not e

module _ (book : List ℕ) (places : ℕ) where
  -- a refused book has no deals answered
  none_answered : eqb (book_refusal book places) 0 ≡ false → answered_deals book places ≡ []
  unfolding answered_deals
  none_answered e = if_false _ _ _ e

  all_answered : eqb (book_refusal book places) 0 ≡ true → answered_deals book places ≡ deals_of book
  unfolding answered_deals
  all_answered e = if_true _ _ _ e

  pub refused_reply_lem : (refusal : ℕ) → eqb refusal 0 ≡ false → FirstIs refusal (book_tests book places) → book_reply book places ≡ refused_reply refusal
  unfolding book_refusal book_reply
  refused_reply_lem refusal h f =
      let e = first_is refusal (book_tests book places) f in
      let none = none_answered (ap (λ n. eqb n 0) e ∙ h) in
      rw (e, none)

  pub accepted_reply : NoneMet (book_tests book places) → book_reply book places ≡ record { refusal = 0; deals = length (deals_of book) }
  unfolding book_refusal book_reply
  accepted_reply n =
      let e = none_met (book_tests book places) n in
      let every = all_answered (ap (λ n. eqb n 0) e) in
      rw (e, every)

  pub reply_refusal : (book_reply book places).refusal ≡ book_refusal book places
  unfolding book_reply
  reply_refusal = refl

  pub reply_deals : (book_reply book places).deals ≡ length (answered_deals book places)
  unfolding book_reply
  reply_deals = refl

  -- as they are sent
  pub refused_sent : (r : BookRefusal) → book_refusal_number r ≡ book_refusal book places → reply_sent (Err r) ≡ book_reply book places
  unfolding reply_sent book_reply
  refused_sent r e = rw (e, none_answered (ap (λ n. eqb n 0) (sym e) ∙ book_refusal_some r))

  pub accepted_sent : {deals : ℕ} → book_refusal book places ≡ 0 → deals ≡ length (deals_of book) → reply_sent (Ok deals) ≡ book_reply book places
  unfolding reply_sent book_reply
  accepted_sent e d = rw (e, d, all_answered (ap (λ n. eqb n 0) e))

  -- an accepted book meets no test
  pub accepted_tests : book_refusal book places ≡ 0 → NoneMet (book_tests book places)
  unfolding book_refusal book_tests
  accepted_tests e = none_exactly (book_tests book places) refl e

-- so it has no more deals than the list has room for
pub enough : (book : List ℕ) (places : ℕ) → book_refusal book places ≡ 0 → 4 * length (deals_of book) ≤ places
unfolding book_tests
enough book places e = ltb-false places (4 * length (deals_of book)) (accepted_tests book places e).1.1.1.0

-- the list afterwards; after a refusal, and after none
pub results_made : (book before : List ℕ) → results_after book before ≡ overwrite (answers_from (book_edition book) 1 (answered_deals book (length before))) before
unfolding results_after
results_made book before = refl

pub refused_results : (book before : List ℕ) → eqb (book_refusal book (length before)) 0 ≡ false → results_after book before ≡ before
unfolding results_after
refused_results book before e =
    let none = none_answered book (length before) e in
    rw (none, no_answers)

pub accepted_results : (book before : List ℕ) → book_refusal book (length before) ≡ 0 → results_after book before ≡ overwrite (answers_from (book_edition book) 1 (deals_of book)) before
unfolding results_after
accepted_results book before e =
    let every = all_answered book (length before) (ap (λ n. eqb n 0) e) in
    rw every

-- what is answered has room in the list
pub answered_room : (book : List ℕ) (places : ℕ) → 4 * length (answered_deals book places) ≤ places
answered_room book places = go (eqb (book_refusal book places) 0) refl
  where
    go : (t : Bool) → eqb (book_refusal book places) 0 ≡ t → 4 * length (answered_deals book places) ≤ places
    go true e = rw (all_answered book places e) (enough book places (eqb-true (book_refusal book places) 0 e))
    go false e = rw (none_answered book places e) (omega arith)
