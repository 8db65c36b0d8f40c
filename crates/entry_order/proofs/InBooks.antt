-- The lines of a deal in any order, and a line of cash as two, in the answers of a book. 02: L7. Assumes nothing.
use Prim.Native.Nat.{ℕ, zero, suc, ◌+◌, ◌*◌, ◌<◌}
use mathlib.Core.Path.{◌≡◌, refl, sym, ap, ◌∙◌}
use mathlib.Core.Bool.{Bool, true, false}
use mathlib.Core.List.{List, [], ◌∷◌, ◌++◌, append_assoc, map}
use mathlib.Core.Logic.{◌⊎◌, inl, inr}
use native.Mathlib.Nat.{le_of_suc-le-suc, not-suc-le-zero}
use native.Mathlib.Omega.{arith}
use borrow.Author.Tests.{eq-eqb, eqb-true}
use lib.Dec.{eqb}
use lib.ListN.{drop, get_or, length, length-append, take}
use lib.Seq.{drop_at, drop-drop, take_at}
use Rattle.base.specs.Reordered.{Reordered}
use Rattle.base.proofs.Choice.{never}
use Rattle.base.proofs.Reordered.{backwards, brought, brought_reordered, map_reordered}
use Rattle.deal.specs.Records.{accepted, deal_with, record_allowed}
use Rattle.deal.specs.Terms.{terms_refusal}
use Rattle.deal.specs.Views.{view_of}
use Rattle.deal.specs.declared.terms.Terms.{Terms}
use Rattle.deal.specs.declared.deal.Deal.{Deal}
use Rattle.deal.proofs.Deals.{accepted_allowed, allowed_accepted, new_accepted}
use Rattle.deal_laws.proofs.Adding.{opened_holds}
use Rattle.deal_laws.proofs.Views.{view_of_record}
use Rattle.lines.specs.Lines.{line_of}
use Rattle.lines.specs.declared.line.Line.{Line}
use Rattle.book.specs.Answers.{answers_from, deal_answer, figures_of, lines_answer, opening_refusal}
use Rattle.book.specs.Deals.{DealLines}
use Rattle.book.specs.Opening.{opening_terms}
use Rattle.book.proofs.Answering.{answers_long, answers_more, componentwise, no_answers, opened_answer, opening_terms_lem, unopened_answer}
use Rattle.entry_order.specs.Keyed.{AlikeDeals, NotRefused, SameLines, refusal_in, row_at}
use Rattle.entry_order.specs.SameItems.{SameFigures, SameItems}
use Rattle.entry_order.proofs.Order.{same_figures}
use Rattle.entry_order.proofs.Taken.{Taken, all_taken, collateral_said, guarantees_said, taken_answered, taken_any_order}

-- ---- the deal that a deal's lines make
module _ (edition : ℕ) (deal : DealLines) where
  -- its terms, what its further lines say, and the deal with all items that they say
  abbrev pub terms : Terms
  terms = opening_terms (line_of edition deal.opening)

  abbrev pub said : List Line
  said = map (line_of terms.edition) deal.further

  abbrev pub keyed : Deal
  keyed = deal_with terms (brought collateral_said said) (brought guarantees_said said)

  opened : (e : opening_refusal (line_of edition deal.opening) ≡ 0) →
      deal_answer edition deal ≡ lines_answer deal.number (deal.number + 1) (deal_with terms [] []) deal.further
  opened e =
      opened_answer edition deal e
      ∙ ap (λ d. lines_answer deal.number (deal.number + 1) d deal.further) (opened_holds terms (opening_terms_lem (line_of edition deal.opening) e))

  empty_allowed : terms_refusal terms ≡ 0 → record_allowed (deal_with terms [] []) ≡ true
  empty_allowed e = ap record_allowed (sym (opened_holds terms e)) ∙ accepted_allowed _ (new_accepted terms e)

  -- no line is refused: the line that opens it is not, and the others are all taken
  pub record AllTaken : Type 0 where
    pub opening : opening_refusal (line_of edition deal.opening) ≡ 0
    pub lines : Taken [] [] said

  pub not_refused_taken : NotRefused edition deal → AllTaken
  not_refused_taken e = go (eqb (opening_refusal (line_of edition deal.opening)) 0) refl
    where
      go : (b : Bool) → eqb (opening_refusal (line_of edition deal.opening)) 0 ≡ b → AllTaken
      go true q =
          let o = eqb-true _ 0 q in
          record {
            opening = o;
            lines = all_taken terms deal.number (deal.number + 1) deal.further [] [] (empty_allowed (opening_terms_lem (line_of edition deal.opening) o)) (ap refusal_in (sym (opened o)) ∙ e);
          }
      go false q = absurd (never (eq-eqb _ 0 (ap refusal_in (sym (unopened_answer edition deal q)) ∙ e)) q)

  -- and then the answer is the figures of that deal, which is accepted
  pub taken_keyed : AllTaken → (deal_answer edition deal ≡ figures_of keyed) × (accepted keyed ≡ true)
  taken_keyed k =
      let a = taken_answered terms deal.number (deal.number + 1) deal.further [] [] (empty_allowed (opening_terms_lem (line_of edition deal.opening) k.opening)) k.lines in
      (opened k.opening ∙ a.0, allowed_accepted keyed a.1)

-- the same figures, the same answer
pub same_answer : (d d' : Deal) → SameFigures d d' → figures_of d ≡ figures_of d'
same_answer d d' s = componentwise refl s.exposure s.rwa

-- ---- any order of the further lines
module _ (edition : ℕ) (opening : List ℕ) (number number' : ℕ) (further further' : List (List ℕ)) (r : Reordered further further') where
  abbrev one : DealLines
  one = record { number = number; opening = opening; further = further }

  abbrev other : DealLines
  other = record { number = number'; opening = opening; further = further' }

  said_any_order : Reordered (said edition one) (said edition other)
  said_any_order = map_reordered (line_of (terms edition one).edition) r

  also_taken : AllTaken edition one → AllTaken edition other
  also_taken k = record { opening = k.opening; lines = taken_any_order [] [] said_any_order k.lines }

  keyed_any_order : SameItems (view_of (keyed edition one)) (view_of (keyed edition other))
  keyed_any_order =
      rw (
        view_of_record (record { terms = terms edition one; collateral = brought collateral_said (said edition one); guarantees = brought guarantees_said (said edition one) }),
        view_of_record (record { terms = terms edition one; collateral = brought collateral_said (said edition other); guarantees = brought guarantees_said (said edition other) }),
      )
      (record { terms = refl; collateral = brought_reordered collateral_said said_any_order; guarantees = brought_reordered guarantees_said said_any_order })

  answers_any_order : AllTaken edition one → deal_answer edition one ≡ deal_answer edition other
  answers_any_order k =
      let a = taken_keyed edition one k in
      let b = taken_keyed edition other (also_taken k) in
      a.0 ∙ same_answer _ _ (same_figures (keyed edition one) (keyed edition other) a.1 b.1 keyed_any_order) ∙ sym b.0

-- THE LAW: a deal of a book none of whose lines is refused has its answer in every order of its further lines
pub same_lines_answer : (edition : ℕ) (deal deal' : DealLines) → SameLines deal deal' → NotRefused edition deal → deal_answer edition deal ≡ deal_answer edition deal'
same_lines_answer edition deal deal' same e =
    answers_any_order edition deal.opening deal.number deal'.number deal.further deal'.further same.further (not_refused_taken edition deal e)
    ∙ ap (λ o. deal_answer edition (record { number = deal'.number; opening = o; further = deal'.further })) same.opening

-- so it is refused in every order or in none
pub refused_alike : (edition : ℕ) (deal deal' : DealLines) → SameLines deal deal' →
    (NotRefused edition deal → NotRefused edition deal') × (NotRefused edition deal' → NotRefused edition deal)
refused_alike edition deal deal' same = (
  λ e. ap refusal_in (sym (same_lines_answer edition deal deal' same e)) ∙ e,
  λ e. ap refusal_in (sym (same_lines_answer edition deal' deal (record { opening = sym same.opening; further = backwards same.further }) e)) ∙ e,
)

-- ---- the answers to several deals
module _ (edition : ℕ) where
  -- all of them, where each is the same or none of its lines is refused
  alike_answer : (d e : DealLines) → (d ≡ e) ⊎ (SameLines d e × NotRefused edition d) → deal_answer edition d ≡ deal_answer edition e
  alike_answer d e (inl same) = ap (deal_answer edition) same
  alike_answer d e (inr (s, h)) = same_lines_answer edition d e s h

  pub alike_answers : (serial : ℕ) (ds es : List DealLines) → AlikeDeals edition ds es → answers_from edition serial ds ≡ answers_from edition serial es
  alike_answers serial [] [] a = refl
  alike_answers serial [] (e ∷ es) a = elim a [ ]
  alike_answers serial (d ∷ ds) [] a = elim a [ ]
  alike_answers serial (d ∷ ds) (e ∷ es) a =
      answers_more edition serial d ds
      ∙ ap (λ (x : List ℕ). serial ∷ (x ++ answers_from edition (serial + 1) ds)) (alike_answer d e a.0)
      ∙ ap (λ (x : List ℕ). serial ∷ (deal_answer edition e ++ x)) (alike_answers (serial + 1) ds es a.1)
      ∙ sym (answers_more edition serial e es)

  three : (deal : DealLines) → length (deal_answer edition deal) ≡ 3
  three deal =
      let four = answers_long edition 1 (deal ∷ []) in
      let more = answers_more edition 1 deal [] in
      omega (arith, four, ap length more, length-append (deal_answer edition deal) (answers_from edition 2 []), ap length (no_answers edition 2))

  parted : (serial : ℕ) (d : DealLines) (ds : List DealLines) (rest : List ℕ) →
      answers_from edition serial (d ∷ ds) ++ rest ≡ (serial ∷ deal_answer edition d) ++ (answers_from edition (serial + 1) ds ++ rest)
  parted serial d ds rest =
      ap (λ (l : List ℕ). l ++ rest) (answers_more edition serial d ds)
      ∙ ap (λ (l : List ℕ). serial ∷ l) (append_assoc (deal_answer edition d) (answers_from edition (serial + 1) ds) rest)

  -- of each by its place, whatever stands behind them
  pub row_of : (none : DealLines) (serial k : ℕ) (ds : List DealLines) (rest : List ℕ) → k < length ds →
      row_at k (answers_from edition serial ds ++ rest) ≡ (serial + k) ∷ deal_answer edition (get_or ds k none)
  row_of none serial k [] rest h = absurd (not-suc-le-zero h)
  row_of none serial zero (d ∷ ds) rest h =
      let e : serial ≡ serial + zero = omega arith in
      ap (take 4) (parted serial d ds rest)
      ∙ take_at (serial ∷ deal_answer edition d) _ 4 (ap suc (three d))
      ∙ ap (λ n. n ∷ deal_answer edition d) e
  row_of none serial (suc k) (d ∷ ds) rest h =
      let later = answers_from edition (serial + 1) ds ++ rest in
      let far : 4 * suc k ≡ 4 + 4 * k = omega arith in
      let e : serial + 1 + k ≡ serial + suc k = omega arith in
      ap (λ n. take 4 (drop n (answers_from edition serial (d ∷ ds) ++ rest))) far
      ∙ ap (take 4) (sym (drop-drop (4 * k) 4 (answers_from edition serial (d ∷ ds) ++ rest)))
      ∙ ap (λ l. take 4 (drop (4 * k) (drop 4 l))) (parted serial d ds rest)
      ∙ ap (λ l. take 4 (drop (4 * k) l)) (drop_at (serial ∷ deal_answer edition d) later 4 (ap suc (three d)))
      ∙ row_of none (serial + 1) k ds rest (le_of_suc-le-suc h)
      ∙ ap (λ n. n ∷ deal_answer edition (get_or ds k none)) e
