-- The answers to a book's deals while they are written: those in the list and those of the deals to come make all of them. Assumes nothing.
use Prim.Native.Nat.{ℕ, ◌+◌, ◌*◌, ◌-◌, ◌≤◌, ◌<◌}
use mathlib.Core.Path.{◌≡◌, sym, ◌∙◌, ap}
use mathlib.Core.Bool.{true, false}
use mathlib.Core.List.{List, [], ◌∷◌, ◌++◌, append_assoc, append-nil}
use native.Mathlib.Omega.{arith}
use lib.ListN.{length, take, drop, length-drop, take-append-drop}
use lib.Seq.{drop-drop, length-take-le, paste, take-paste, drop-paste, length-paste}
use Rattle.text.specs.Text.{lines_of}
use Rattle.text.proofs.Lines.{no_lines_at}
use Rattle.base.specs.Writing.{overwrite}
use Rattle.book.specs.Deals.{DealLines, deals_from, opens_deal}
use Rattle.book.specs.Answers.{answers_from, deal_answer}
use Rattle.book.specs.Start.{own_first, first_deal}
use Rattle.book.specs.Reading.{DealRead}
use Rattle.book.proofs.Grouping.{deals_first, no_deals, own_opens}
use Rattle.book.proofs.Answering.{answers_more, no_answers}

abbrev pub to_come : List ℕ → ℕ → ℕ → List DealLines
to_come lines at number = deals_from number (lines_of (drop at lines))

pub record Holds (edition : ℕ) (lines before results : List ℕ) (at number deals : ℕ) : Type 0 where
  pub written : take (deals * 4) results ++ answers_from edition (deals + 1) (to_come lines at number) ≡ answers_from edition 1 (to_come lines 0 2)
  pub behind : drop (deals * 4) results ≡ drop (deals * 4) before
  pub inside : at ≤ length lines
  pub numbered : number ≤ at + 2
  pub few : deals ≤ at
  pub begins : own_first (drop at lines) ≡ false
  pub same : length results ≡ length before
  pub room : (deals + length (to_come lines at number)) * 4 ≤ length before

-- one deal more
module _
    {edition : ℕ} {lines before results : List ℕ} {at number deals : ℕ} (h : Holds edition lines before results at number deals) (k : at < length lines)
    {end next : ℕ} (read : DealRead number (drop at lines) end next)
    {refusal figure rwa : ℕ} (answered : deal_answer edition (first_deal number (drop at lines)) ≡ refusal ∷ figure ∷ rwa ∷ []) where
  abbrev rest : List ℕ
  rest = drop at lines

  abbrev pub four : List ℕ
  four = (deals + 1) ∷ refusal ∷ figure ∷ rwa ∷ []

  long : length rest ≡ length lines - at
  long = length-drop at lines

  opens : opens_deal rest ≡ true
  opens = own_opens rest h.begins (omega (arith, long, k))

  further : drop end rest ≡ drop (at + end) lines
  further = drop-drop end at lines

  one_less : to_come lines at number ≡ first_deal number rest ∷ to_come lines (at + end) next
  one_less = deals_first number rest opens ∙ ap (λ ds. first_deal number rest ∷ ds) (read.others ∙ ap (λ t. deals_from next (lines_of t)) further)

  fewer : length (to_come lines at number) ≡ length (to_come lines (at + end) next) + 1
  fewer = ap length one_less ∙ omega arith

  pub fits : deals * 4 + 4 ≤ length results
  fits = omega (arith, fewer, h.room, h.same)

  after : answers_from edition (deals + 1) (to_come lines at number) ≡ four ++ answers_from edition (deals + 1 + 1) (to_come lines (at + end) next)
  after =
      ap (answers_from edition (deals + 1)) one_less
      ∙ answers_more edition (deals + 1) (first_deal number rest) (to_come lines (at + end) next)
      ∙ ap (λ xs. (deals + 1) ∷ (xs ++ answers_from edition (deals + 1 + 1) (to_come lines (at + end) next))) answered

  abbrev pub results' : List ℕ
  results' = paste results (deals * 4) four 4

  abbrev place : ℕ
  place = (deals + 1) * 4

  placed : place ≡ deals * 4 + 4
  placed = omega arith

  pub step : Holds edition lines before results' (at + end) next (deals + 1)
  step =
      let inner : deals * 4 ≤ length results = omega (arith, fits) in
      let four-long : 4 ≤ 4 = omega arith in
      record {
        inside = omega (arith, read.inside, long, h.inside);
        numbered = omega (arith, read.numbered, h.numbered);
        few = omega (arith, read.some, h.few);
        begins = ap own_first (sym further) ∙ read.begins;
        same = length-paste results (deals * 4) four 4 fits four-long ∙ h.same;
        room = omega (arith, fewer, h.room);
        written =
            ap (λ n. take n results' ++ answers_from edition (deals + 1 + 1) (to_come lines (at + end) next)) placed
            ∙ ap (λ xs. xs ++ answers_from edition (deals + 1 + 1) (to_come lines (at + end) next)) (take-paste results (deals * 4) four 4 inner four-long)
            ∙ append_assoc (take (deals * 4) results) four (answers_from edition (deals + 1 + 1) (to_come lines (at + end) next))
            ∙ ap (λ xs. take (deals * 4) results ++ xs) (sym after)
            ∙ h.written;
        behind =
            ap (λ n. drop n results') placed
            ∙ drop-paste results (deals * 4) four 4 inner four-long
            ∙ sym (drop-drop 4 (deals * 4) results)
            ∙ ap (drop 4) h.behind
            ∙ drop-drop 4 (deals * 4) before
            ∙ ap (λ n. drop n before) (sym placed);
      }

-- and at the end
pub all_written : {edition : ℕ} {lines before results : List ℕ} {at number deals : ℕ} → Holds edition lines before results at number deals → length lines ≤ at →
    results ≡ overwrite (answers_from edition 1 (deals_from 2 (lines_of lines))) before
all_written {edition} {lines} {before} {results} {at} {number} {deals} h k =
    let none : answers_from edition (deals + 1) (to_come lines at number) ≡ [] = rw (no_lines_at lines at k, no_deals, no_answers) in
    let all : take (deals * 4) results ≡ answers_from edition 1 (to_come lines 0 2) =
    sym (append-nil (take (deals * 4) results)) ∙ ap (λ xs. take (deals * 4) results ++ xs) (sym none) ∙ h.written in
    let fits : deals * 4 ≤ length results = omega (arith, h.room, h.same) in
    let count : deals * 4 ≡ length (answers_from edition 1 (to_come lines 0 2)) = sym (length-take-le (deals * 4) results fits) ∙ ap length all in
    sym (take-append-drop (deals * 4) results)
    ∙ ap (λ xs. xs ++ drop (deals * 4) results) all
    ∙ ap (λ xs. answers_from edition 1 (to_come lines 0 2) ++ xs) (h.behind ∙ ap (λ n. drop n before) count)
