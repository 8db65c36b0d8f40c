-- A deal's answer depends on its own lines, its serial and its line number, and on nothing else in the book. Assumes nothing.
use Prim.Native.Nat.{ℕ, suc, ◌+◌, ◌*◌}
use mathlib.Core.Path.{◌≡◌, refl, sym, ◌∙◌, ap}
use mathlib.Core.Bool.{true}
use mathlib.Core.List.{List, [], ◌∷◌, ◌++◌, append_assoc, append-nil}
use mathlib.Core.Logic.{inl, ⊎_elim}
use native.Mathlib.Omega.{arith}
use lib.ListN.{length, take, drop}
use lib.Seq.{take_at, drop_at}
use Rattle.base.specs.All.{all_pass}
use Rattle.text.specs.Text.{first_line, lines_of, same_bytes, starts_with}
use Rattle.text.proofs.Lines.{no_lines}
use Rattle.book.specs.Deals.{DealLines, opens_deal, deals_from}
use Rattle.book.specs.Answers.{deal_answer, answers_from}
use Rattle.book.specs.Heading.{first_header, heading_of, second_header}
use Rattle.book.specs.Book.{book_edition, book_refusal, results_after, text_behind}
use Rattle.book.proofs.Answering.{no_answers, answers_more, answers_long}
use Rattle.book.proofs.Grouping.{deals_counted}
use Rattle.book.proofs.Refusing.{accepted_results}
use Rattle.book_laws.specs.Parts.{deals_in, lines_in, StartsDeal, answers_to, ended, Parted}
use Rattle.book_laws.proofs.Following.{lines_append, deals_append}

answers_append : (edition serial : ℕ) (ds es : List DealLines) → answers_from edition serial (ds ++ es) ≡ answers_from edition serial ds ++ answers_from edition (serial + length ds) es
answers_append edition serial [] es =
    let e : serial ≡ serial + 0 = omega arith in
    rw (no_answers edition serial) (ap (λ n. answers_from edition n es) e)
answers_append edition serial (d ∷ ds) es =
    let e : serial + 1 + length ds ≡ serial + suc (length ds) = omega arith in
    answers_more edition serial d (ds ++ es)
    ∙ ap (λ xs. serial ∷ (deal_answer edition d ++ xs)) (answers_append edition (serial + 1) ds es ∙ ap (λ n. answers_from edition (serial + 1) ds ++ answers_from edition n es) e)
    ∙ ap (λ xs. serial ∷ xs) (sym (append_assoc (deal_answer edition d) (answers_from edition (serial + 1) ds) (answers_from edition (serial + suc (length ds)) es)))
    ∙ ap (λ xs. xs ++ answers_from edition (serial + suc (length ds)) es) (sym (answers_more edition serial d ds))

lines_follow : (first second : List ℕ) → Parted first second → lines_of (first ++ second) ≡ lines_of first ++ lines_of second
lines_follow first second f = ⊎_elim (lines_append first second) nothing f
  where
    nothing : second ≡ [] → lines_of (first ++ second) ≡ lines_of first ++ lines_of second
    nothing e = rw (e, no_lines, append-nil first, append-nil (lines_of first))

starts_follow : (first second : List ℕ) → Parted first second → StartsDeal first → StartsDeal second → StartsDeal (first ++ second)
starts_follow first second f s t = ap (λ ls. all_pass (take 1 ls) opens_deal) (lines_follow first second f) ∙ go (lines_of first) s
  where
    go : (ls : List (List ℕ)) → all_pass (take 1 ls) opens_deal ≡ true → all_pass (take 1 (ls ++ lines_of second)) opens_deal ≡ true
    go [] h = t
    go (l ∷ ls) h = h

answers_follow : (edition serial number : ℕ) (first second : List ℕ) → Parted first second → StartsDeal second
    → answers_to edition serial number (first ++ second) ≡ answers_to edition serial number first ++ answers_to edition (serial + deals_in first) (number + lines_in first) second
answers_follow edition serial number first second f s =
    ap (λ ls. answers_from edition serial (deals_from number ls)) (lines_follow first second f)
    ∙ ap (answers_from edition serial) (deals_append number (lines_of first) (lines_of second) s)
    ∙ answers_append edition serial (deals_from number (lines_of first)) (deals_from (number + lines_in first) (lines_of second))
    ∙ ap (λ k. answers_to edition serial number first ++ answers_to edition (serial + k) (number + lines_in first) second) (deals_counted number 2 (lines_of first))

to_long : (edition serial number : ℕ) (text : List ℕ) → length (answers_to edition serial number text) ≡ 4 * deals_in text
to_long edition serial number text = answers_long edition serial (deals_from number (lines_of text)) ∙ ap (λ k. 4 * k) (deals_counted number 2 (lines_of text))

-- the second part of a list that is made of parts
part_behind : (n k : ℕ) (first second rest : List ℕ) → length first ≡ n → length second ≡ k → take k (drop n ((first ++ second) ++ rest)) ≡ second
part_behind n k first second rest e h =
    ap (λ xs. take k (drop n xs)) (append_assoc first second rest)
    ∙ ap (take k) (drop_at first (second ++ rest) n e)
    ∙ take_at second rest k h

-- any text may stand behind a heading, and the book then has its edition
pub behind_heading : (text : List ℕ) →
    ((text_behind (first_header ++ text) ≡ text) × (book_edition (first_header ++ text) ≡ 1))
    × ((text_behind (second_header ++ text) ≡ text) × (book_edition (second_header ++ text) ≡ 2))
unfolding first_line heading_of same_bytes starts_with
behind_heading text = ((refl, refl), (refl, refl))

module _ (book before own after list : List ℕ) (e : text_behind book ≡ before ++ (own ++ after)) (b : ended before ≡ true) (f : Parted own after) (s : StartsDeal own) (t : StartsDeal after) where
  abbrev edition : ℕ
  edition = book_edition book

  abbrev own_answers : List ℕ
  own_answers = answers_to edition (1 + deals_in before) (2 + lines_in before) own

  abbrev later : List ℕ
  later = answers_to edition (1 + deals_in before + deals_in own) (2 + lines_in before + lines_in own) after

  all_answers : answers_to edition 1 2 (text_behind book) ≡ (answers_to edition 1 2 before ++ own_answers) ++ later
  all_answers =
      ap (answers_to edition 1 2) e
      ∙ answers_follow edition 1 2 before (own ++ after) (inl b) (starts_follow own after f s t)
      ∙ ap (λ xs. answers_to edition 1 2 before ++ xs) (answers_follow edition (1 + deals_in before) (2 + lines_in before) own after f t)
      ∙ sym (append_assoc (answers_to edition 1 2 before) own_answers later)

  -- "In an accepted book no other line but the header affects its answer, save by being counted in serials and line numbers": the answers to
  -- the deals of a part of a book are made from that part, the edition that the header says, the serial of its first deal and the number of
  -- its first line
  pub answers_apart : book_refusal book (length list) ≡ 0 → take (4 * deals_in own) (drop (4 * deals_in before) (results_after book list)) ≡ own_answers
  answers_apart h =
      let rest = drop (length (answers_to edition 1 2 (text_behind book))) list in
      ap (λ xs. take (4 * deals_in own) (drop (4 * deals_in before) xs)) (
      accepted_results book list h
      ∙ ap (λ xs. xs ++ rest) all_answers
      ∙ append_assoc (answers_to edition 1 2 before ++ own_answers) later rest
      )
      ∙ part_behind (4 * deals_in before) (4 * deals_in own) (answers_to edition 1 2 before) own_answers (later ++ rest) (to_long edition 1 2 before) (to_long edition (1 + deals_in before) (2 + lines_in before) own)

-- so the other lines may be replaced by any others with as many lines and deals before this part, under the same edition
pub answers_unmoved : (book book' before before' own after after' list list' : List ℕ)
    → book_edition book ≡ book_edition book' → text_behind book ≡ before ++ (own ++ after) → text_behind book' ≡ before' ++ (own ++ after')
    → ended before ≡ true → ended before' ≡ true → Parted own after → Parted own after' → StartsDeal own → StartsDeal after → StartsDeal after'
    → lines_in before ≡ lines_in before' → deals_in before ≡ deals_in before'
    → book_refusal book (length list) ≡ 0 → book_refusal book' (length list') ≡ 0
    → take (4 * deals_in own) (drop (4 * deals_in before) (results_after book list)) ≡ take (4 * deals_in own) (drop (4 * deals_in before') (results_after book' list'))
answers_unmoved book book' before before' own after after' list list' edition e e' b b' f f' s t t' lines deals h h' =
    answers_apart book before own after list e b f s t h
    ∙ ap (λ k. answers_to (book_edition book) (1 + k) (2 + lines_in before) own) deals
    ∙ ap (λ n. answers_to (book_edition book) (1 + deals_in before') (2 + n) own) lines
    ∙ ap (λ e. answers_to e (1 + deals_in before') (2 + lines_in before') own) edition
    ∙ sym (answers_apart book' before' own after' list' e' b' f' s t' h')

-- and a book with one more deal at its end, or several, keeps the earlier answers
pub earlier_kept : (book longer more list : List ℕ) → book_edition longer ≡ book_edition book → text_behind longer ≡ text_behind book ++ more → ended (text_behind book) ≡ true → StartsDeal more
    → book_refusal book (length list) ≡ 0 → book_refusal longer (length list) ≡ 0
    → take (4 * deals_in (text_behind book)) (results_after longer list) ≡ take (4 * deals_in (text_behind book)) (results_after book list)
earlier_kept book longer more list edition e f s h h' =
    let text = text_behind book in
    let to = answers_to (book_edition book) in
    let long = to_long (book_edition book) 1 2 text in
    let new = to (1 + deals_in text) (2 + lines_in text) more in
    let rest = drop (length (answers_to (book_edition longer) 1 2 (text_behind longer))) list in
    ap (take (4 * deals_in text)) (
    accepted_results longer list h'
    ∙ ap (λ xs. xs ++ rest) (ap (λ e. answers_to e 1 2 (text_behind longer)) edition ∙ ap (to 1 2) e ∙ answers_follow (book_edition book) 1 2 text more (inl f) s)
    ∙ append_assoc (to 1 2 text) new rest
    )
    ∙ take_at (to 1 2 text) (new ++ rest) (4 * deals_in text) long
    ∙ sym (ap (take (4 * deals_in text)) (accepted_results book list h) ∙ take_at (to 1 2 text) _ (4 * deals_in text) long)
