-- The claim about entry order is met. Assumes nothing.
use Prim.Native.Nat.{ℕ, ◌+◌, ◌<◌}
use mathlib.Core.Path.{◌≡◌, refl, sym, ap, ◌∙◌}
use mathlib.Core.Bool.{true}
use mathlib.Core.List.{List, [], ◌∷◌, ◌++◌, map}
use mathlib.Core.Logic.{inr}
use native.Mathlib.Omega.{arith}
use borrow.Author.Tests.{le-ltb}
use lib.Dec.{eqb}
use lib.ListN.{get_or, length, length-append, replicate}
use lib.Seq.{get_or_at}
use Rattle.base.specs.Reordered.{Inserted, Reordered, SameCounts, how_many}
use Rattle.base.specs.Sum.{sum_of}
use Rattle.base.proofs.Reordered.{between, inserted_behind, same_counts}
use Rattle.text.specs.Bytes.{byte}
use Rattle.cover_laws.proofs.AnyOrder.{any_order, by_hand, each_weight_any_order}
use Rattle.deal.specs.Editions.{table_for}
use Rattle.deal.specs.Records.{accepted, deal_with}
use Rattle.deal.specs.Views.{View, accepted_view, view_of}
use Rattle.deal.specs.declared.terms.Terms.{Terms}
use Rattle.deal.specs.declared.collateral.Collateral.{Collateral}
use Rattle.deal.specs.declared.guarantee.Guarantee.{Guarantee}
use Rattle.deal.specs.declared.deal.Deal.{Deal}
use Rattle.deal_laws.proofs.Views.{accepted_view_lem, can_be_made, view_of_record}
use Rattle.relief.specs.Report.{report_of}
use Rattle.relief.proofs.Computed.{computed}
use Rattle.lines.specs.Lines.{line_of}
use Rattle.lines.specs.declared.line.Line.TheVariants.{CollateralLine, DealLine}
use Rattle.book.specs.Answers.{deal_answer}
use Rattle.book.specs.Book.{book_edition, book_refusal, deals_of, results_after}
use Rattle.book.specs.Deals.{DealLines}
use Rattle.book.proofs.Examples.{worked}
use Rattle.response.specs.Response.{printed}
use Rattle.entry_order.specs.Keyed.{AlikeDeals, SameLines, deal_at, no_lines}
use Rattle.entry_order.specs.SameItems.{SameFigures, SameItems}
use Rattle.entry_order.specs.Split.{MatchedCash, Split, with_amount}
use Rattle.entry_order.proofs.Counts.{collateral_by_counts, guarantees_by_counts, lines_by_counts}
use Rattle.entry_order.proofs.InBooks.{refused_alike, same_lines_answer}
use Rattle.entry_order.proofs.LinesInTwo.{line_in_two_answer}
use Rattle.entry_order.proofs.Order.{accepted_any_order, same_figures, same_rest}
use Rattle.entry_order.proofs.Outcomes.{same_collateral_outcomes, same_guarantee_outcomes}
use Rattle.entry_order.proofs.Splitting.{accepted_split, no_place_left, split_figures}
use Rattle.entry_order.proofs.WholeBooks.{row_is, same_printed, same_refusal, same_row}
use Rattle.claims.specs.EntryOrder.{Answered, BothAccepted, CashOf, EntryOrder, SameReported, bank_guarantee, cash_line, exposure_with, forty_line, header, in_two, keyed, keyed_as, loan_line, pledge, rekeyed, repeated, row_of, shared_by, sixty_line, step_line, type_line}

-- ---- deals
matched : (t : Terms) (c : Collateral) → CashOf t c → MatchedCash t c
matched t c k = record { goods = k.goods; currency = k.currency; matched = le-ltb _ _ k.matched }

split_of : (t : Terms) (c : Collateral) (first second : ℕ) (others some : List Collateral) {cs cs' : List Collateral} → CashOf t c → first + second ≡ c.amount →
    Inserted c others cs → Inserted (with_amount first c) others some → Inserted (with_amount second c) some cs' → Split t cs cs'
split_of t c first second others some k e i j l = record {
  item = c;
  is_cash = matched t c k;
  first = first;
  second = second;
  adds_up = e;
  others = others;
  with_first = some;
  item_there = i;
  first_there = j;
  second_there = l;
}

reported : {d d' : Deal} → SameFigures d d' → SameReported d d'
reported s = (s.exposure, s.rwa)

module _ (d d' : Deal) (b : BothAccepted d d') where
  same_items : Reordered (view_of d).collateral (view_of d').collateral → Reordered (view_of d).guarantees (view_of d').guarantees → SameItems (view_of d) (view_of d')
  same_items cs gs = record { terms = b.terms; collateral = cs; guarantees = gs }

  inserted : Reordered (view_of d).collateral (view_of d').collateral → Reordered (view_of d).guarantees (view_of d').guarantees → SameReported d d'
  inserted cs gs = reported (same_figures d d' b.first b.second (same_items cs gs))

  rest : Reordered (view_of d).collateral (view_of d').collateral → Reordered (view_of d).guarantees (view_of d').guarantees → (report_of d).uncovered ≡ (report_of d').uncovered
  rest cs gs = same_rest d d' b.first b.second (same_items cs gs)

  outcomes : Reordered (view_of d).collateral (view_of d').collateral → Reordered (view_of d).guarantees (view_of d').guarantees →
      Reordered (report_of d).collateral (report_of d').collateral × Reordered (map (λ r. r.outcome) (report_of d).guarantees) (map (λ r. r.outcome) (report_of d').guarantees)
  outcomes cs gs = (same_collateral_outcomes d d' b.first b.second (same_items cs gs), same_guarantee_outcomes d d' b.first b.second (same_items cs gs))

  in_parts : (view_of d).guarantees ≡ (view_of d').guarantees → (c : Collateral) (first second : ℕ) (others some : List Collateral) → CashOf d.terms c → first + second ≡ c.amount →
      Inserted c others (view_of d).collateral → Inserted (with_amount first c) others some → Inserted (with_amount second c) some (view_of d').collateral →
      SameReported d d'
  in_parts g c first second others some k e i j l =
      reported (split_figures d d' b.first b.second (record { terms = b.terms; collateral = split_of d.terms c first second others some k e i j l; guarantees = g }))

-- the parts of a list in the middle of others
parts_behind : (d d' : Deal) → BothAccepted d d' → (view_of d).guarantees ≡ (view_of d').guarantees →
    (before between behind : List Collateral) (c : Collateral) (first second : ℕ) → CashOf d.terms c → first + second ≡ c.amount →
    (view_of d).collateral ≡ before ++ c ∷ (between ++ behind) →
    (view_of d').collateral ≡ before ++ with_amount first c ∷ (between ++ with_amount second c ∷ behind) →
    SameReported d d'
parts_behind d d' b g before between behind c first second k e whole parts =
    in_parts d d' b g c first second (before ++ (between ++ behind)) (before ++ with_amount first c ∷ (between ++ behind)) k e
    (rw whole (inserted_behind c before (between ++ behind)))
    (inserted_behind (with_amount first c) before (between ++ behind))
    (rw parts (inserted_in before (Inserted.later (inserted_behind (with_amount second c) between behind))))
  where
    inserted_in : {x : Collateral} {xs ys : List Collateral} (front : List Collateral) → Inserted x xs ys → Inserted x (front ++ xs) (front ++ ys)
    inserted_in [] i = i
    inserted_in (f ∷ front) i = Inserted.later (inserted_in front i)

-- what an accepted deal's terms and other lists make: it is accepted where its view is, and holds them
module _ (d : Deal) (a : accepted d ≡ true) where
  abbrev view : List Collateral → List Guarantee → View
  view cs gs = record { terms = d.terms; collateral = cs; guarantees = gs }

  abbrev other : List Collateral → List Guarantee → Deal
  other cs gs = deal_with d.terms cs gs

  both : (cs : List Collateral) (gs : List Guarantee) → accepted (other cs gs) ≡ true → BothAccepted d (other cs gs)
  both cs gs a' = record { first = a; second = a'; terms = refl }

  holds : (cs : List Collateral) (gs : List Guarantee) → view_of (other cs gs) ≡ view cs gs
  holds cs gs = view_of_record (view cs gs)

  made : (cs : List Collateral) (gs : List Guarantee) → accepted_view (view cs gs) ≡ true → accepted (other cs gs) ≡ true
  made cs gs h = (can_be_made (view cs gs) h).0

  order_taken : (cs : List Collateral) (gs : List Guarantee) → Reordered (view_of d).collateral cs → Reordered (view_of d).guarantees gs →
      (accepted (other cs gs) ≡ true) × SameReported d (other cs gs)
  order_taken cs gs r s =
      let same : SameItems (view_of d) (view cs gs) = record { terms = refl; collateral = r; guarantees = s } in
      let a' = made cs gs (accepted_any_order (table_for d.terms) (view_of d) (view cs gs) same (accepted_view_lem d a)) in
      (a', inserted d (other cs gs) (both cs gs a') (rw (ap (λ v. v.collateral) (holds cs gs)) r) (rw (ap (λ v. v.guarantees) (holds cs gs)) s))

  split_taken : (c : Collateral) (first second : ℕ) (others some cs : List Collateral) → CashOf d.terms c → first + second ≡ c.amount →
      Inserted c others (view_of d).collateral → Inserted (with_amount first c) others some → Inserted (with_amount second c) some cs → length (view_of d).collateral < 16 →
      (accepted (other cs (view_of d).guarantees) ≡ true) × SameReported d (other cs (view_of d).guarantees)
  split_taken c first second others some cs k e i j l room =
      let gs = (view_of d).guarantees in
      let a' = made cs gs (accepted_split d.terms gs c first second e i j l (accepted_view_lem d a) room) in
      (a', in_parts d (other cs gs) (both cs gs a') (sym (ap (λ v. v.guarantees) (holds cs gs))) c first second others some k e i j (rw (ap (λ v. v.collateral) (holds cs gs)) l))

-- ---- books
module _ (number number' : ℕ) (opening : List ℕ) (further further' : List (List ℕ)) where
  abbrev one : DealLines
  one = keyed_as number opening further

  abbrev another : DealLines
  another = keyed_as number' opening further'

  same_lines : SameCounts further further' → SameLines one another
  same_lines c = record { opening = refl; further = lines_by_counts further further' c }

  in_two_lem : (edition : ℕ) (others some : List (List ℕ)) (line first_line' second_line : List ℕ) (t : Terms) (c : Collateral) (first second : ℕ) →
      line_of edition opening ≡ DealLine t → CashOf t c → first + second ≡ c.amount →
      line_of edition line ≡ CollateralLine c → line_of edition first_line' ≡ CollateralLine (with_amount first c) → line_of edition second_line ≡ CollateralLine (with_amount second c) →
      Inserted line others further → Inserted first_line' others some → Inserted second_line some further' →
      Answered edition one → how_many (λ l. eqb (get_or l 0 0) (byte "C")) further < 16 → deal_answer edition one ≡ deal_answer edition another
  in_two_lem edition others some line first_line' second_line t c first second opens k e says first_says second_says i j l a room =
      line_in_two_answer edition one another (record {
        opening = refl;
        terms = t;
        opens = opens;
        item = c;
        is_cash = matched t c k;
        first = first;
        second = second;
        adds_up = e;
        line = line;
        first_line' = first_line';
        second_line = second_line;
        says = says;
        first_says = first_says;
        second_says = second_says;
        others = others;
        with_first = some;
        line_there = i;
        first_there = j;
        second_there = l;
      }) a room

-- a deal by its place
deal_there : (book : List ℕ) (before behind : List DealLines) (deal : DealLines) → deals_of book ≡ before ++ deal ∷ behind →
    (length before < length (deals_of book)) × (deal_at (length before) book ≡ deal)
deal_there book before behind deal deals = (
  omega (arith, ap length deals, length-append before (deal ∷ behind)),
  ap (λ ds. get_or ds (length before) no_lines) deals ∙ get_or_at before deal behind no_lines (length before) refl,
)

row : (book list : List ℕ) → book_refusal book (length list) ≡ 0 → (before behind : List DealLines) (deal : DealLines) → deals_of book ≡ before ++ deal ∷ behind →
    row_of (length before) (results_after book list) ≡ (1 + length before) ∷ deal_answer (book_edition book) deal
row book list a before behind deal deals =
    let there = deal_there book before behind deal deals in
    row_is book list (length before) a there.0 ∙ ap (λ (d : DealLines). (1 + length before) ∷ deal_answer (book_edition book) d) there.1

rows : (book book' list list' : List ℕ) → book_refusal book (length list) ≡ 0 → book_refusal book' (length list') ≡ 0 → book_edition book ≡ book_edition book' →
    (before before' behind behind' : List DealLines) (deal deal' : DealLines) → length before ≡ length before' → deals_of book ≡ before ++ deal ∷ behind → deals_of book' ≡ before' ++ deal' ∷ behind' →
    deal_answer (book_edition book) deal ≡ deal_answer (book_edition book) deal' →
    row_of (length before) (results_after book list) ≡ row_of (length before) (results_after book' list')
rows book book' list list' a a' edition before before' behind behind' deal deal' e deals deals' same =
    let there = deal_there book before behind deal deals in
    let there' = deal_there book' before' behind' deal' deals' in
    let here' : deal_at (length before) book' ≡ deal' = ap (λ k. deal_at k book') e ∙ there'.1 in
    same_row book book' list list' a a' edition (length before) there.0 (omega (arith, e, there'.0))
    (ap (deal_answer (book_edition book)) there.1 ∙ same ∙ sym (ap (deal_answer (book_edition book)) here'))

-- ---- worked out
shared : (shared_by (bank_guarantee 80) (bank_guarantee 60) ≡ 80 ∷ 20 ∷ 20 ∷ []) × (shared_by (bank_guarantee 60) (bank_guarantee 80) ≡ 60 ∷ 40 ∷ 20 ∷ [])
unfolding computed
shared = (refl, refl)

alone :
    map (λ (p : ℕ → Collateral). exposure_with (p 4 ∷ []) ∷ exposure_with (p 2 ∷ p 2 ∷ []) ∷ []) ((λ a. pledge a 1 978 1800) ∷ (λ a. pledge a 1 840 1800) ∷ (λ a. pledge a 1 978 900) ∷ (λ a. pledge a 9 978 1800) ∷ [])
    ≡ (996 ∷ 996 ∷ []) ∷ (997 ∷ 998 ∷ []) ∷ (999 ∷ 1000 ∷ []) ∷ (997 ∷ 998 ∷ []) ∷ []
unfolding computed
alone = refl

both_answered : map (λ book. results_after book (replicate 8 7)) (keyed ∷ rekeyed ∷ []) ≡ replicate 2 (1 ∷ 0 ∷ 706 ∷ 62 ∷ 2 ∷ 0 ∷ 806 ∷ 566 ∷ [])
unfolding worked
both_answered = refl

both_alike : AlikeDeals 1 (deals_of keyed) (deals_of rekeyed)
unfolding worked
both_alike =
    let five = Reordered.put (Reordered.put (Reordered.put (Reordered.put (Reordered.put Reordered.none Inserted.here) (Inserted.later Inserted.here)) (Inserted.later (Inserted.later Inserted.here))) (Inserted.later Inserted.here)) (Inserted.later (Inserted.later (Inserted.later Inserted.here))) in
    let two = Reordered.put (Reordered.put Reordered.none Inserted.here) (Inserted.later Inserted.here) in
    (inr (record { opening = refl; further = five }, refl), (inr (record { opening = refl; further = two }, refl), tt))

both_accepted : (book_refusal keyed 8192 ≡ 0) × (book_refusal rekeyed 8192 ≡ 0) × (book_edition keyed ≡ book_edition rekeyed)
unfolding worked
both_accepted = (refl, refl, refl)

edition_keyed : book_edition keyed ≡ 1
unfolding worked
edition_keyed = refl

both_printed : printed keyed ≡ printed rekeyed
both_printed = same_printed keyed rekeyed both_accepted.0 both_accepted.1 both_accepted.2 (rw edition_keyed both_alike)

two_answered : results_after in_two (replicate 4 7) ≡ 1 ∷ 0 ∷ 706 ∷ 62 ∷ []
unfolding worked
two_answered = refl

refused_by_first :
    map (λ lines. results_after (header ++ loan_line ++ lines) (replicate 4 7)) ((type_line ++ step_line) ∷ (step_line ++ type_line) ∷ (cash_line ++ type_line) ∷ (type_line ++ cash_line) ∷ [])
    ≡ (1 ∷ 2 ∷ 3 ∷ 0 ∷ []) ∷ (1 ∷ 3 ∷ 3 ∷ 0 ∷ []) ∷ (1 ∷ 2 ∷ 4 ∷ 0 ∷ []) ∷ (1 ∷ 2 ∷ 3 ∷ 0 ∷ []) ∷ []
unfolding worked
refused_by_first = refl

seventeen : map (λ lines. results_after (header ++ loan_line ++ lines) (replicate 4 7)) (repeated 16 cash_line ∷ (repeated 15 cash_line ++ forty_line ++ sixty_line) ∷ [])
    ≡ (1 ∷ 0 ∷ 0 ∷ 0 ∷ []) ∷ (1 ∷ 6 ∷ 19 ∷ 0 ∷ []) ∷ []
unfolding worked
seventeen = refl

pub entry_order : EntryOrder
unfolding sum_of
entry_order = record {
  every_order = λ d cs gs a r s. order_taken d a cs gs r s;
  holding_these = λ t cs gs. view_of_record (record { terms = t; collateral = cs; guarantees = gs });
  any_order = λ d d' b cs gs. inserted d d' b (collateral_by_counts _ _ cs) (guarantees_by_counts _ _ gs);
  any_insertion = inserted;
  collateral_orders = λ cs cs'. (same_counts, collateral_by_counts cs cs');
  guarantee_orders = λ gs gs'. (same_counts, guarantees_by_counts gs gs');
  line_orders = λ ls ls'. (same_counts, lines_by_counts ls ls');
  count_none = λ test. refl;
  count_more = λ test x xs. refl;
  counts_alike = λ xs ys h. h;
  put_in = inserted_behind;
  put_in_alone = λ x xs ys i. between i;
  same_rest = rest;
  same_outcomes = outcomes;
  of_cover = λ W E ps ps' r. any_order W E r;
  by_hand = λ W E ps. sym (by_hand W E ps);
  portions_differ = shared;
  each_weight = λ E w ps ps' r. each_weight_any_order 0 E r w;
  split = λ d c first second others some cs a k e i j l room. split_taken d a c first second others some cs k e i j l room;
  split_records = in_parts;
  split_behind = parts_behind;
  a_part = λ amount c. refl;
  no_place = λ t gs c first second others some cs cs' e i j l full. no_place_left t gs c first second e i j l full;
  cash_alone = alone;
  lines_any_order = λ edition number number' opening further further' c a.
      same_lines_answer edition _ _ (same_lines number number' opening further further' c) a;
  refused_in_every_order = λ edition number number' opening further further' c n a.
      n ((refused_alike edition _ _ (same_lines number number' opening further further' c)).1 a);
  line_in_two = λ edition number number' opening further further'. in_two_lem number number' opening further further' edition;
  row_stays = rows;
  row_is = row;
  refused_alike = λ book book' places first second long deals. same_refusal book book' places first long second deals;
  printed_any_order = same_printed;
  keyed_answered = both_answered;
  keyed_alike = both_alike;
  keyed_printed = both_printed;
  in_two_answered = two_answered;
  refused_otherwise = refused_by_first;
  seventeenth = seventeen;
}
