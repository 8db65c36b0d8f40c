-- ENTRY ORDER. 02: L7, "Branches key one deal in different orders. Show that any order of the same accepted items gives the same E* and weighted
-- amount. Show also that one unmismatched cash item in the deal's currency may be split in two, while both fit, with neither figure changed. Portions
-- among equal weights may still differ."
--
-- E* and weighted amount are those of the report that `relief::report::Report::of` gives, whose contract says that it is `report_of`, and those in the
-- results list and the printed text of a book, by the contracts of `book::reply::answer_book` and `response::respond`.
--
-- What is claimed of deals: whatever order an accepted deal's items are put in, each list by itself, the deal is accepted too and has the same E* and
-- weighted amount. Of books: a deal none of whose lines is refused has the same answer in every order of its lines behind D, the lines of both lists
-- among one another. One with a refused line is refused in every order, but not always by the same number: its first refused line answers it, and which
-- is the seventeenth of a list depends on the order. A split is claimed where both parts fit, that is, with at most fifteen items before; of a book with a
-- line more, where it is still accepted, since it has more bytes (10).
use Rattle.std.specs.Prelude.{ℕ, zero, suc, ◌+◌, ◌*◌, ◌≤◌, ◌<◌, ◌≡◌, Bool, true, false, List, [], ◌∷◌, ◌++◌, map, eqb, drop, get_or, length, replicate, take, if◌then◌else◌}
use Rattle.base.specs.Reordered.{Inserted, Reordered, SameCounts, how_many}
use Rattle.base.specs.Sum.{sum_of}
use Rattle.base.proofs.Reordered.{Between}
use Rattle.text.specs.Bytes.{byte, bytes}
use Rattle.text.specs.Text.{first_line}
use Rattle.cover.specs.Cover.{covered, equal, weighted_sum}
use Rattle.cover.specs.declared.protection.Protection.{Protection}
use Rattle.cover_laws.specs.ByHand.{sum_by_hand}
use Rattle.deal.specs.Fields.{collateral_in, guarantee_sent, terms_in}
use Rattle.deal.specs.Records.{accepted, deal_with}
use Rattle.deal.specs.Views.{view_of}
use Rattle.deal.specs.declared.terms.Terms.{Terms}
use Rattle.deal.specs.declared.collateral.Collateral.{Collateral}
use Rattle.deal.specs.declared.guarantee.Guarantee.{Guarantee}
use Rattle.deal.specs.declared.deal.Deal.{Deal}
use Rattle.relief.specs.Report.{report_of}
use Rattle.lines.specs.Lines.{line_of}
use Rattle.lines.specs.declared.line.Line.TheVariants.{CollateralLine, DealLine}
use Rattle.book.specs.Answers.{deal_answer}
use Rattle.book.specs.Book.{book_edition, book_refusal, deals_of, lines_behind, results_after}
use Rattle.book.specs.Deals.{DealLines}
use Rattle.response.specs.Response.{printed}
use Rattle.entry_order.specs.Keyed.{AlikeDeals}
use Rattle.entry_order.specs.Split.{with_amount}

-- two records with the same E* and weighted amount in their reports
abbrev pub SameReported : Deal → Deal → Type 0
SameReported d d' = ((report_of d).exposure ≡ (report_of d').exposure) × ((report_of d).rwa ≡ (report_of d').rwa)

-- two accepted records with the same terms
pub record BothAccepted (d d' : Deal) : Type 0 where
  pub first : accepted d ≡ true
  pub second : accepted d' ≡ true
  pub terms : d.terms ≡ d'.terms

-- "unmismatched cash item in the deal's currency": type 1, the deal's currency, and cover no shorter than the deal's residual term. Whether it is
-- recognised is not asked
pub record CashOf (t : Terms) (c : Collateral) : Type 0 where
  pub goods : c.asset.goods ≡ 1
  pub currency : c.currency ≡ t.currency
  pub matched : t.residual ≤ c.residual

-- a deal of a book, opened by the line with this number
abbrev pub keyed_as : ℕ → List ℕ → List (List ℕ) → DealLines
keyed_as number opening further = record { number = number; opening = opening; further = further }

-- whether a deal's answer, the three numbers behind its serial, is no refusal
abbrev pub Answered : ℕ → DealLines → Type 0
Answered edition deal = get_or (deal_answer edition deal) 0 0 ≡ 0

-- the four numbers of a deal in a results list, by its place from 0
abbrev pub row_of : ℕ → List ℕ → List ℕ
row_of k results = take 4 (drop (4 * k) results)

-- EXAMPLES. A loan for 1,800 days to an unrated corporate, which weighs 100, revalued daily, in currency 978, under edition 1; an item of its
-- collateral by amount, type, currency and days of cover; a bank's guarantee, which weighs 20
abbrev pub loan : ℕ → Terms
loan amount = terms_in (amount ∷ 3 ∷ 0 ∷ 0 ∷ 978 ∷ 3 ∷ 1 ∷ 1800 ∷ 1 ∷ 0 ∷ 0 ∷ 1 ∷ [])

abbrev pub pledge : ℕ → ℕ → ℕ → ℕ → Collateral
pledge amount goods currency days = collateral_in (amount ∷ goods ∷ 0 ∷ 0 ∷ currency ∷ days ∷ 1800 ∷ 1 ∷ 1 ∷ 1 ∷ 0 ∷ [])

abbrev pub bank_guarantee : ℕ → Guarantee
bank_guarantee amount = guarantee_sent (amount ∷ 2 ∷ 1 ∷ 0 ∷ 978 ∷ 1800 ∷ 1800 ∷ 1 ∷ 1 ∷ 1 ∷ [])

-- E* of a loan of 1,000 with this collateral
abbrev pub exposure_with : List Collateral → ℕ
exposure_with cs = (report_of (deal_with (loan 1000) cs [])).exposure

-- the portions of two guarantees, and the weighted amount, of a loan of 100
abbrev pub shared_by : Guarantee → Guarantee → List ℕ
shared_by g h =
    let report = report_of (deal_with (loan 100) [] (g ∷ h ∷ [])) in
    map (λ r. r.portion) (take 2 report.guarantees) ++ report.rwa ∷ []

-- lines: the same loan of 1,000; cash and a state's bond; a bank's guarantee, which weighs 20, a state's, which weighs 0, and a bank's swap
abbrev pub loan_line : List ℕ
loan_line = bytes "D\t1000\t3\t0\t978\t3\t1\t1800\t1\t0\t0\n"

abbrev pub cash_line : List ℕ
cash_line = bytes "C\t100\t1\t0\t0\t978\t1800\t1800\t1\t1\t1\t0\n"

abbrev pub debt_line : List ℕ
debt_line = bytes "C\t200\t2\t1\t720\t978\t1800\t1800\t1\t1\t1\t0\n"

abbrev pub bank_line : List ℕ
bank_line = bytes "G\t300\t2\t1\t978\t1800\t1800\t1\t1\t1\n"

abbrev pub state_line : List ℕ
state_line = bytes "G\t400\t1\t1\t978\t1800\t1800\t1\t1\t1\n"

abbrev pub swap_line : List ℕ
swap_line = bytes "S\t500\t2\t1\t978\t1800\t1800\t1\t1\t1\t1\n"

abbrev pub header : List ℕ
header = bytes "CRM\t1\n"

-- a book of two deals, and the same keyed in another order, the swap of the first before the guarantee of its weight
abbrev pub keyed : List ℕ
keyed = header ++ loan_line ++ cash_line ++ debt_line ++ bank_line ++ state_line ++ swap_line ++ loan_line ++ debt_line ++ bank_line

abbrev pub rekeyed : List ℕ
rekeyed = header ++ loan_line ++ swap_line ++ debt_line ++ state_line ++ cash_line ++ bank_line ++ loan_line ++ bank_line ++ debt_line

-- the cash in two lines, and a book of the first deal with it so
abbrev pub forty_line : List ℕ
forty_line = bytes "C\t40\t1\t0\t0\t978\t1800\t1800\t1\t1\t1\t0\n"

abbrev pub sixty_line : List ℕ
sixty_line = bytes "C\t60\t1\t0\t0\t978\t1800\t1800\t1\t1\t1\t0\n"

abbrev pub in_two : List ℕ
in_two = header ++ loan_line ++ forty_line ++ debt_line ++ bank_line ++ sixty_line ++ state_line ++ swap_line

-- a line with an unknown type, refused by 2, and one with a step above 6, refused by 3
abbrev pub type_line : List ℕ
type_line = bytes "C\t100\t10\t0\t0\t978\t1800\t1800\t1\t1\t1\t0\n"

abbrev pub step_line : List ℕ
step_line = bytes "G\t300\t2\t7\t978\t1800\t1800\t1\t1\t1\n"

-- a line so many times
abbrev pub repeated : ℕ → List ℕ → List ℕ
repeated zero line = []
repeated (suc n) line = line ++ repeated n line

pub record EntryOrder : Type 1 where
  -- ANY ORDER OF THE SAME ACCEPTED ITEMS

  -- an accepted deal with its collateral in any order and its guarantees and swaps in any order: accepted, with the same E* and weighted amount
  pub every_order : (d : Deal) (cs : List Collateral) (gs : List Guarantee) → accepted d ≡ true → Reordered (view_of d).collateral cs → Reordered (view_of d).guarantees gs →
      (accepted (deal_with d.terms cs gs) ≡ true) × SameReported d (deal_with d.terms cs gs)
  pub holding_these : (t : Terms) (cs : List Collateral) (gs : List Guarantee) → view_of (deal_with t cs gs) ≡ record { terms = t; collateral = cs; guarantees = gs }
  -- of any two accepted records, however they hold their items; of items alike in every field as many in the one as in the other, by whatever test
  pub any_order : (d d' : Deal) → BothAccepted d d' → SameCounts (view_of d).collateral (view_of d').collateral → SameCounts (view_of d).guarantees (view_of d').guarantees →
      SameReported d d'
  -- the same, the one order being made from the other by putting in item by item; it comes to those counts, of items and of lines
  pub any_insertion : (d d' : Deal) → BothAccepted d d' → Reordered (view_of d).collateral (view_of d').collateral → Reordered (view_of d).guarantees (view_of d').guarantees →
      SameReported d d'
  pub collateral_orders : (cs cs' : List Collateral) → (Reordered cs cs' → SameCounts cs cs') × (SameCounts cs cs' → Reordered cs cs')
  pub guarantee_orders : (gs gs' : List Guarantee) → (Reordered gs gs' → SameCounts gs gs') × (SameCounts gs gs' → Reordered gs gs')
  pub line_orders : (ls ls' : List (List ℕ)) → (Reordered ls ls' → SameCounts ls ls') × (SameCounts ls ls' → Reordered ls ls')
  -- what a count is, and what putting in is: anywhere, all others staying as they stand
  pub count_none : {A : Type 0} (test : A → Bool) → how_many test [] ≡ 0
  pub count_more : {A : Type 0} (test : A → Bool) (x : A) (xs : List A) → how_many test (x ∷ xs) ≡ (if test x then 1 else 0) + how_many test xs
  pub counts_alike : {A : Type 0} (xs ys : List A) → ((test : A → Bool) → how_many test xs ≡ how_many test ys) → SameCounts xs ys
  pub put_in : {A : Type 0} (x : A) (before behind : List A) → Inserted x (before ++ behind) (before ++ x ∷ behind)
  pub put_in_alone : {A : Type 0} (x : A) (xs ys : List A) → Inserted x xs ys → Between x xs ys
  -- the uncovered rest stays too; and each item has the outcome it had, value and losses or ground, wherever it stands: the places of the one report, those
  -- past a count with them, are those of the other in some order. Of a guarantee or swap all but its portion
  pub same_rest : (d d' : Deal) → BothAccepted d d' → Reordered (view_of d).collateral (view_of d').collateral → Reordered (view_of d).guarantees (view_of d').guarantees →
      (report_of d).uncovered ≡ (report_of d').uncovered
  pub same_outcomes : (d d' : Deal) → BothAccepted d d' → Reordered (view_of d).collateral (view_of d').collateral → Reordered (view_of d).guarantees (view_of d').guarantees →
      Reordered (report_of d).collateral (report_of d').collateral × Reordered (map (λ r. r.outcome) (report_of d).guarantees) (map (λ r. r.outcome) (report_of d').guarantees)
  -- A LAW OF COVER, for every weight W of the counterparty, every exposure E and pieces of any values and weights: the weighted sum does not depend on their
  -- order; and it is what one comes to by hand, sorting the pieces and passing along
  pub of_cover : (W E : ℕ) (ps ps' : List Protection) → Reordered ps ps' → weighted_sum W E ps ≡ weighted_sum W E ps'
  pub by_hand : (W E : ℕ) (ps : List Protection) → weighted_sum W E ps ≡ sum_by_hand W E ps
  -- PORTIONS AMONG EQUAL WEIGHTS MAY DIFFER: guarantees of 80 and 60, of one weight, share 100; the weighted amount is 20 in either order
  pub portions_differ : (shared_by (bank_guarantee 80) (bank_guarantee 60) ≡ 80 ∷ 20 ∷ 20 ∷ []) × (shared_by (bank_guarantee 60) (bank_guarantee 80) ≡ 60 ∷ 40 ∷ 20 ∷ [])
  -- and no others: the pieces of each weight w cover together what they did, so that one of a weight of its own covers what it did
  pub each_weight : (E w : ℕ) (ps ps' : List Protection) → Reordered ps ps' → sum_of (equal w) (covered E ps) ≡ sum_of (equal w) (covered E ps')
  -- ONE CASH ITEM IN TWO

  -- an accepted deal with at most fifteen items of collateral, a cash item of it taken out of the list and two parts put in anywhere: any amounts that add up to
  -- its own, 0 among them. It is accepted, with the same E* and weighted amount
  pub split : (d : Deal) (c : Collateral) (first second : ℕ) (others with_first cs : List Collateral) → accepted d ≡ true → CashOf d.terms c → first + second ≡ c.amount →
      Inserted c others (view_of d).collateral → Inserted (with_amount first c) others with_first → Inserted (with_amount second c) with_first cs → length (view_of d).collateral < 16 →
      (accepted (deal_with d.terms cs (view_of d).guarantees) ≡ true) × SameReported d (deal_with d.terms cs (view_of d).guarantees)
  -- of any two accepted records; for instance the first part in the item's place and the second anywhere behind it
  pub split_records : (d d' : Deal) → BothAccepted d d' → (view_of d).guarantees ≡ (view_of d').guarantees →
      (c : Collateral) (first second : ℕ) (others with_first : List Collateral) → CashOf d.terms c → first + second ≡ c.amount →
      Inserted c others (view_of d).collateral → Inserted (with_amount first c) others with_first → Inserted (with_amount second c) with_first (view_of d').collateral →
      SameReported d d'
  pub split_behind : (d d' : Deal) → BothAccepted d d' → (view_of d).guarantees ≡ (view_of d').guarantees →
      (before between behind : List Collateral) (c : Collateral) (first second : ℕ) → CashOf d.terms c → first + second ≡ c.amount →
      (view_of d).collateral ≡ before ++ c ∷ (between ++ behind) →
      (view_of d').collateral ≡ before ++ with_amount first c ∷ (between ++ with_amount second c ∷ behind) →
      SameReported d d'
  -- a part is the item in all but its amount
  pub a_part : (amount : ℕ) (c : Collateral) →
      with_amount amount c
      ≡ record {
        amount = amount;
        asset = c.asset;
        currency = c.currency;
        residual = c.residual;
        original = c.original;
        lawful = c.lawful;
        unrelated = c.unrelated;
        not_in_rating = c.not_in_rating;
        listed = c.listed;
      }
  -- "while both fit": on a full list there is no place, and the deal with both parts is not accepted
  pub no_place : (t : Terms) (gs : List Guarantee) (c : Collateral) (first second : ℕ) (others with_first cs cs' : List Collateral) → first + second ≡ c.amount →
      Inserted c others cs → Inserted (with_amount first c) others with_first → Inserted (with_amount second c) with_first cs' → length cs ≡ 16 → accepted (deal_with t cs' gs) ≡ false
  -- 4 units for 2 and 2: cash in the deal's currency, unmismatched, leaves 996 either way. Cash in another currency, cash for 900 days of 1,800 and gold, each
  -- rounded down by itself, do not
  pub cash_alone :
      map (λ (p : ℕ → Collateral). exposure_with (p 4 ∷ []) ∷ exposure_with (p 2 ∷ p 2 ∷ []) ∷ []) ((λ a. pledge a 1 978 1800) ∷ (λ a. pledge a 1 840 1800) ∷ (λ a. pledge a 1 978 900) ∷ (λ a. pledge a 9 978 1800) ∷ [])
      ≡ (996 ∷ 996 ∷ []) ∷ (997 ∷ 998 ∷ []) ∷ (999 ∷ 1000 ∷ []) ∷ (997 ∷ 998 ∷ []) ∷ []
  -- IN BOOKS

  -- the lines of a deal behind D in any order, whatever its line's number: of lines alike byte for byte as many. Where none is refused, the answer stays
  pub lines_any_order : (edition number number' : ℕ) (opening : List ℕ) (further further' : List (List ℕ)) → SameCounts further further' →
      Answered edition (keyed_as number opening further) → deal_answer edition (keyed_as number opening further) ≡ deal_answer edition (keyed_as number' opening further')
  -- where one is, every order is refused
  pub refused_in_every_order : (edition number number' : ℕ) (opening : List ℕ) (further further' : List (List ℕ)) → SameCounts further further' →
      (Answered edition (keyed_as number opening further) → ⊥) → Answered edition (keyed_as number' opening further') → ⊥
  -- a line that says a cash item taken out, and two that say its parts put in anywhere, in a deal with at most fifteen lines C before
  pub line_in_two : (edition number number' : ℕ) (opening : List ℕ) (further further' others with_first : List (List ℕ)) (line first_line' second_line : List ℕ) (t : Terms) (c : Collateral) (first second : ℕ) →
      line_of edition opening ≡ DealLine t → CashOf t c → first + second ≡ c.amount →
      line_of edition line ≡ CollateralLine c → line_of edition first_line' ≡ CollateralLine (with_amount first c) → line_of edition second_line ≡ CollateralLine (with_amount second c) →
      Inserted line others further → Inserted first_line' others with_first → Inserted second_line with_first further' →
      Answered edition (keyed_as number opening further) → how_many (λ l. eqb (get_or l 0 0) (byte "C")) further < 16 →
      deal_answer edition (keyed_as number opening further) ≡ deal_answer edition (keyed_as number' opening further')
  -- by its place in a results list: of two accepted books of one edition that have the deal behind as many others, the four numbers of a deal whose answer stays,
  -- as it does in the three claims above
  pub row_stays : (book book' list list' : List ℕ) → book_refusal book (length list) ≡ 0 → book_refusal book' (length list') ≡ 0 → book_edition book ≡ book_edition book' →
      (before before' behind behind' : List DealLines) (deal deal' : DealLines) → length before ≡ length before' → deals_of book ≡ before ++ deal ∷ behind → deals_of book' ≡ before' ++ deal' ∷ behind' →
      deal_answer (book_edition book) deal ≡ deal_answer (book_edition book) deal' →
      row_of (length before) (results_after book list) ≡ row_of (length before) (results_after book' list')
  -- the row is the deal's serial and its answer
  pub row_is : (book list : List ℕ) → book_refusal book (length list) ≡ 0 → (before behind : List DealLines) (deal : DealLines) → deals_of book ≡ before ++ deal ∷ behind →
      row_of (length before) (results_after book list) ≡ (1 + length before) ∷ deal_answer (book_edition book) deal
  -- a book is refused as another with the same first line, second line, length and number of deals: all of which lines behind a D leave as they are, in whatever
  -- order
  pub refused_alike : (book book' : List ℕ) (places : ℕ) → first_line book ≡ first_line book' → take 1 (lines_behind book) ≡ take 1 (lines_behind book') → length book ≡ length book' →
      length (deals_of book) ≡ length (deals_of book') → book_refusal book places ≡ book_refusal book' places
  -- every byte that is printed, where each deal is the same or, none of its lines being refused, keyed in another order
  pub printed_any_order : (book book' : List ℕ) → book_refusal book 8192 ≡ 0 → book_refusal book' 8192 ≡ 0 → book_edition book ≡ book_edition book' →
      AlikeDeals (book_edition book) (deals_of book) (deals_of book') → printed book ≡ printed book'
  -- BOOKS WORKED OUT

  pub keyed_answered : map (λ book. results_after book (replicate 8 7)) (keyed ∷ rekeyed ∷ []) ≡ replicate 2 (1 ∷ 0 ∷ 706 ∷ 62 ∷ 2 ∷ 0 ∷ 806 ∷ 566 ∷ [])
  pub keyed_alike : AlikeDeals 1 (deals_of keyed) (deals_of rekeyed)
  pub keyed_printed : printed keyed ≡ printed rekeyed
  pub in_two_answered : results_after in_two (replicate 4 7) ≡ 1 ∷ 0 ∷ 706 ∷ 62 ∷ []
  -- two refused lines, of which the first answers the deal, by its own number; and one, whose place the answer names
  pub refused_otherwise :
      map (λ lines. results_after (header ++ loan_line ++ lines) (replicate 4 7)) ((type_line ++ step_line) ∷ (step_line ++ type_line) ∷ (cash_line ++ type_line) ∷ (type_line ++ cash_line) ∷ [])
      ≡ (1 ∷ 2 ∷ 3 ∷ 0 ∷ []) ∷ (1 ∷ 3 ∷ 3 ∷ 0 ∷ []) ∷ (1 ∷ 2 ∷ 4 ∷ 0 ∷ []) ∷ (1 ∷ 2 ∷ 3 ∷ 0 ∷ []) ∷ []
  -- sixteen lines of cash; with one of them in two the seventeenth is refused by 6
  pub seventeenth : map (λ lines. results_after (header ++ loan_line ++ lines) (replicate 4 7)) (repeated 16 cash_line ∷ (repeated 15 cash_line ++ forty_line ++ sixty_line) ∷ [])
      ≡ (1 ∷ 0 ∷ 0 ∷ 0 ∷ []) ∷ (1 ∷ 6 ∷ 19 ∷ 0 ∷ []) ∷ []
