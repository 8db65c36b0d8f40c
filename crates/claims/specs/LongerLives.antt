-- 02: L11. "Raise the limit of issue life and of all terms to 100,000, and widen the stored numbers so that none is cut. Every deal accepted
-- before keeps its answer. (For lives and terms 5 now begins above 100,000.)"
--
-- What ends in UpTo is a definition of opening, adding, reporting or answering a book with the limit as an argument in place of `days_limit`
-- (earlier/specs/Days); the fields ending in -now say which definition each is at the limit in force. Everything in it but the limit is the
-- rule of today: the claim is about the limit alone. Calls on numbers (crate hadlephoga) go through the same operations. Every field holds 64
-- bits, and a number that is sent in a line has at most 13 digits: none had to be widened, and none is cut.
use Rattle.std.specs.Prelude.{ℕ, ◌≤◌, ◌≡◌, true, false, ◌&&◌, List, [], ◌∷◌, map, eqb, get_or, replicate}
use Rattle.deal.specs.Adding.{add_collateral_refusal, add_guarantee_refusal, with_collateral, with_guarantee}
use Rattle.deal.specs.Collateral.{collateral_refusal}
use Rattle.deal.specs.Fields.{collateral_in, guarantee_sent, terms_in}
use Rattle.deal.specs.Guarantees.{guarantee_refusal}
use Rattle.deal.specs.Opening.{opened_deal}
use Rattle.deal.specs.Ranges.{days_allowed, days_limit}
use Rattle.deal.specs.Records.{accepted}
use Rattle.deal.specs.Terms.{terms_refusal}
use Rattle.deal.specs.declared.terms.Terms.{Terms}
use Rattle.deal.specs.declared.collateral.Collateral.{Collateral}
use Rattle.deal.specs.declared.guarantee.Guarantee.{Guarantee}
use Rattle.deal.specs.declared.deal.Deal.{Deal}
use Rattle.relief.specs.Report.{report_of, report_refusal}
use Rattle.book.specs.Answers.{deal_answer}
use Rattle.book.specs.Book.{book_edition, lines_behind, results_after}
use Rattle.book.specs.Deals.{DealLines}
use Rattle.response.specs.Response.{printed}
use Rattle.earlier.specs.Days.{accepted_up_to, add_collateral_refusal_up_to, add_guarantee_refusal_up_to, collateral_days, deal_answer_up_to, deal_lines_none_above, deal_none_above, guarantee_days, lines_none_above, none_above, opened_up_to, printed_up_to, report_refusal_up_to, report_up_to, results_up_to, terms_days, terms_refusal_up_to, with_collateral_up_to, with_guarantee_up_to}

-- the refusal of so many days: of a deal its residual term and the life of what it lends; of collateral its life and both terms; of a guarantee
-- both terms. All else is right, and an original term is no shorter than the residual one
abbrev pub seven_places : List (ℕ → ℕ)
seven_places =
    (λ n. terms_refusal (terms_in (500 ∷ 3 ∷ 0 ∷ 0 ∷ 978 ∷ 3 ∷ 1 ∷ n ∷ 1 ∷ 0 ∷ 0 ∷ 1 ∷ [])))
    ∷ (λ n. terms_refusal (terms_in (500 ∷ 3 ∷ 0 ∷ 0 ∷ 978 ∷ 3 ∷ 1 ∷ 1800 ∷ 2 ∷ 1 ∷ n ∷ 1 ∷ [])))
    ∷ (λ n. collateral_refusal (collateral_in (5 ∷ 2 ∷ 1 ∷ n ∷ 978 ∷ 1 ∷ 1 ∷ 1 ∷ 1 ∷ 1 ∷ 0 ∷ [])))
    ∷ (λ n. collateral_refusal (collateral_in (5 ∷ 1 ∷ 0 ∷ 0 ∷ 978 ∷ n ∷ n ∷ 1 ∷ 1 ∷ 1 ∷ 0 ∷ [])))
    ∷ (λ n. collateral_refusal (collateral_in (5 ∷ 1 ∷ 0 ∷ 0 ∷ 978 ∷ 1 ∷ n ∷ 1 ∷ 1 ∷ 1 ∷ 0 ∷ [])))
    ∷ (λ n. guarantee_refusal (guarantee_sent (5 ∷ 3 ∷ 6 ∷ 0 ∷ 978 ∷ n ∷ n ∷ 1 ∷ 1 ∷ 1 ∷ [])))
    ∷ (λ n. guarantee_refusal (guarantee_sent (5 ∷ 3 ∷ 6 ∷ 0 ∷ 978 ∷ 1 ∷ n ∷ 1 ∷ 1 ∷ 1 ∷ [])))
    ∷ []

-- what a limit that rises leaves as it was
pub record Raised (before now : ℕ) : Type 0 where
  -- EVERY DEAL ACCEPTED BEFORE KEEPS ITS ANSWER

  -- accepted before are exactly the records accepted now that hold no term or life above the limit of before ..
  pub accepted_before : (d : Deal) → accepted_up_to before d ≡ (accepted_up_to now d && deal_none_above before d)
  -- .. so each of them is accepted now ..
  pub still_accepted : (d : Deal) → accepted_up_to before d ≡ true → accepted_up_to now d ≡ true
  -- .. with the same report: every value, loss, ground, amount left out and portion, E*, the rest and the weighted amount
  pub same_report : (d : Deal) → accepted_up_to before d ≡ true → report_up_to now d ≡ report_up_to before d
  -- OPENING AND ADDING: ANOTHER NUMBER THAN 5 STAYS, 0 AMONG THEM

  -- with the deal that it gives. Adding is said of a deal that was accepted before; of others it was 40
  pub opening_stays : (t : Terms) → eqb (terms_refusal_up_to before t) 5 ≡ false →
      (terms_refusal_up_to now t ≡ terms_refusal_up_to before t) × (opened_up_to now t ≡ opened_up_to before t)
  pub adding_collateral_stays : (d : Deal) (c : Collateral) → accepted_up_to before d ≡ true → eqb (add_collateral_refusal_up_to before d c) 5 ≡ false →
      (add_collateral_refusal_up_to now d c ≡ add_collateral_refusal_up_to before d c) × (with_collateral_up_to now d c ≡ with_collateral_up_to before d c)
  pub adding_guarantee_stays : (d : Deal) (g : Guarantee) → accepted_up_to before d ≡ true → eqb (add_guarantee_refusal_up_to before d g) 5 ≡ false →
      (add_guarantee_refusal_up_to now d g ≡ add_guarantee_refusal_up_to before d g) × (with_guarantee_up_to now d g ≡ with_guarantee_up_to before d g)
  -- AND SO DOES A 5 WHERE NO TERM OR LIFE IS ABOVE THE LIMIT OF BEFORE

  pub opening_same : (t : Terms) → none_above before (terms_days t) ≡ true →
      (terms_refusal_up_to now t ≡ terms_refusal_up_to before t) × (opened_up_to now t ≡ opened_up_to before t)
  pub adding_collateral_same : (d : Deal) (c : Collateral) → accepted_up_to before d ≡ true → none_above before (collateral_days c) ≡ true →
      (add_collateral_refusal_up_to now d c ≡ add_collateral_refusal_up_to before d c) × (with_collateral_up_to now d c ≡ with_collateral_up_to before d c)
  pub adding_guarantee_same : (d : Deal) (g : Guarantee) → accepted_up_to before d ≡ true → none_above before (guarantee_days g) ≡ true →
      (add_guarantee_refusal_up_to now d g ≡ add_guarantee_refusal_up_to before d g) × (with_guarantee_up_to now d g ≡ with_guarantee_up_to before d g)
  -- where one is above it, what is taken now was refused by 5
  pub opening_was : (t : Terms) → none_above before (terms_days t) ≡ false → terms_refusal_up_to now t ≡ 0 → terms_refusal_up_to before t ≡ 5
  pub adding_collateral_was : (d : Deal) (c : Collateral) → accepted_up_to before d ≡ true → none_above before (collateral_days c) ≡ false →
      add_collateral_refusal_up_to now d c ≡ 0 → add_collateral_refusal_up_to before d c ≡ 5
  pub adding_guarantee_was : (d : Deal) (g : Guarantee) → accepted_up_to before d ≡ true → none_above before (guarantee_days g) ≡ false →
      add_guarantee_refusal_up_to now d g ≡ 0 → add_guarantee_refusal_up_to before d g ≡ 5
  -- IN A BOOK

  -- a deal that was answered by figures, or by another refusal than 5, is answered by the same three numbers ..
  pub deal_stays : (edition : ℕ) (deal : DealLines) → eqb (get_or (deal_answer_up_to before edition deal) 0 0) 5 ≡ false → deal_answer_up_to now edition deal ≡ deal_answer_up_to before edition deal
  -- .. and so is every deal of which no line holds a term or life above the limit of before, whatever stands beside it
  pub deal_same : (edition : ℕ) (deal : DealLines) → deal_lines_none_above before edition deal ≡ true → deal_answer_up_to now edition deal ≡ deal_answer_up_to before edition deal
  -- a book in which no line holds one has the same answers: every number of every results list, and every byte that is printed
  pub book_same : (book list : List ℕ) → lines_none_above before (book_edition book) (lines_behind book) ≡ true → results_up_to now book list ≡ results_up_to before book list
  pub printed_same : (book : List ℕ) → lines_none_above before (book_edition book) (lines_behind book) ≡ true → printed_up_to now book ≡ printed_up_to before book

pub record LongerLives : Type 0 where
  -- FROM 36,000, "Days of life or cover are 1 to 36,000" (01: What a deal holds), TO 100,000

  pub longer : Raised 36000 100000
  -- and from any limit to any that is no lower
  pub raised : (before now : ℕ) → before ≤ now → Raised before now
  -- 100,000 IS THE LIMIT IN FORCE

  pub limit : days_limit ≡ 100000
  pub begins_above : (days_allowed days_limit 100000 ≡ true) × (days_allowed days_limit 100001 ≡ false)
  -- in each of the seven places: 100,000 days are taken, and 100,001 are 5
  pub taken : map (λ refusal. refusal 100000) seven_places ≡ replicate 7 0
  pub not_taken : map (λ refusal. refusal 100001) seven_places ≡ replicate 7 5
  -- and with it each definition is the one that contracts name
  pub opening_now : (t : Terms) → (terms_refusal_up_to 100000 t ≡ terms_refusal t) × (opened_up_to 100000 t ≡ opened_deal t)
  pub accepted_now : (d : Deal) → accepted_up_to 100000 d ≡ accepted d
  pub collateral_now : (d : Deal) (c : Collateral) →
      (add_collateral_refusal_up_to 100000 d c ≡ add_collateral_refusal d c) × (with_collateral_up_to 100000 d c ≡ with_collateral d c)
  pub guarantee_now : (d : Deal) (g : Guarantee) →
      (add_guarantee_refusal_up_to 100000 d g ≡ add_guarantee_refusal d g) × (with_guarantee_up_to 100000 d g ≡ with_guarantee d g)
  pub report_now : (d : Deal) → (report_refusal_up_to 100000 d ≡ report_refusal d) × (report_up_to 100000 d ≡ report_of d)
  pub deal_now : (edition : ℕ) (deal : DealLines) → deal_answer_up_to 100000 edition deal ≡ deal_answer edition deal
  pub results_now : (book list : List ℕ) → results_up_to 100000 book list ≡ results_after book list
  pub printed_now : (book : List ℕ) → printed_up_to 100000 book ≡ printed book
  -- UP TO ANY LIMIT what is not refused gives an accepted deal, so that what is said of adding holds line by line

  pub opened : (limit : ℕ) (t : Terms) → terms_refusal_up_to limit t ≡ 0 → accepted_up_to limit (opened_up_to limit t) ≡ true
  pub collateral_added : (limit : ℕ) (d : Deal) (c : Collateral) → accepted_up_to limit d ≡ true → add_collateral_refusal_up_to limit d c ≡ 0 →
      accepted_up_to limit (with_collateral_up_to limit d c) ≡ true
  pub guarantee_added : (limit : ℕ) (d : Deal) (g : Guarantee) → accepted_up_to limit d ≡ true → add_guarantee_refusal_up_to limit d g ≡ 0 →
      accepted_up_to limit (with_guarantee_up_to limit d g) ≡ true
