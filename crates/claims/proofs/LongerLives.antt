-- A limit of days that rises takes no answer from a deal that was accepted. Assumes nothing.
use Prim.Native.Nat.{ℕ, ◌≤◌}
use mathlib.Core.Logic.{inl, inr}
use mathlib.Core.Path.{◌≡◌, refl, ap, ◌∙◌}
use mathlib.Core.Bool.{true, false}
use mathlib.Core.List.{List, [], ◌∷◌, map}
use lib.ListN.{replicate}
use native.Mathlib.Omega.{arith}
use Rattle.base.specs.Range.{within}
use Rattle.text.specs.Bytes.{bytes}
use Rattle.deal.specs.Fields.{collateral_in, guarantee_in, terms_in}
use Rattle.deal.specs.Records.{deal_with}
use Rattle.deal.specs.declared.terms.Terms.{Terms}
use Rattle.deal.specs.declared.collateral.Collateral.{Collateral}
use Rattle.deal.specs.declared.guarantee.Guarantee.{Guarantee}
use Rattle.deal.specs.declared.deal.Deal.{Deal}
use Rattle.book.specs.Deals.{DealLines}
use Rattle.book.proofs.Examples.{worked}
use Rattle.earlier.specs.Books.{deal_answer_by, line_opened_by, line_refusal_by, lines_answer_by, opening_refusal_by, printed_by, reported_by, results_by, with_line_by}
use Rattle.earlier.specs.Days.{accepted_up_to, add_collateral_refusal_up_to, add_guarantee_refusal_up_to, deal_answer_up_to, line_none_above, opened_up_to, printed_up_to, report_up_to, results_up_to, terms_refusal_up_to, with_collateral_up_to, with_guarantee_up_to}
use Rattle.earlier.specs.Deals.{accepted_by, add_collateral_refusal_by, add_guarantee_refusal_by, collateral_refusal_by, deal_opened_by, guarantee_refusal_by, report_by, report_refusal_by, terms_refusal_by, with_collateral_by, with_guarantee_by}
use Rattle.earlier.specs.Rules.{Rules, in_force, up_to}
use Rattle.earlier.proofs.Accepted.{collateral_accepted, guarantee_accepted, opened_accepted}
use Rattle.earlier.proofs.Days.{accepted_before, adding_collateral_stays, adding_collateral_was, adding_guarantee_stays, adding_guarantee_was, apart, opened_stays, opening_stays, opening_was, same_report, still_accepted, with_collateral_stays, with_guarantee_stays}
use Rattle.earlier.proofs.DaysInBooks.{deal_stays, printed_stays, results_stay}
use Rattle.earlier.proofs.Now.{accepted_now, adding_collateral_now, adding_guarantee_now, deal_now, limit_in_force, opened_now, opening_now, printed_now, report_now, reporting_now, results_now, with_collateral_now, with_guarantee_now}
use Rattle.claims.specs.LongerLives.{LongerLives, Raised, seven_places}

raised : (before now : ℕ) → before ≤ now → Raised before now
raised before now h = record {
  accepted_before = accepted_before before now h;
  still_accepted = still_accepted before now h;
  same_report = same_report before now h;
  opening_stays = λ t e. (opening_stays before now h t (inl e), opened_stays before now h t (inl e));
  adding_collateral_stays = λ d c a e. (adding_collateral_stays before now h d a c (inl e), with_collateral_stays before now h d a c (inl e));
  adding_guarantee_stays = λ d g a e. (adding_guarantee_stays before now h d a g (inl e), with_guarantee_stays before now h d a g (inl e));
  opening_same = λ t e. (opening_stays before now h t (inr e), opened_stays before now h t (inr e));
  adding_collateral_same = λ d c a e. (adding_collateral_stays before now h d a c (inr e), with_collateral_stays before now h d a c (inr e));
  adding_guarantee_same = λ d g a e. (adding_guarantee_stays before now h d a g (inr e), with_guarantee_stays before now h d a g (inr e));
  opening_was = opening_was before now h;
  adding_collateral_was = λ d c a. adding_collateral_was before now h d a c;
  adding_guarantee_was = λ d g a. adding_guarantee_was before now h d a g;
  deal_stays = λ edition deal e. deal_stays before now h edition deal (inl e);
  deal_same = λ edition deal e. deal_stays before now h edition deal (inr e);
  book_same = λ book list e. results_stay before now h book e list;
  printed_same = λ book e. printed_stays before now h book e;
}

-- what is said over rules, of those up to the limit in force
same : {A : Type 0} (f : Rules → A) → f (up_to 100000) ≡ f in_force
same f = ap f limit_in_force

edges : (within 1 100000 100000 ≡ true) × (within 1 100000 100001 ≡ false)
unfolding within
edges = (refl, refl)

places_taken : (map (λ refusal. refusal 100000) seven_places ≡ replicate 7 0) × (map (λ refusal. refusal 100001) seven_places ≡ replicate 7 5)
unfolding worked
places_taken = (refl, refl)

pub longer_lives : LongerLives
longer_lives = record {
  longer = raised 36000 100000 (omega arith);
  raised = raised;
  limit = refl;
  begins_above = edges;
  taken = places_taken.0;
  not_taken = places_taken.1;
  opening_now = λ t. (same (λ r. terms_refusal_by r t) ∙ opening_now t, same (λ r. deal_opened_by r t) ∙ opened_now t);
  accepted_now = λ d. same (λ r. accepted_by r d) ∙ accepted_now d;
  collateral_now = λ d c. (same (λ r. add_collateral_refusal_by r d c) ∙ adding_collateral_now d c, same (λ r. with_collateral_by r d c) ∙ with_collateral_now d c);
  guarantee_now = λ d g. (same (λ r. add_guarantee_refusal_by r d g) ∙ adding_guarantee_now d g, same (λ r. with_guarantee_by r d g) ∙ with_guarantee_now d g);
  report_now = λ d. (same (λ r. report_refusal_by r d) ∙ reporting_now d, same (λ r. report_by r d) ∙ report_now d);
  deal_now = λ edition deal. same (λ r. deal_answer_by r edition deal) ∙ deal_now edition deal;
  results_now = λ book list. same (λ r. results_by r book list) ∙ results_now book list;
  printed_now = λ book. same (λ r. printed_by r book) ∙ printed_now book;
  opened = λ limit. opened_accepted (up_to limit);
  collateral_added = λ limit d c a. collateral_accepted (up_to limit) d a (apart limit) c;
  guarantee_added = λ limit d g a. guarantee_accepted (up_to limit) d a (apart limit) g;
}

-- NO PROMISE IS EMPTY: of these, which hold 36,000 days and less, nothing more is asked

abbrev terms : ℕ → Terms
terms n = terms_in (1000000 ∷ 3 ∷ 0 ∷ 0 ∷ 978 ∷ 1 ∷ 1 ∷ n ∷ 3 ∷ 1 ∷ 720 ∷ 1 ∷ [])

abbrev pledge : ℕ → Collateral
pledge n = collateral_in (400000 ∷ 4 ∷ 1 ∷ n ∷ 978 ∷ 720 ∷ 36000 ∷ 1 ∷ 1 ∷ 1 ∷ 0 ∷ [])

abbrev promise : ℕ → Guarantee
promise n = guarantee_in (200000 ∷ 1 ∷ 1 ∷ 0 ∷ 978 ∷ 720 ∷ n ∷ 1 ∷ 1 ∷ 1 ∷ [])

abbrev deal : Deal
deal = deal_with (terms 36000) (pledge 36000 ∷ []) (promise 36000 ∷ [])

record_said : (accepted_up_to 100000 deal ≡ true) × (report_up_to 100000 deal ≡ report_up_to 36000 deal)
unfolding worked accepted_by terms_refusal_by collateral_refusal_by guarantee_refusal_by
record_said = (longer_lives.longer.still_accepted deal refl, longer_lives.longer.same_report deal refl)

calls_said :
    ((terms_refusal_up_to 100000 (terms 36000) ≡ terms_refusal_up_to 36000 (terms 36000)) × (opened_up_to 100000 (terms 36000) ≡ opened_up_to 36000 (terms 36000)))
    × ((add_collateral_refusal_up_to 100000 deal (pledge 36000) ≡ add_collateral_refusal_up_to 36000 deal (pledge 36000)) × (with_collateral_up_to 100000 deal (pledge 36000) ≡ with_collateral_up_to 36000 deal (pledge 36000)))
    × ((add_guarantee_refusal_up_to 100000 deal (promise 36000) ≡ add_guarantee_refusal_up_to 36000 deal (promise 36000)) × (with_guarantee_up_to 100000 deal (promise 36000) ≡ with_guarantee_up_to 36000 deal (promise 36000)))
unfolding worked accepted_by terms_refusal_by collateral_refusal_by guarantee_refusal_by add_collateral_refusal_by add_guarantee_refusal_by
calls_said = (
  longer_lives.longer.opening_stays (terms 36000) refl,
  longer_lives.longer.adding_collateral_stays deal (pledge 36000) refl refl,
  longer_lives.longer.adding_guarantee_stays deal (promise 36000) refl refl,
)

-- one day more was a 5
calls_were :
    (terms_refusal_up_to 36000 (terms 36001) ≡ 5) × (add_collateral_refusal_up_to 36000 deal (pledge 36001) ≡ 5) × (add_guarantee_refusal_up_to 36000 deal (promise 36001) ≡ 5)
unfolding worked accepted_by terms_refusal_by collateral_refusal_by guarantee_refusal_by add_collateral_refusal_by add_guarantee_refusal_by
calls_were = (
  longer_lives.longer.opening_was (terms 36001) refl refl,
  longer_lives.longer.adding_collateral_was deal (pledge 36001) refl refl refl,
  longer_lives.longer.adding_guarantee_was deal (promise 36001) refl refl refl,
)

-- a deal answered by 11, and a book in which a 5 stands for an interval, beside a line that cannot be read
abbrev lines : DealLines
lines = record { number = 2; opening = bytes "D\t500\t3\t0\t978\t1\t1\t36000\t3\t1\t720\n"; further = bytes "X\n" ∷ [] }

abbrev book : List ℕ
book = bytes "CRM\t1\nD\t500\t3\t0\t978\t1\t251\t36000\t3\t1\t720\nX\n"

books_said :
    (deal_answer_up_to 100000 1 lines ≡ deal_answer_up_to 36000 1 lines)
    × (results_up_to 100000 book (replicate 4 7) ≡ results_up_to 36000 book (replicate 4 7))
    × (printed_up_to 100000 book ≡ printed_up_to 36000 book)
unfolding worked deal_answer_by lines_answer_by reported_by with_line_by line_refusal_by line_opened_by opening_refusal_by deal_opened_by terms_refusal_by line_none_above
books_said = (longer_lives.longer.deal_stays 1 lines refl, longer_lives.longer.book_same book (replicate 4 7) refl, longer_lives.longer.printed_same book refl)
