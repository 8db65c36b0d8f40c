-- By the rules in force, what is said over rules is what contracts cite; and they are those up to the limit of days in force. Assumes nothing.
use Prim.Native.Nat.{ℕ, ◌+◌}
use mathlib.Core.Path.{◌≡◌, refl}
use mathlib.Core.List.{List, [], ◌∷◌}
use lib.ListN.{length}
use Rattle.deal.specs.Adding.{add_collateral_refusal, add_collateral_tests, add_guarantee_refusal, add_guarantee_tests, with_collateral, with_guarantee}
use Rattle.deal.specs.Collateral.{collateral_list_allowed, collateral_list_tests, collateral_refusal, collateral_tests}
use Rattle.deal.specs.Guarantees.{guarantee_list_allowed, guarantee_list_tests, guarantee_refusal, guarantee_tests}
use Rattle.deal.specs.Opening.{opened_deal}
use Rattle.deal.specs.Ranges.{days_limit}
use Rattle.deal.specs.Records.{accepted, record_allowed}
use Rattle.deal.specs.Terms.{terms_refusal, terms_tests}
use Rattle.deal.specs.declared.terms.Terms.{Terms}
use Rattle.deal.specs.declared.collateral.Collateral.{Collateral}
use Rattle.deal.specs.declared.guarantee.Guarantee.{Guarantee}
use Rattle.deal.specs.declared.deal.Deal.{Deal}
use Rattle.relief.specs.Report.{report_of, report_refusal, report_under}
use Rattle.lines.specs.Lines.{line_of}
use Rattle.lines.specs.declared.line.Line.{Line}
use Rattle.lines.specs.declared.line.Line.TheVariants.{DealLine, CollateralLine, GuaranteeLine, Malformed}
use Rattle.book.specs.Answers.{answers_from, deal_answer, line_refusal, lines_answer, opened_by, opening_refusal, reported, with_line}
use Rattle.book.specs.Book.{answered_deals, book_edition, book_refusal, book_reply, book_tests, results_after}
use Rattle.book.specs.Deals.{DealLines}
use Rattle.response.specs.Response.{places, printed}
use Rattle.earlier.specs.Deals.{accepted_by, add_collateral_refusal_by, add_guarantee_refusal_by, collateral_refusal_by, deal_opened_by, guarantee_refusal_by, report_by, report_refusal_by, terms_refusal_by, with_collateral_by, with_guarantee_by}
use Rattle.earlier.specs.Books.{answered_deals_by, answers_by, book_refusal_by, book_reply_by, book_tests_by, deal_answer_by, line_opened_by, line_refusal_by, lines_answer_by, opening_refusal_by, printed_by, reported_by, results_by, with_line_by}
use Rattle.earlier.specs.Rules.{in_force, up_to}

-- THE RULES UP TO THE LIMIT OF DAYS ARE THOSE IN FORCE
pub limit_in_force : up_to days_limit ≡ in_force
unfolding terms_tests collateral_tests guarantee_tests
limit_in_force = refl

-- Opening, adding, reporting

pub opening_now : (t : Terms) → terms_refusal_by in_force t ≡ terms_refusal t
unfolding terms_refusal_by terms_refusal
opening_now t = refl

pub opened_now : (t : Terms) → deal_opened_by in_force t ≡ opened_deal t
unfolding deal_opened_by opened_deal terms_refusal_by terms_refusal
opened_now t = refl

pub accepted_now : (d : Deal) → accepted_by in_force d ≡ accepted d
unfolding accepted_by accepted record_allowed collateral_list_allowed guarantee_list_allowed collateral_refusal_by guarantee_refusal_by terms_refusal_by collateral_refusal guarantee_refusal terms_refusal
accepted_now d = refl

pub adding_collateral_now : (d : Deal) (c : Collateral) → add_collateral_refusal_by in_force d c ≡ add_collateral_refusal d c
unfolding add_collateral_refusal_by add_collateral_refusal add_collateral_tests collateral_list_tests accepted_by record_allowed collateral_list_allowed guarantee_list_allowed collateral_refusal_by guarantee_refusal_by terms_refusal_by collateral_refusal guarantee_refusal terms_refusal
adding_collateral_now d c = refl

pub adding_guarantee_now : (d : Deal) (g : Guarantee) → add_guarantee_refusal_by in_force d g ≡ add_guarantee_refusal d g
unfolding add_guarantee_refusal_by add_guarantee_refusal add_guarantee_tests guarantee_list_tests accepted_by record_allowed collateral_list_allowed guarantee_list_allowed collateral_refusal_by guarantee_refusal_by terms_refusal_by collateral_refusal guarantee_refusal terms_refusal
adding_guarantee_now d g = refl

pub with_collateral_now : (d : Deal) (c : Collateral) → with_collateral_by in_force d c ≡ with_collateral d c
unfolding with_collateral_by with_collateral
with_collateral_now d c = rw (adding_collateral_now d c)

pub with_guarantee_now : (d : Deal) (g : Guarantee) → with_guarantee_by in_force d g ≡ with_guarantee d g
unfolding with_guarantee_by with_guarantee
with_guarantee_now d g = rw (adding_guarantee_now d g)

pub reporting_now : (d : Deal) → report_refusal_by in_force d ≡ report_refusal d
unfolding report_refusal_by report_refusal
reporting_now d = rw (accepted_now d)

pub report_now : (d : Deal) → report_by in_force d ≡ report_of d
unfolding report_by report_under
report_now d = rw (accepted_now d)

-- In a book

pub opening_line_now : (line : Line) → opening_refusal_by in_force line ≡ opening_refusal line
unfolding opening_refusal_by opening_refusal
opening_line_now (DealLine t) = opening_now t
opening_line_now (CollateralLine c) = refl
opening_line_now (GuaranteeLine g) = refl
opening_line_now Malformed = refl

opened_line_now : (line : Line) → line_opened_by in_force line ≡ opened_by line
unfolding line_opened_by opened_by
opened_line_now (DealLine t) = opened_now t
opened_line_now (CollateralLine c) = refl
opened_line_now (GuaranteeLine g) = refl
opened_line_now Malformed = refl

line_now : (d : Deal) (line : Line) → line_refusal_by in_force d line ≡ line_refusal d line
unfolding line_refusal_by line_refusal
line_now d (CollateralLine c) = adding_collateral_now d c
line_now d (GuaranteeLine g) = adding_guarantee_now d g
line_now d (DealLine t) = refl
line_now d Malformed = refl

with_line_now : (d : Deal) (line : Line) → with_line_by in_force d line ≡ with_line d line
unfolding with_line_by with_line
with_line_now d (CollateralLine c) = with_collateral_now d c
with_line_now d (GuaranteeLine g) = with_guarantee_now d g
with_line_now d (DealLine t) = refl
with_line_now d Malformed = refl

lines_now : (opening number : ℕ) (d : Deal) (lines : List (List ℕ)) → lines_answer_by in_force opening number d lines ≡ lines_answer opening number d lines
unfolding lines_answer_by lines_answer reported_by reported
lines_now opening number d [] = rw (reporting_now d, report_now d)
lines_now opening number d (line ∷ lines) =
    let said = line_of d.terms.edition line in
    rw (line_now d said, with_line_now d said, lines_now opening (number + 1) (with_line d said) lines)

pub deal_now : (edition : ℕ) (deal : DealLines) → deal_answer_by in_force edition deal ≡ deal_answer edition deal
unfolding deal_answer_by deal_answer
deal_now edition deal =
    let line = line_of edition deal.opening in
    rw (opening_line_now line, opened_line_now line, lines_now deal.number (deal.number + 1) (opened_by line) deal.further)

answers_now : (edition serial : ℕ) (deals : List DealLines) → answers_by in_force edition serial deals ≡ answers_from edition serial deals
unfolding answers_by answers_from
answers_now edition serial [] = refl
answers_now edition serial (deal ∷ deals) = rw (deal_now edition deal, answers_now edition (serial + 1) deals)

pub refusal_now : (book : List ℕ) (places : ℕ) → book_refusal_by in_force book places ≡ book_refusal book places
unfolding book_refusal_by book_tests_by book_refusal book_tests
refusal_now book n = refl

deals_now : (book : List ℕ) (places : ℕ) → answered_deals_by in_force book places ≡ answered_deals book places
unfolding answered_deals_by answered_deals
deals_now book places = rw (refusal_now book places)

pub reply_now : (book : List ℕ) (places : ℕ) → book_reply_by in_force book places ≡ book_reply book places
unfolding book_reply_by book_reply
reply_now book places = rw (refusal_now book places, deals_now book places)

pub results_now : (book list : List ℕ) → results_by in_force book list ≡ results_after book list
unfolding results_by results_after
results_now book list = rw (deals_now book (length list), answers_now (book_edition book) 1 (answered_deals book (length list)))

pub printed_now : (book : List ℕ) → printed_by in_force book ≡ printed book
unfolding printed_by printed
printed_now book = rw (refusal_now book places, deals_now book places, answers_now (book_edition book) 1 (answered_deals book places))
