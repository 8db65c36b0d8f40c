-- `book::reply::examine`: a test that is met, and none before it. Assumes nothing.
use Rattle.std.proofs.Common.{ℕ, List, ◌≡◌, ◌+◌, ◌-◌, ◌*◌, ◌≤◌, ◌∙◌, ap, arith, refl, sym, false, true, not, take, drop, length}
use Rattle.std.proofs.lemmas.List.{length-take-le}
use Rattle.std.specs.Prelude.{Option, Some, None, ltb}
use borrow.Author.Tests.{le-ltb, lt-ltb}
use Rattle.base.specs.All.{all_pass}
use Rattle.base.proofs.FirstMet.{first_is, none_met}
use Rattle.base.proofs.Tests.{tests}
use Rattle.text.specs.Text.{book_limit, first_line, lines_of}
use Rattle.text.proofs.Lines.{first_inside, first_taken, rest_part}
use Rattle.book.specs.Deals.{deals_from, opens_deal}
use Rattle.book.specs.Heading.{edition_of, heading_of, is_wrong}
use Rattle.book.specs.Reply.{book_answer_number, book_refusal_number}
use Rattle.book.specs.Start.{own_first}
use Rattle.book.specs.Book.{book_refusal, book_tests, deals_of, lines_behind, text_behind}
use Rattle.book.proofs.Refusing.{second_wrong}
use Rattle.book.proofs.reply.examine.Goals as goal

-- a book that is not too long, and where its first line ends
short : (book : List ℕ) → length book ≤ book_limit → ltb book_limit (length book) ≡ false
short book h = le-ltb book_limit (length book) h

ends : (book : List ℕ) {end : ℕ} → end ≡ 0 + length (first_line (drop 0 book)) → end ≡ length (first_line book)
ends book e = omega (arith, e)

inside : (book : List ℕ) {end : ℕ} → end ≡ length (first_line book) → end ≤ length book
inside book e = omega (arith, e, first_inside book)

-- what it says
said : (book : List ℕ) {end : ℕ} {heading : Option ℕ} → end ≡ length (first_line book) → heading ≡ heading_of (take end book) → heading ≡ heading_of (first_line book)
said book e h = h ∙ ap heading_of (ap (λ n. take n book) e ∙ first_taken book)

-- whether the second line is refused
second : (book : List ℕ) {end : ℕ} → end ≡ length (first_line book) → not (all_pass (take 1 (lines_behind book)) opens_deal) ≡ own_first (drop end book)
second book e = second_wrong (text_behind book) ∙ ap (λ n. own_first (drop n book)) (sym e)

counted : (book : List ℕ) {end deals : ℕ} → end ≡ length (first_line book) → deals ≡ length (deals_from 2 (lines_of (take (length book - end) (drop end book)))) → deals ≡ length (deals_of book)
counted book e d = d ∙ ap (λ t. length (deals_from 2 (lines_of t))) (rest_part book _ ∙ ap (λ n. drop n book) e)

wrong : (h : Option ℕ) → ((x : ℕ) → h ≡ Some x → ⊥) → is_wrong h ≡ true
wrong (Some x) none = absurd (none x refl)
wrong None none = refl

pub returns-then-book-gt-BOOK_LIMIT-clause-refusal : goal.returns-then-book-gt-BOOK_LIMIT-clause-refusal
unfolding book_answer_number book_refusal_number book_refusal book_tests
returns-then-book-gt-BOOK_LIMIT-clause-refusal c = sym (first_is 10 (book_tests c.args.book.now c.args.places) (lt-ltb book_limit (length c.args.book.now) (omega (arith, c.if-book-gt-BOOK_LIMIT.true))))

pub slice_bounds-read_heading-end : goal.slice_bounds-read_heading-end
slice_bounds-read_heading-end c = sym (length-take-le _ _ (inside _ (ends _ c.line_end-start.ensures)))

pub returns-in_default-clause-refusal : goal.returns-in_default-clause-refusal
unfolding book_answer_number book_refusal_number book_refusal book_tests
returns-in_default-clause-refusal c =
    let book = c.args.book.now in
    let e = ends book c.line_end-start.ensures in
    sym (first_is 9 (book_tests book c.args.places) (short book (omega (arith, c.if-book-gt-BOOK_LIMIT.false)), ap is_wrong (sym (said book e c.read_heading.ensures)) ∙ wrong _ c.in_default.not-Some))

pub own_line-requires : goal.own_line-requires
own_line-requires c = inside _ (ends _ c.line_end-start.ensures)

pub returns-then-own_line-clause-refusal : goal.returns-then-own_line-clause-refusal
unfolding book_answer_number book_refusal_number book_refusal book_tests
returns-then-own_line-clause-refusal c =
    let book = c.args.book.now in
    let e = ends book c.line_end-start.ensures in
    let right : is_wrong (heading_of (first_line book)) ≡ false = ap is_wrong (sym (said book e c.read_heading.ensures) ∙ c.in-Some.is) in
    sym (first_is 12 (book_tests book c.args.places) (short book (omega (arith, c.if-book-gt-BOOK_LIMIT.false)), (right, second book e ∙ sym c.own_line.ensures ∙ c.if-own_line.true)))

pub slice_bounds-count_deals-count : goal.slice_bounds-count_deals-count
slice_bounds-count_deals-count c = inside _ (ends _ c.line_end-start.ensures)

pub slice_bounds-count_deals-start : goal.slice_bounds-count_deals-start
slice_bounds-count_deals-start c = search (tests, inside _ (ends _ c.line_end-start.ensures))

pub returns-then-places-deals-clause-refusal : goal.returns-then-places-deals-clause-refusal
unfolding book_answer_number book_refusal_number book_refusal book_tests
returns-then-places-deals-clause-refusal c =
    let book = c.args.book.now in
    let e = ends book c.line_end-start.ensures in
    let right : is_wrong (heading_of (first_line book)) ≡ false = ap is_wrong (sym (said book e c.read_heading.ensures) ∙ c.in-Some.is) in
    let few = lt-ltb c.args.places (4 * length (deals_of book)) (omega (arith, counted book e c.count_deals-deals.ensures, c.if-places-deals.true)) in
    sym (first_is 13 (book_tests book c.args.places) (short book (omega (arith, c.if-book-gt-BOOK_LIMIT.false)), (right, (second book e ∙ sym c.own_line.ensures ∙ c.if-own_line.false, few))))

pub returns-clause-refusal : goal.returns-clause-refusal
unfolding book_answer_number book_refusal_number book_refusal book_tests
returns-clause-refusal c =
    let book = c.args.book.now in
    let e = ends book c.line_end-start.ensures in
    let right : is_wrong (heading_of (first_line book)) ≡ false = ap is_wrong (sym (said book e c.read_heading.ensures) ∙ c.in-Some.is) in
    let enough = le-ltb c.args.places (4 * length (deals_of book)) (omega (arith, counted book e c.count_deals-deals.ensures, c.if-places-deals.false)) in
    sym (none_met (book_tests book c.args.places) (short book (omega (arith, c.if-book-gt-BOOK_LIMIT.false)), (right, (second book e ∙ sym c.own_line.ensures ∙ c.if-own_line.false, (enough, tt)))))

pub returns-clause-found : goal.returns-clause-found
returns-clause-found c =
    let book = c.args.book.now in
    let e = ends book c.line_end-start.ensures in
    (ap edition_of (sym c.in-Some.is ∙ said book e c.read_heading.ensures), (e, counted book e c.count_deals-deals.ensures))
