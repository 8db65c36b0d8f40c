-- `book::reading::answer_deal`: the line that opens the deal, then those behind it. Assumes nothing.
use Rattle.std.proofs.Common.{ℕ, List, [], ◌∷◌, ◌≡◌, eqb, ◌+◌, ◌≤◌, ◌∙◌, ap, arith, sym, take, drop, length}
use Rattle.std.proofs.lemmas.List.{length-take-le}
use Rattle.text.specs.Text.{first_line, lines_of}
use Rattle.text.proofs.Lines.{first_at_some, first_inside, first_taken}
use Rattle.deal.specs.Opening.{opened_deal}
use Rattle.deal.specs.Terms.{terms_refusal}
use Rattle.deal.specs.declared.terms.Terms.{Terms}
use Rattle.lines.specs.Lines.{line_of}
use Rattle.lines.specs.declared.line.Line.{Line}
use Rattle.book.specs.Answers.{lines_answer, opening_refusal, refused_at}
use Rattle.book.specs.Deals.{own_lines}
use Rattle.book.specs.Opening.{opening_terms}
use Rattle.book.specs.Reply.{line_answer_number, line_refusal_number}
use Rattle.book.specs.Start.{first_deal}
use Rattle.book.proofs.Answering.{opened_answer, opening_terms_lem, unopened_answer}
use Rattle.book.proofs.Grouping.{opens_some}
use Rattle.book.proofs.Numbers.{refusal_some}
use Rattle.book.proofs.Passing.{deal_read}
use Rattle.book.proofs.reading.answer_deal.Goals as goal

-- where the first line ends, and what it says
ends : (text : List ℕ) {end : ℕ} → end ≡ 0 + length (first_line (drop 0 text)) → end ≡ length (first_line text)
ends text e = omega (arith, e)

inside : (text : List ℕ) {end : ℕ} → end ≡ length (first_line text) → end ≤ length text
inside text e = omega (arith, e, first_inside text)

read : (edition : ℕ) (text : List ℕ) {end : ℕ} {said : Line} → end ≡ length (first_line text) → said ≡ line_of edition (take end text) → said ≡ line_of edition (first_line text)
read edition text e r = r ∙ ap (line_of edition) (ap (λ n. take n text) e ∙ first_taken text)

pub slice_bounds-read_line-end : goal.slice_bounds-read_line-end
slice_bounds-read_line-end c = sym (length-take-le _ _ (inside _ (ends _ c.line_end-end.ensures)))

pub refused-requires : goal.refused-requires
refused-requires c = let i = inside _ (ends _ c.line_end-end.ensures) in (i, omega (arith, c.requires.1))

pub for_terms-deal-requires : goal.for_terms-deal-requires
unfolding line_answer_number
for_terms-deal-requires c =
    let opens : 0 ≡ opening_refusal c.read_line.result = ap line_answer_number (sym c.in-Ok.is) ∙ c.opening.ensures.refusal in
    ap terms_refusal c.in-Ok.ensures.terms ∙ opening_terms_lem _ (sym opens)

pub opened-requires : goal.opened-requires
opened-requires c =
    let e = ends _ c.line_end-end.ensures in
    (inside _ e, omega (arith, c.requires.1, first_at_some c.args.text.now 0 (opens_some c.args.text.now c.requires.0), e))

pub returns-in-Err-clause-deal_read : goal.returns-in-Err-clause-deal_read
returns-in-Err-clause-deal_read c = deal_read c.args.text.now c.args.number _ _ c.requires.0 (rw (ends _ c.line_end-end.ensures) at c.refused.ensures.lines_read)

pub returns-in-Err-clause-answered : goal.returns-in-Err-clause-answered
unfolding line_answer_number refused_at
returns-in-Err-clause-answered c =
    let text = c.args.text.now in
    let line = read c.args.edition text (ends _ c.line_end-end.ensures) c.read_line.ensures in
    let told : line_refusal_number c.in-Err.refusal ≡ opening_refusal (line_of c.args.edition (first_line text)) = ap line_answer_number (sym c.in-Err.is) ∙ c.opening.ensures.refusal ∙ ap opening_refusal line in
    unopened_answer c.args.edition (first_deal c.args.number text) (ap (λ n. eqb n 0) (sym told) ∙ refusal_some c.in-Err.refusal)
    ∙ ap (λ n. n ∷ c.args.number ∷ 0 ∷ []) (sym told)
    ∙ sym c.refused.ensures.answer

pub returns-in-Ok-clause-deal_read : goal.returns-in-Ok-clause-deal_read
returns-in-Ok-clause-deal_read c = deal_read c.args.text.now c.args.number _ _ c.requires.0 (rw (ends _ c.line_end-end.ensures) at c.opened.ensures.lines_read)

pub returns-in-Ok-clause-answered : goal.returns-in-Ok-clause-answered
unfolding line_answer_number
returns-in-Ok-clause-answered c =
    let text = c.args.text.now in
    let number = c.args.number in
    let line = read c.args.edition text (ends _ c.line_end-end.ensures) c.read_line.ensures in
    let opens : 0 ≡ opening_refusal c.read_line.result = ap line_answer_number (sym c.in-Ok.is) ∙ c.opening.ensures.refusal in
    let terms : c.for_terms-deal.result.timed.terms ≡ opening_terms (line_of c.args.edition (first_line text)) = c.for_terms-deal.ensures ∙ c.in-Ok.ensures.terms ∙ ap opening_terms line in
    let lines : ℕ → Terms → List ℕ = λ n t. lines_answer number (number + 1) (opened_deal t) (own_lines (lines_of (drop n text))) in
    opened_answer c.args.edition (first_deal number text) (sym (opens ∙ ap opening_refusal line))
    ∙ ap (lines (length (first_line text))) (sym terms)
    ∙ ap (λ n. lines n c.for_terms-deal.result.timed.terms) (sym (ends _ c.line_end-end.ensures))
    ∙ c.opened.ensures.text_value
