-- A deal of a book is answered by a refused line, never with 40, or by the report of an accepted deal. Assumes nothing.
use Prim.Native.Nat.{ℕ, ◌+◌}
use mathlib.Core.Path.{◌≡◌, refl}
use mathlib.Core.Bool.{Bool, true, false}
use mathlib.Core.List.{List, [], ◌∷◌}
use borrow.Author.Tests.{eqb-true}
use lib.Dec.{eqb}
use Rattle.base.proofs.Choice.{either, never}
use Rattle.base.proofs.FirstMet.{first_holds}
use Rattle.deal.specs.Terms.{terms_tests, terms_refusal}
use Rattle.deal.specs.Records.{record_allowed}
use Rattle.deal.specs.declared.deal.Deal.{Deal}
use Rattle.deal.specs.declared.terms.Terms.{Terms}
use Rattle.deal.proofs.Deals.{accepted_allowed, allowed_accepted, new_accepted}
use Rattle.deal_laws.proofs.Exact.{collateral_40, guarantee_40}
use Rattle.lines.specs.Lines.{line_of}
use Rattle.lines.specs.declared.line.Line.{Line}
use Rattle.lines.specs.declared.line.Line.TheVariants.{DealLine, CollateralLine, GuaranteeLine, Malformed}
use Rattle.book.specs.Deals.{DealLines}
use Rattle.book.specs.Answers.{opening_refusal, opened_by, line_refusal, with_line, lines_answer, deal_answer}
use Rattle.book_laws.specs.Parts.{AnsweredBy, by_line, by_report}
use Rattle.book.proofs.Answering.{line_allowed, no_more_lines}

-- a refusal that is 40 only of records that are not allowed
not_40 : (refusal : ℕ) (d : Deal) → (refusal ≡ 40 → record_allowed d ≡ false) → record_allowed d ≡ true → eqb refusal 40 ≡ false
not_40 refusal d only h = go (eqb refusal 40) refl
  where
    go : (t : Bool) → eqb refusal 40 ≡ t → eqb refusal 40 ≡ false
    go true e = absurd (never h (only (eqb-true refusal 40 e)))
    go false e = e

terms_not_40 : (t : Terms) → eqb (terms_refusal t) 40 ≡ false
unfolding terms_refusal terms_tests
terms_not_40 t = first_holds 0 (λ n. eqb n 40 ≡ false) (terms_tests t) (refl, (refl, (refl, (refl, (refl, (refl, (refl, tt))))))) (λ none. refl)

opening_not_40 : (line : Line) → eqb (opening_refusal line) 40 ≡ false
unfolding opening_refusal
opening_not_40 (DealLine t) = terms_not_40 t
opening_not_40 (CollateralLine c) = refl
opening_not_40 (GuaranteeLine g) = refl
opening_not_40 Malformed = refl

pub opening_allowed : (line : Line) → eqb (opening_refusal line) 0 ≡ true → record_allowed (opened_by line) ≡ true
unfolding opening_refusal opened_by
opening_allowed (DealLine t) e = accepted_allowed _ (new_accepted t (eqb-true (terms_refusal t) 0 e))
opening_allowed (CollateralLine c) e = absurd (never e refl)
opening_allowed (GuaranteeLine g) e = absurd (never e refl)
opening_allowed Malformed e = absurd (never e refl)

line_not_40 : (d : Deal) (line : Line) → record_allowed d ≡ true → eqb (line_refusal d line) 40 ≡ false
unfolding line_refusal
line_not_40 d (CollateralLine c) h = not_40 _ d (collateral_40 d c).0 h
line_not_40 d (GuaranteeLine g) h = not_40 _ d (guarantee_40 d g).0 h
line_not_40 d (DealLine t) h = refl
line_not_40 d Malformed h = refl

lines_answered : (opening number : ℕ) (d : Deal) (lines : List (List ℕ)) → record_allowed d ≡ true → AnsweredBy (lines_answer opening number d lines)
unfolding lines_answer
lines_answered opening number d [] h = let a = allowed_accepted d h in by_report d a (no_more_lines opening number d a)
lines_answered opening number d (line ∷ lines) h =
    either AnsweredBy (eqb (line_refusal d (line_of d.terms.edition line)) 0)
    (λ e. lines_answered opening (number + 1) (with_line d (line_of d.terms.edition line)) lines (line_allowed d (line_of d.terms.edition line) h))
    (λ e. by_line (line_refusal d (line_of d.terms.edition line)) number refl e (line_not_40 d (line_of d.terms.edition line) h))

-- so no answer in a book has refusal 40, and none that has refusal 0 reports a record that is not accepted
pub each_answered : (edition : ℕ) (deal : DealLines) → AnsweredBy (deal_answer edition deal)
unfolding deal_answer
each_answered edition deal =
    let line = line_of edition deal.opening in
    either AnsweredBy (eqb (opening_refusal line) 0)
    (λ e. lines_answered deal.number (deal.number + 1) (opened_by line) deal.further (opening_allowed line e))
    (λ e. by_line (opening_refusal line) deal.number refl e (opening_not_40 line))
