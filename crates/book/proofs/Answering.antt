-- Laws of a deal's answer. Assumes nothing.
use Prim.Native.Nat.{ℕ, ◌+◌, ◌*◌}
use mathlib.Core.Path.{◌≡◌, refl, ◌∙◌, ap}
use mathlib.Core.Bool.{Bool, true, false}
use mathlib.Core.List.{List, [], ◌∷◌, ◌++◌}
use native.Mathlib.Omega.{arith}
use borrow.Author.Tests.{eq-eqb}
use lib.Dec.{eqb}
use lib.ListN.{length, length-append}
use Rattle.base.proofs.Choice.{either, if_true, if_false}
use Rattle.deal.specs.Records.{accepted, record_allowed}
use Rattle.deal.specs.Opening.{opened_deal}
use Rattle.deal.specs.Terms.{terms_refusal}
use Rattle.deal.specs.declared.deal.Deal.{Deal}
use Rattle.deal.proofs.Deals.{collateral_kept_allowed, guarantee_kept_allowed}
use Rattle.relief.specs.Report.{report_refusal}
use Rattle.relief.proofs.Reports.{accepted_unrefused}
use Rattle.lines.specs.Lines.{line_of}
use Rattle.lines.specs.declared.line.Line.{Line}
use Rattle.lines.specs.declared.line.Line.TheVariants.{DealLine, CollateralLine, GuaranteeLine, Malformed}
use Rattle.book.specs.Deals.{DealLines}
use Rattle.book.specs.Answers.{opening_refusal, opened_by, line_refusal, with_line, refused_at, figures_of, reported, lines_answer, deal_answer, answers_from}
use Rattle.book.specs.Opening.{opening_terms}

-- three numbers, one by one
pub componentwise : {a b c x y z : ℕ} → a ≡ x → b ≡ y → c ≡ z → a ∷ b ∷ c ∷ [] ≡ x ∷ y ∷ z ∷ []
componentwise p q r = rw (p, q, r)

-- the line that opens a deal, by its terms
opened_by_lem : (line : Line) → opened_by line ≡ opened_deal (opening_terms line)
unfolding opened_by opening_terms
opened_by_lem (DealLine t) = refl
opened_by_lem (CollateralLine c) = refl
opened_by_lem (GuaranteeLine g) = refl
opened_by_lem Malformed = refl

pub opening_terms_lem : (line : Line) → opening_refusal line ≡ 0 → terms_refusal (opening_terms line) ≡ 0
unfolding opening_refusal opening_terms
opening_terms_lem (DealLine t) e = e
opening_terms_lem (CollateralLine c) e = absurd (omega (arith, e))
opening_terms_lem (GuaranteeLine g) e = absurd (omega (arith, e))
opening_terms_lem Malformed e = absurd (omega (arith, e))

-- a deal's answer from that line on
pub opened_answer : (edition : ℕ) (deal : DealLines) → opening_refusal (line_of edition deal.opening) ≡ 0
    → deal_answer edition deal ≡ lines_answer deal.number (deal.number + 1) (opened_deal (opening_terms (line_of edition deal.opening))) deal.further
unfolding deal_answer
opened_answer edition deal e =
    if_true _ _ _ (eq-eqb _ 0 e)
    ∙ ap (λ d. lines_answer deal.number (deal.number + 1) d deal.further) (opened_by_lem (line_of edition deal.opening))

pub unopened_answer : (edition : ℕ) (deal : DealLines) → eqb (opening_refusal (line_of edition deal.opening)) 0 ≡ false
    → deal_answer edition deal ≡ opening_refusal (line_of edition deal.opening) ∷ deal.number ∷ 0 ∷ []
unfolding deal_answer refused_at
unopened_answer edition deal e = if_false _ _ _ e

-- no line takes a deal out of those that adding takes
pub line_allowed : (d : Deal) (line : Line) → record_allowed d ≡ true → record_allowed (with_line d line) ≡ true
unfolding with_line
line_allowed d (CollateralLine c) h = collateral_kept_allowed d c h
line_allowed d (GuaranteeLine g) h = guarantee_kept_allowed d g h
line_allowed d (DealLine t) h = h
line_allowed d Malformed h = h

-- from one more line
module _ (opening number : ℕ) (d : Deal) (line : List ℕ) (lines : List (List ℕ)) where
  -- what it says
  abbrev pub said_by : Line
  said_by = line_of d.terms.edition line

  pub accepted_line : eqb (line_refusal d said_by) 0 ≡ true → lines_answer opening number d (line ∷ lines) ≡ lines_answer opening (number + 1) (with_line d said_by) lines
  unfolding lines_answer
  accepted_line e = if_true _ _ _ e

  pub refused_line : eqb (line_refusal d said_by) 0 ≡ false → lines_answer opening number d (line ∷ lines) ≡ line_refusal d said_by ∷ number ∷ 0 ∷ []
  unfolding lines_answer refused_at
  refused_line e = if_false _ _ _ e

-- and after the last
pub no_more_lines : (opening number : ℕ) (d : Deal) → accepted d ≡ true → lines_answer opening number d [] ≡ figures_of d
unfolding lines_answer reported
no_more_lines opening number d h = if_true _ _ _ (eq-eqb _ 0 (accepted_unrefused d h))

-- the answers to several deals
pub no_answers : (edition serial : ℕ) → answers_from edition serial [] ≡ []
unfolding answers_from
no_answers edition serial = refl

pub answers_more : (edition serial : ℕ) (deal : DealLines) (deals : List DealLines) → answers_from edition serial (deal ∷ deals) ≡ serial ∷ (deal_answer edition deal ++ answers_from edition (serial + 1) deals)
unfolding answers_from
answers_more edition serial deal deals = refl

-- a deal's answer is three numbers behind its serial
lines_three : (opening number : ℕ) (d : Deal) (lines : List (List ℕ)) → length (lines_answer opening number d lines) ≡ 3
unfolding lines_answer reported refused_at
lines_three opening number d [] = either (λ (l : List ℕ). length l ≡ 3) (eqb (report_refusal d) 0) (λ e. refl) (λ e. refl)
lines_three opening number d (line ∷ lines) =
    either (λ (l : List ℕ). length l ≡ 3) (eqb (line_refusal d (line_of d.terms.edition line)) 0) (λ e. lines_three opening (number + 1) (with_line d (line_of d.terms.edition line)) lines) (λ e. refl)

module _ (edition : ℕ) where
  deal_three : (deal : DealLines) → length (deal_answer edition deal) ≡ 3
  unfolding deal_answer
  deal_three deal = go (eqb (opening_refusal (line_of edition deal.opening)) 0) refl
    where
      go : (t : Bool) → eqb (opening_refusal (line_of edition deal.opening)) 0 ≡ t → length (deal_answer edition deal) ≡ 3
      go true e = ap length (if_true _ _ _ e) ∙ lines_three deal.number (deal.number + 1) (opened_by (line_of edition deal.opening)) deal.further
      go false e = ap length (unopened_answer edition deal e)

  pub answers_long : (serial : ℕ) (deals : List DealLines) → length (answers_from edition serial deals) ≡ 4 * length deals
  answers_long serial [] = ap length (no_answers edition serial)
  answers_long serial (deal ∷ deals) =
      let more = length-append (deal_answer edition deal) (answers_from edition (serial + 1) deals) in
      let rest = answers_long (serial + 1) deals in
      ap length (answers_more edition serial deal deals) ∙ omega (arith, deal_three deal, more, rest)
