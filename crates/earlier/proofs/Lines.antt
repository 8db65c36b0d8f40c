-- What the lines of a deal do by a set of rules: what is not refused leaves an accepted deal, which holds the edition that its first line was
-- read by. Assumes nothing.
use Prim.Native.Nat.{ℕ, ◌+◌}
use mathlib.Core.Path.{◌≡◌, refl, ap, ◌∙◌}
use mathlib.Core.Bool.{Bool, true}
use mathlib.Core.List.{List, [], ◌∷◌}
use Rattle.std.specs.Prelude.{Option, Some, None}
use borrow.Author.Tests.{eq-eqb}
use lib.Dec.{eqb}
use Rattle.base.specs.All.{all_pass}
use Rattle.base.proofs.Choice.{either, if_true, never}
use Rattle.base.proofs.Every.{both}
use Rattle.base.proofs.Tests.{and_true}
use Rattle.text.specs.Bytes.{byte}
use Rattle.deal.specs.declared.deal.Deal.{Deal}
use Rattle.lines.specs.Lines.{collateral_line, deal_line, guarantee_line, if_read, line_of, swap_line}
use Rattle.lines.specs.declared.line.Line.{Line}
use Rattle.lines.specs.declared.line.Line.TheVariants.{DealLine, CollateralLine, GuaranteeLine, Malformed}
use Rattle.book.specs.Deals.{DealLines, deals_from, opens_deal, own_lines}
use Rattle.earlier.specs.Books.{line_opened_by, line_refusal_by, opening_refusal_by, with_line_by}
use Rattle.earlier.specs.Deals.{accepted_by, add_collateral_refusal_by, add_guarantee_refusal_by, deal_opened_by, with_collateral_by, with_guarantee_by}
use Rattle.earlier.specs.Rules.{Rules}
use Rattle.earlier.proofs.Accepted.{Apart, collateral_accepted, guarantee_accepted, opened_accepted}

-- a line that opens a deal opens it under this edition
abbrev pub Says : ℕ → Line → Type 0
Says edition (DealLine t) = t.edition ≡ edition
Says edition (CollateralLine c) = Unit {0}
Says edition (GuaranteeLine g) = Unit {0}
Says edition Malformed = Unit {0}

-- by what is said of fields that could be read
pub read_says : (P : Line → Type 0) (said : List ℕ → Line) → P Malformed → ((fields : List ℕ) → P (said fields)) → (o : Option (List ℕ)) → P (if_read said o)
unfolding if_read
read_says P said m h None = m
read_says P said m h (Some fields) = h fields

-- by the letter
pub said_edition : (edition : ℕ) (line : List ℕ) → Says edition (line_of edition line)
unfolding line_of deal_line collateral_line guarantee_line swap_line
said_edition edition [] = tt
said_edition edition (letter ∷ rest) =
    either (Says edition) (eqb letter (byte "D")) (λ e. read_says (Says edition) (deal_line edition) tt (λ fields. refl) _)
    (λ e. either (Says edition) (eqb letter (byte "C")) (λ e. read_says (Says edition) collateral_line tt (λ fields. tt) _)
    (λ e. either (Says edition) (eqb letter (byte "G")) (λ e. read_says (Says edition) (guarantee_line edition) tt (λ fields. tt) _)
    (λ e. either (Says edition) (eqb letter (byte "S")) (λ e. read_says (Says edition) (swap_line edition) tt (λ fields. tt) _) (λ e. tt))))

module _ (rules : Rules) where
  pub opening_accepted : (line : Line) → opening_refusal_by rules line ≡ 0 → accepted_by rules (line_opened_by rules line) ≡ true
  unfolding opening_refusal_by line_opened_by
  opening_accepted (DealLine t) e = opened_accepted rules t e
  opening_accepted (CollateralLine c) e = absurd (never (eq-eqb _ 0 e) refl)
  opening_accepted (GuaranteeLine g) e = absurd (never (eq-eqb _ 0 e) refl)
  opening_accepted Malformed e = absurd (never (eq-eqb _ 0 e) refl)

  pub line_accepted : Apart rules → (d : Deal) (line : Line) → accepted_by rules d ≡ true → line_refusal_by rules d line ≡ 0 → accepted_by rules (with_line_by rules d line) ≡ true
  unfolding line_refusal_by with_line_by
  line_accepted apart d (CollateralLine c) a e = collateral_accepted rules d a apart c e
  line_accepted apart d (GuaranteeLine g) a e = guarantee_accepted rules d a apart g e
  line_accepted apart d (DealLine t) a e = a
  line_accepted apart d Malformed a e = a

  pub opened_edition : (edition : ℕ) (line : Line) → Says edition line → opening_refusal_by rules line ≡ 0 → (line_opened_by rules line).terms.edition ≡ edition
  unfolding opening_refusal_by line_opened_by deal_opened_by
  opened_edition edition (DealLine t) s e = ap (λ (d : Deal). d.terms.edition) (if_true _ _ _ (eq-eqb _ 0 e)) ∙ s
  opened_edition edition (CollateralLine c) s e = absurd (never (eq-eqb _ 0 e) refl)
  opened_edition edition (GuaranteeLine g) s e = absurd (never (eq-eqb _ 0 e) refl)
  opened_edition edition Malformed s e = absurd (never (eq-eqb _ 0 e) refl)

  pub same_terms : (d : Deal) (line : Line) → (with_line_by rules d line).terms ≡ d.terms
  unfolding with_line_by with_collateral_by with_guarantee_by
  same_terms d (CollateralLine c) = either (λ (x : Deal). x.terms ≡ d.terms) (eqb (add_collateral_refusal_by rules d c) 0) (λ e. refl) (λ e. refl)
  same_terms d (GuaranteeLine g) = either (λ (x : Deal). x.terms ≡ d.terms) (eqb (add_guarantee_refusal_by rules d g) 0) (λ e. refl) (λ e. refl)
  same_terms d (DealLine t) = refl
  same_terms d Malformed = refl

-- the lines of a deal are among the lines of its book
module _ (p : List ℕ → Bool) where
  own_pass : (lines : List (List ℕ)) → all_pass lines p ≡ true → all_pass (own_lines lines) p ≡ true
  unfolding own_lines
  own_pass [] e = refl
  own_pass (line ∷ lines) e =
      let b = both (p line) _ e in
      either (λ (l : List (List ℕ)). all_pass l p ≡ true) (opens_deal line) (λ h. refl) (λ h. and_true _ _ b.0 (own_pass lines b.1))

  pub deals_pass : (number : ℕ) (lines : List (List ℕ)) → all_pass lines p ≡ true → all_pass (deals_from number lines) (λ deal. all_pass (deal.opening ∷ deal.further) p) ≡ true
  unfolding deals_from
  deals_pass number [] e = refl
  deals_pass number (line ∷ lines) e =
      let b = both (p line) _ e in
      let later = deals_pass (number + 1) lines b.1 in
      either (λ (l : List DealLines). all_pass l (λ deal. all_pass (deal.opening ∷ deal.further) p) ≡ true) (opens_deal line)
      (λ h. and_true _ _ (and_true _ _ b.0 (own_pass lines b.1)) later) (λ h. later)
