-- What lines say by their letters: a deal holds the edition that its lines are read by, and only a line C says collateral. Assumes nothing.
use Rattle.std.proofs.Common.{if◌then◌else◌}
use Prim.Native.Nat.{ℕ, ◌≤◌}
use mathlib.Core.Path.{◌≡◌, refl}
use mathlib.Core.List.{List, [], ◌∷◌, map}
use Rattle.std.specs.Prelude.{Option, Some, None}
use native.Mathlib.Omega.{arith}
use lib.Dec.{eqb}
use lib.ListN.{length, length-append}
use Rattle.base.specs.Reordered.{how_many}
use Rattle.base.specs.Sum.{sum_of}
use Rattle.base.proofs.Choice.{either, if_true}
use Rattle.base.proofs.Reordered.{brought}
use Rattle.text.specs.Bytes.{byte}
use Rattle.deal.specs.Fields.{collateral_width}
use Rattle.lines.specs.Fields.{fields_of}
use Rattle.lines.specs.Lines.{collateral_line, deal_line, guarantee_line, if_read, line_of, swap_line}
use Rattle.lines.specs.declared.line.Line.{Line}
use Rattle.lines.specs.declared.line.Line.TheVariants.{DealLine, CollateralLine, GuaranteeLine, Malformed}
use Rattle.book.specs.Answers.{opening_refusal}
use Rattle.book.specs.Opening.{opening_terms}
use Rattle.entry_order.specs.Keyed.{is_collateral_line}
use Rattle.entry_order.proofs.Taken.{collateral_said}

module _ (edition : ℕ) where
  abbrev HoldsEdition : Line → Type 0
  HoldsEdition (DealLine t) = t.edition ≡ edition
  HoldsEdition (CollateralLine c) = Unit {0}
  HoldsEdition (GuaranteeLine g) = Unit {0}
  HoldsEdition Malformed = Unit {0}

  deal_holds : (o : Option (List ℕ)) → HoldsEdition (if_read (deal_line edition) o)
  unfolding if_read deal_line
  deal_holds None = tt
  deal_holds (Some fields) = refl

  item_holds : (said : List ℕ → Line) → ((fields : List ℕ) → HoldsEdition (said fields)) → (o : Option (List ℕ)) → HoldsEdition (if_read said o)
  unfolding if_read
  item_holds said h None = tt
  item_holds said h (Some fields) = h fields

  line_holds : (line : List ℕ) → HoldsEdition (line_of edition line)
  unfolding line_of collateral_line guarantee_line swap_line
  line_holds [] = tt
  line_holds (letter ∷ rest) =
      either HoldsEdition (eqb letter (byte "D")) (λ e. deal_holds _) (λ e.
      either HoldsEdition (eqb letter (byte "C")) (λ e. item_holds collateral_line (λ fields. tt) _) (λ e.
      either HoldsEdition (eqb letter (byte "G")) (λ e. item_holds (guarantee_line edition) (λ fields. tt) _) (λ e.
      either HoldsEdition (eqb letter (byte "S")) (λ e. item_holds (swap_line edition) (λ fields. tt) _) (λ e. tt))))

  held_edition : (line : Line) → HoldsEdition line → opening_refusal line ≡ 0 → (opening_terms line).edition ≡ edition
  unfolding opening_refusal opening_terms
  held_edition (DealLine t) h e = h
  held_edition (CollateralLine c) h e = absurd (omega (arith, e))
  held_edition (GuaranteeLine g) h e = absurd (omega (arith, e))
  held_edition Malformed h e = absurd (omega (arith, e))

  pub opening_edition : (line : List ℕ) → opening_refusal (line_of edition line) ≡ 0 → (opening_terms (line_of edition line)).edition ≡ edition
  opening_edition line e = held_edition (line_of edition line) (line_holds line) e

  -- what a line says is no more collateral than it has the letter for
  abbrev AtMost : ℕ → Line → Type 0
  AtMost n line = length (collateral_said line) ≤ n

  one_at_most : (line : Line) → AtMost 1 line
  one_at_most (DealLine t) = omega arith
  one_at_most (CollateralLine c) = omega arith
  one_at_most (GuaranteeLine g) = omega arith
  one_at_most Malformed = omega arith

  none_said : (n : ℕ) (said : List ℕ → Line) → ((fields : List ℕ) → length (collateral_said (said fields)) ≡ 0) → (o : Option (List ℕ)) → AtMost n (if_read said o)
  unfolding if_read
  none_said n said h None = omega arith
  none_said n said h (Some fields) = omega (arith, h fields)

  by_letter : (line : List ℕ) → AtMost (if is_collateral_line line then 1 else 0) (line_of edition line)
  unfolding line_of deal_line guarantee_line swap_line
  by_letter [] = omega arith
  by_letter (letter ∷ rest) =
      let n : ℕ = if eqb letter (byte "C") then 1 else 0 in
      either (AtMost n) (eqb letter (byte "D")) (λ e. none_said n (deal_line edition) (λ fields. refl) _) (λ e.
      either (AtMost n) (eqb letter (byte "C")) (λ e. let one : n ≡ 1 = if_true _ _ _ e in omega (arith, one, one_at_most (if_read collateral_line (fields_of collateral_width rest)))) (λ e.
      either (AtMost n) (eqb letter (byte "G")) (λ e. none_said n (guarantee_line edition) (λ fields. refl) _) (λ e.
      either (AtMost n) (eqb letter (byte "S")) (λ e. none_said n (swap_line edition) (λ fields. refl) _) (λ e. omega arith))))

  pub fewer_said : (lines : List (List ℕ)) → length (brought collateral_said (map (line_of edition) lines)) ≤ how_many is_collateral_line lines
  unfolding brought sum_of
  fewer_said [] = omega arith
  fewer_said (line ∷ lines) =
      omega (arith, by_letter line, fewer_said lines, length-append (collateral_said (line_of edition line)) (brought collateral_said (map (line_of edition) lines)))
