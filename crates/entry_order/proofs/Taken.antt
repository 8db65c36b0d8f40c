-- Which lines of a deal are all taken, and what the deal then holds: neither is asked of their order. Assumes nothing.
use Prim.Native.Nat.{ℕ, ◌+◌, ◌≤◌}
use mathlib.Core.Path.{◌≡◌, refl, sym, ap, ◌∙◌}
use mathlib.Core.Bool.{Bool, true, false}
use mathlib.Core.List.{List, [], ◌∷◌, ◌++◌, append_assoc, append-nil, map}
use native.Mathlib.Omega.{arith}
use borrow.Author.Tests.{eq-eqb, eqb-true}
use lib.Dec.{eqb}
use lib.ListN.{length, length-append}
use Rattle.base.specs.All.{all_pass}
use Rattle.base.specs.Reordered.{Reordered}
use Rattle.base.proofs.Choice.{never}
use Rattle.base.proofs.Every.{both}
use Rattle.base.proofs.Reordered.{all_reordered, brought, brought_reordered, length_reordered}
use Rattle.base.proofs.Tests.{and_true}
use Rattle.deal.specs.Lists.{list_limit}
use Rattle.deal.specs.Records.{deal_with, record_allowed}
use Rattle.deal.specs.declared.terms.Terms.{Terms}
use Rattle.deal.specs.declared.collateral.Collateral.{Collateral}
use Rattle.deal.specs.declared.guarantee.Guarantee.{Guarantee}
use Rattle.deal.specs.declared.deal.Deal.{Deal}
use Rattle.deal.proofs.Deals.{allowed_accepted}
use Rattle.deal_laws.proofs.Adding.{collateral_taken, guarantee_taken, take_collateral, take_guarantee, with_collateral_lem, with_guarantee_lem}
use Rattle.deal_laws.proofs.Exact.{accepted_fits}
use Rattle.deal_laws.proofs.Views.{collateral_fits, guarantee_fits}
use Rattle.lines.specs.Lines.{line_of}
use Rattle.lines.specs.declared.line.Line.{Line}
use Rattle.lines.specs.declared.line.Line.TheVariants.{DealLine, CollateralLine, GuaranteeLine, Malformed}
use Rattle.book.specs.Answers.{figures_of, line_refusal, lines_answer, with_line}
use Rattle.book.proofs.Answering.{accepted_line, line_allowed, no_more_lines, refused_line}
use Rattle.entry_order.specs.Keyed.{refusal_in}

-- the collateral that a line says, and the guarantees and swaps
abbrev pub collateral_said : Line → List Collateral
collateral_said (CollateralLine c) = c ∷ []
collateral_said (GuaranteeLine g) = []
collateral_said (DealLine t) = []
collateral_said Malformed = []

abbrev pub guarantees_said : Line → List Guarantee
guarantees_said (CollateralLine c) = []
guarantees_said (GuaranteeLine g) = g ∷ []
guarantees_said (DealLine t) = []
guarantees_said Malformed = []

-- a line that says an item whose fields adding takes
abbrev pub line_fits : Line → Bool
line_fits (CollateralLine c) = collateral_fits c
line_fits (GuaranteeLine g) = guarantee_fits g
line_fits (DealLine t) = false
line_fits Malformed = false

-- lines that are all taken behind these items: each says an item that adding takes, and both lists have room for theirs
pub record Taken (cs : List Collateral) (gs : List Guarantee) (said : List Line) : Type 0 where
  pub fits : all_pass said line_fits ≡ true
  pub collateral : length cs + length (brought collateral_said said) ≤ list_limit
  pub guarantees : length gs + length (brought guarantees_said said) ≤ list_limit

pub taken_any_order : (cs : List Collateral) (gs : List Guarantee) {said said' : List Line} → Reordered said said' → Taken cs gs said → Taken cs gs said'
taken_any_order cs gs r t = record {
  fits = all_reordered line_fits r t.fits;
  collateral = omega (arith, t.collateral, length_reordered (brought_reordered collateral_said r));
  guarantees = omega (arith, t.guarantees, length_reordered (brought_reordered guarantees_said r));
}

-- ---- one line
module _ (t : Terms) (cs : List Collateral) (gs : List Guarantee) (h : record_allowed (deal_with t cs gs) ≡ true) where
  abbrev held : Deal
  held = deal_with t cs gs

  within_limits : (length cs ≤ list_limit) × (length gs ≤ list_limit)
  within_limits = let f = accepted_fits held (allowed_accepted held h) in (f.collateral_count, f.guarantee_count)

  line_taken : (line : Line) → line_refusal held line ≡ 0 → Taken cs gs (line ∷ [])
  unfolding line_refusal brought
  line_taken (CollateralLine c) e =
      let f = collateral_taken t cs gs h c e in
      record { fits = and_true _ _ (eq-eqb _ 0 f.1) refl; collateral = omega (arith, f.0); guarantees = omega (arith, within_limits.1) }
  line_taken (GuaranteeLine g) e =
      let f = guarantee_taken t cs gs h g e in
      record { fits = and_true _ _ (eq-eqb _ 0 f.1) refl; collateral = omega (arith, within_limits.0); guarantees = omega (arith, f.0) }
  line_taken (DealLine terms) e = absurd (omega (arith, e))
  line_taken Malformed e = absurd (omega (arith, e))

  take_line : (line : Line) → Taken cs gs (line ∷ []) → line_refusal held line ≡ 0
  unfolding line_refusal brought
  take_line (CollateralLine c) k =
      take_collateral t cs gs h c (omega (arith, k.collateral), eqb-true _ 0 (both (collateral_fits c) true k.fits).0)
  take_line (GuaranteeLine g) k =
      take_guarantee t cs gs h g (omega (arith, k.guarantees), eqb-true _ 0 (both (guarantee_fits g) true k.fits).0)
  take_line (DealLine terms) k = absurd (never k.fits refl)
  take_line Malformed k = absurd (never k.fits refl)

  with_line_lem : (line : Line) → Taken cs gs (line ∷ []) → with_line held line ≡ deal_with t (cs ++ collateral_said line) (gs ++ guarantees_said line)
  unfolding with_line brought
  with_line_lem (CollateralLine c) k =
      with_collateral_lem t cs gs h c (omega (arith, k.collateral), eqb-true _ 0 (both (collateral_fits c) true k.fits).0)
      ∙ rw (append-nil gs) refl
  with_line_lem (GuaranteeLine g) k =
      with_guarantee_lem t cs gs h g (omega (arith, k.guarantees), eqb-true _ 0 (both (guarantee_fits g) true k.fits).0)
      ∙ rw (append-nil cs) refl
  with_line_lem (DealLine terms) k = absurd (never k.fits refl)
  with_line_lem Malformed k = absurd (never k.fits refl)

-- ---- all lines of a deal, opened by the line with this number
module _ (t : Terms) (opening : ℕ) where
  abbrev pub said_by : List (List ℕ) → List Line
  said_by lines = map (line_of t.edition) lines

  -- what the deal holds behind these items and lines
  abbrev pub holding : List Collateral → List Guarantee → List Line → Deal
  holding cs gs said = deal_with t (cs ++ brought collateral_said said) (gs ++ brought guarantees_said said)

  -- lines of which the first is taken, and then the others
  both_taken : (cs : List Collateral) (gs : List Guarantee) (line : Line) (said : List Line) →
      Taken cs gs (line ∷ []) → Taken (cs ++ collateral_said line) (gs ++ guarantees_said line) said → Taken cs gs (line ∷ said)
  unfolding brought
  both_taken cs gs line said one more = record {
    fits = and_true _ _ (both (line_fits line) true one.fits).0 more.fits;
    collateral = omega (arith, more.collateral, length-append cs (collateral_said line), length-append (collateral_said line) (brought collateral_said said));
    guarantees = omega (arith, more.guarantees, length-append gs (guarantees_said line), length-append (guarantees_said line) (brought guarantees_said said));
  }

  first_taken : (cs : List Collateral) (gs : List Guarantee) (line : Line) (said : List Line) → Taken cs gs (line ∷ said) → Taken cs gs (line ∷ [])
  unfolding brought
  first_taken cs gs line said k = record {
    fits = and_true _ _ (both (line_fits line) (all_pass said line_fits) k.fits).0 refl;
    collateral = omega (
      arith,
      k.collateral,
      length-append (collateral_said line) (brought collateral_said said),
      length-append (collateral_said line) (brought collateral_said []),
    );
    guarantees = omega (
      arith,
      k.guarantees,
      length-append (guarantees_said line) (brought guarantees_said said),
      length-append (guarantees_said line) (brought guarantees_said []),
    );
  }

  others_taken : (cs : List Collateral) (gs : List Guarantee) (line : Line) (said : List Line) → Taken cs gs (line ∷ said) →
      Taken (cs ++ collateral_said line) (gs ++ guarantees_said line) said
  unfolding brought
  others_taken cs gs line said k = record {
    fits = (both (line_fits line) (all_pass said line_fits) k.fits).1;
    collateral = omega (arith, k.collateral, length-append cs (collateral_said line), length-append (collateral_said line) (brought collateral_said said));
    guarantees = omega (arith, k.guarantees, length-append gs (guarantees_said line), length-append (guarantees_said line) (brought guarantees_said said));
  }

  still_held : (cs : List Collateral) (gs : List Guarantee) (h : record_allowed (deal_with t cs gs) ≡ true) (line : Line) → Taken cs gs (line ∷ []) →
      record_allowed (deal_with t (cs ++ collateral_said line) (gs ++ guarantees_said line)) ≡ true
  still_held cs gs h line k = ap record_allowed (sym (with_line_lem t cs gs h line k)) ∙ line_allowed (deal_with t cs gs) line h

  -- where the answer is no refusal, every line was taken
  pub all_taken : (number : ℕ) (lines : List (List ℕ)) (cs : List Collateral) (gs : List Guarantee) → record_allowed (deal_with t cs gs) ≡ true →
      refusal_in (lines_answer opening number (deal_with t cs gs) lines) ≡ 0 → Taken cs gs (said_by lines)
  unfolding brought
  all_taken number [] cs gs h e =
      let w = within_limits t cs gs h in
      record { fits = refl; collateral = omega (arith, w.0); guarantees = omega (arith, w.1) }
  all_taken number (line ∷ lines) cs gs h e =
      go (λ cs' gs' h' e'. all_taken (number + 1) lines cs' gs' h' e') (eqb (line_refusal d l) 0) refl
    where
      d : Deal
      d = deal_with t cs gs

      l : Line
      l = line_of t.edition line

      go : ((cs' : List Collateral) (gs' : List Guarantee) → record_allowed (deal_with t cs' gs') ≡ true →
          refusal_in (lines_answer opening (number + 1) (deal_with t cs' gs') lines) ≡ 0 → Taken cs' gs' (said_by lines)) →
          (b : Bool) → eqb (line_refusal d l) 0 ≡ b → Taken cs gs (l ∷ said_by lines)
      go later true q =
          let k = line_taken t cs gs h l (eqb-true _ 0 q) in
          both_taken cs gs l (said_by lines) k
          (later (cs ++ collateral_said l) (gs ++ guarantees_said l) (still_held cs gs h l k)
          (ap (λ x. refusal_in (lines_answer opening (number + 1) x lines)) (sym (with_line_lem t cs gs h l k)) ∙ ap refusal_in (sym (accepted_line opening number d line lines q)) ∙ e))
      go later false q =
          absurd (never (eq-eqb _ 0 (ap refusal_in (sym (refused_line opening number d line lines q)) ∙ e)) q)

  -- and where every line is taken, the answer is the figures of the deal with all these items, which is accepted
  pub taken_answered : (number : ℕ) (lines : List (List ℕ)) (cs : List Collateral) (gs : List Guarantee) → record_allowed (deal_with t cs gs) ≡ true →
      Taken cs gs (said_by lines) →
      (lines_answer opening number (deal_with t cs gs) lines ≡ figures_of (holding cs gs (said_by lines))) × (record_allowed (holding cs gs (said_by lines)) ≡ true)
  unfolding brought
  taken_answered number [] cs gs h k =
      rw (append-nil cs, append-nil gs) (no_more_lines opening number (deal_with t cs gs) (allowed_accepted _ h), h)
  taken_answered number (line ∷ lines) cs gs h k =
      let d = deal_with t cs gs in
      let l = line_of t.edition line in
      let one = first_taken cs gs l (said_by lines) k in
      let taken = eq-eqb _ 0 (take_line t cs gs h l one) in
      let more = taken_answered (number + 1) lines (cs ++ collateral_said l) (gs ++ guarantees_said l) (still_held cs gs h l one) (others_taken cs gs l (said_by lines) k) in
      rw (
        sym (append_assoc cs (collateral_said l) (brought collateral_said (said_by lines))),
        sym (append_assoc gs (guarantees_said l) (brought guarantees_said (said_by lines))),
      )
      (accepted_line opening number d line lines taken ∙ ap (λ x. lines_answer opening (number + 1) x lines) (with_line_lem t cs gs h l one) ∙ more.0, more.1)
