-- A deal while its further lines are read: its lists hold the items so far, and the answer so far and the lines to come make the whole
-- one. Assumes nothing.
use Prim.Native.Nat.{ℕ, ◌+◌, ◌≤◌}
use mathlib.Core.Path.{◌≡◌, refl, sym, ◌∙◌, ap, ap₂, subst}
use mathlib.Core.Bool.{true, false}
use mathlib.Core.List.{List, [], ◌∷◌}
use borrow.Author.Tests.{eq-eqb}
use lib.Dec.{eqb}
use lib.ListN.{length, drop}
use Rattle.base.proofs.Choice.{if_true}
use Rattle.text.specs.Text.{first_line, lines_of}
use Rattle.deal.specs.Terms.{terms_refusal}
use Rattle.deal.specs.Collateral.{collateral_list_refusal, collateral_list_with, empty_collateral}
use Rattle.deal.specs.Guarantees.{guarantee_list_refusal, guarantee_list_with, empty_guarantees}
use Rattle.deal.specs.Records.{record_allowed, deal_of, without_protection}
use Rattle.deal.specs.Opening.{opened_deal}
use Rattle.deal.specs.Editions.{table_for}
use Rattle.deal.specs.Views.{view_of}
use Rattle.deal.specs.declared.terms.Terms.{Terms}
use Rattle.deal.specs.declared.collateral.Collateral.{Collateral}
use Rattle.deal.specs.declared.collateral.CollateralList.{CollateralList}
use Rattle.deal.specs.declared.guarantee.Guarantee.{Guarantee}
use Rattle.deal.specs.declared.guarantee.GuaranteeList.{GuaranteeList}
use Rattle.deal.proofs.Deals.{accepted_allowed, allowed_accepted, new_accepted, collateral_by_list, collateral_with, guarantee_by_list, guarantee_with}
use Rattle.relief.specs.Exposure.{exposure_after, risk_weighted_amount_of}
use Rattle.relief.proofs.Reports.{exposure_of, rwa_of}
use Rattle.lines.specs.Lines.{line_of}
use Rattle.lines.specs.declared.line.Line.{Line}
use Rattle.lines.specs.declared.line.Line.TheVariants.{DealLine, CollateralLine, GuaranteeLine, Malformed}
use Rattle.book.specs.Answers.{malformed_line, line_refusal, with_line, lines_answer}
use Rattle.book.specs.Items.{item_refusal, with_item}
use Rattle.book.specs.declared.reading.Items.{Items}
use Rattle.book.specs.Deals.{own_lines}
use Rattle.book.specs.Start.{own_first}
use Rattle.book.proofs.Answering.{componentwise, line_allowed, accepted_line, refused_line, no_more_lines}
use Rattle.book.proofs.Grouping.{own_over}
use Rattle.book.proofs.Passing.{OwnLine, own_next, Passed, passed_none, passed_line}

-- what a line does to a deal with these lists: how it is refused, and the lists after it
pub record LineDone (t : Terms) (cs : CollateralList) (gs : GuaranteeList) (said : Line) (refusal : ℕ) (cs' : CollateralList) (gs' : GuaranteeList) : Type 0 where
  pub refused : line_refusal (deal_of t cs gs) said ≡ refusal
  pub held : deal_of t cs' gs' ≡ with_line (deal_of t cs gs) said

-- an item that goes into its list
module _ (t : Terms) (cs : CollateralList) (gs : GuaranteeList) (fits : record_allowed (deal_of t cs gs) ≡ true) where
  pub collateral_done : (c : Collateral) → LineDone t cs gs (CollateralLine c) (collateral_list_refusal cs c) (collateral_list_with cs c) gs
  unfolding line_refusal with_line
  collateral_done c = record { refused = collateral_by_list (deal_of t cs gs) c fits; held = sym (collateral_with (deal_of t cs gs) c fits) }

  pub guarantee_done : (g : Guarantee) → LineDone t cs gs (GuaranteeLine g) (guarantee_list_refusal gs g) cs (guarantee_list_with gs g)
  unfolding line_refusal with_line
  guarantee_done g = record { refused = guarantee_by_list (deal_of t cs gs) g fits; held = sym (guarantee_with (deal_of t cs gs) g fits) }

  -- and a line that is none
  pub deal_done : (t' : Terms) → LineDone t cs gs (DealLine t') malformed_line cs gs
  unfolding line_refusal with_line
  deal_done t' = record { refused = refl; held = refl }

  pub malformed_done : LineDone t cs gs Malformed malformed_line cs gs
  unfolding line_refusal with_line
  malformed_done = record { refused = refl; held = refl }

-- as the items' own function does it
pub item_done : (t : Terms) (i : Items) (fits : record_allowed (deal_of t i.collateral i.guarantees) ≡ true) (said : Line) →
    LineDone t i.collateral i.guarantees said (item_refusal i said) (with_item i said).collateral (with_item i said).guarantees
unfolding item_refusal with_item
item_done t i fits (CollateralLine c) = collateral_done t i.collateral i.guarantees fits c
item_done t i fits (GuaranteeLine g) = guarantee_done t i.collateral i.guarantees fits g
item_done t i fits (DealLine t') = deal_done t i.collateral i.guarantees fits t'
item_done t i fits Malformed = malformed_done t i.collateral i.guarantees fits

-- the same of equals
pub done_as : {t : Terms} {cs cs₁ cs₂ : CollateralList} {gs gs₁ gs₂ : GuaranteeList} {said₁ said₂ : Line} {r₁ r₂ : ℕ} → LineDone t cs gs said₁ r₁ cs₁ gs₁ →
    said₁ ≡ said₂ → r₂ ≡ r₁ → cs₂ ≡ cs₁ → gs₂ ≡ gs₁ → LineDone t cs gs said₂ r₂ cs₂ gs₂
done_as {t} {cs} {gs = gs} d s r c g = record {
  refused = ap (line_refusal (deal_of t cs gs)) (sym s) ∙ d.refused ∙ sym r;
  held = ap₂ (deal_of t) c g ∙ d.held ∙ ap (with_line (deal_of t cs gs)) s;
}

module _ (text : List ℕ) (start number : ℕ) (t : Terms) where
  -- the answer from its first further line on
  abbrev pub whole : List ℕ
  whole = lines_answer number (number + 1) (opened_deal t) (own_lines (lines_of (drop start text)))

  pub record Held (cs : CollateralList) (gs : GuaranteeList) (at next : ℕ) : Type 0 where
    pub passed : Passed text start (number + 1) at next
    pub fits : record_allowed (deal_of t cs gs) ≡ true
    pub answered : whole ≡ lines_answer number next (deal_of t cs gs) (own_lines (lines_of (drop at text)))

  pub held_first : terms_refusal t ≡ 0 → start ≤ length text → Held empty_collateral empty_guarantees start (number + 1)
  unfolding opened_deal
  held_first e h =
      let opened : opened_deal t ≡ without_protection t = if_true _ _ _ (eq-eqb (terms_refusal t) 0 e) in
      record {
        passed = passed_none text start (number + 1) h;
        fits = subst (λ d. record_allowed d ≡ true) opened (accepted_allowed _ (new_accepted t e));
        answered = ap (λ d. lines_answer number (number + 1) d (own_lines (lines_of (drop start text)))) opened;
      }

  module _ (cs : CollateralList) (gs : GuaranteeList) (at next : ℕ) (h : Held cs gs at next) where
    -- the answer, where no line is left
    pub held_answer : own_first (drop at text) ≡ false →
        whole ≡ 0 ∷ exposure_after (table_for t) (view_of (deal_of t cs gs)) ∷ risk_weighted_amount_of (table_for t) (view_of (deal_of t cs gs)) ∷ []
    held_answer over =
        let d = deal_of t cs gs in
        let a = allowed_accepted d h.fits in
        h.answered
        ∙ ap (lines_answer number next d) (own_over (drop at text) over)
        ∙ no_more_lines number next d a
        ∙ componentwise refl (exposure_of (table_for t) d a) (rwa_of (table_for t) d a)

    module _ (end : ℕ) (l : OwnLine text at end) (e : end ≡ at + length (first_line (drop at text))) {refusal : ℕ} {cs' : CollateralList} {gs' : GuaranteeList}
        (done : LineDone t cs gs (line_of t.edition (first_line (drop at text))) refusal cs' gs') where
      -- with the next line
      from_line : whole ≡ lines_answer number next (deal_of t cs gs) (first_line (drop at text) ∷ own_lines (lines_of (drop (at + length (first_line (drop at text))) text)))
      from_line = h.answered ∙ ap (lines_answer number next (deal_of t cs gs)) (own_next text at l.here l.opens)

      pub held_refused : eqb refusal 0 ≡ false → whole ≡ refusal ∷ next ∷ 0 ∷ []
      held_refused r =
          from_line
          ∙ refused_line number next (deal_of t cs gs) (first_line (drop at text)) _ (ap (λ n. eqb n 0) done.refused ∙ r)
          ∙ ap (λ n. n ∷ next ∷ 0 ∷ []) done.refused

      pub held_next : refusal ≡ 0 → Held cs' gs' end (next + 1)
      held_next r = record {
        passed = passed_line text start (number + 1) at next h.passed end l e;
        fits = ap record_allowed done.held ∙ line_allowed (deal_of t cs gs) (line_of t.edition (first_line (drop at text))) h.fits;
        answered =
            from_line
            ∙ accepted_line number next (deal_of t cs gs) (first_line (drop at text)) _ (eq-eqb _ 0 (done.refused ∙ r))
            ∙ ap (λ d. lines_answer number (next + 1) d (own_lines (lines_of (drop (at + length (first_line (drop at text))) text)))) (sym done.held)
            ∙ ap (λ n. lines_answer number (next + 1) (deal_of t cs' gs') (own_lines (lines_of (drop n text)))) (sym e);
      }
