-- Adding to a deal that holds these items: it is taken exactly where there is a place and its own fields are right, and the deal then holds one
-- item more, behind the others. Assumes nothing.
use Prim.Native.Nat.{ℕ, ◌+◌, ◌≤◌, ◌<◌}
use mathlib.Core.Path.{◌≡◌, refl, ap, ◌∙◌}
use mathlib.Core.Bool.{true}
use mathlib.Core.List.{List, [], ◌∷◌, ◌++◌}
use mathlib.Core.Logic.{⊎_elim}
use native.Mathlib.Nat.{le_of_suc-le-suc, not-suc-le-zero}
use native.Mathlib.Omega.{arith}
use borrow.Author.Tests.{eq-eqb}
use lib.ListN.{length, drop, set, replicate, length-append}
use Rattle.base.specs.FirstMet.{Test, first_met}
use Rattle.base.specs.Places.{in_places}
use Rattle.base.proofs.Choice.{if_true}
use Rattle.base.proofs.Compare.{side}
use Rattle.deal.specs.Adding.{add_collateral_refusal, add_guarantee_refusal, with_collateral, with_guarantee}
use Rattle.deal.specs.Collateral.{collateral_list_refusal, collateral_list_tests, collateral_refusal, collateral_tests}
use Rattle.deal.specs.Fields.{zero_collateral, zero_guarantee}
use Rattle.deal.specs.Guarantees.{guarantee_list_refusal, guarantee_list_tests, guarantee_refusal, guarantee_tests}
use Rattle.deal.specs.Lists.{list_limit, list_tests}
use Rattle.deal.specs.Opening.{opened_deal}
use Rattle.deal.specs.Records.{deal_with, record_allowed}
use Rattle.deal.specs.Terms.{terms_refusal}
use Rattle.deal.specs.declared.terms.Terms.{Terms}
use Rattle.deal.specs.declared.collateral.Collateral.{Collateral}
use Rattle.deal.specs.declared.guarantee.Guarantee.{Guarantee}
use Rattle.deal.specs.declared.deal.Deal.{Deal}
use Rattle.deal.proofs.Deals.{collateral_by_list, guarantee_by_list}
use Rattle.deal.proofs.Lists.{full_first, own_tests}

-- ---- of both lists
module _ {A : Type 0} (x : A) where
  -- the next place of a list that is held in places
  next_place : (xs places : List A) → length xs < length places →
      set (xs ++ drop (length xs) places) (length xs) x ≡ (xs ++ x ∷ []) ++ drop (length (xs ++ x ∷ [])) places
  next_place xs [] h = absurd (not-suc-le-zero h)
  next_place [] (p ∷ places) h = refl
  next_place (y ∷ xs) (p ∷ places) h = ap (λ (l : List A). y ∷ l) (next_place xs places (le_of_suc-le-suc h))

  held_more : (none : A) (xs : List A) → length xs < list_limit → set (in_places list_limit none xs) (length xs) x ≡ in_places list_limit none (xs ++ x ∷ [])
  held_more none xs h = next_place xs (replicate list_limit none) h

  longer : (xs : List A) → length (xs ++ x ∷ []) ≡ length xs + 1
  longer xs = omega (arith, length-append xs (x ∷ []))

-- there is a place, and the item's own tests refuse nothing
abbrev pub Fits : {A : Type 0} → (A → ℕ) → List A → A → Type 0
Fits refusal xs x = (length xs < list_limit) × (refusal x ≡ 0)

module _ {A : Type 0} (tests : A → List (Test ℕ)) (xs : List A) (x : A) where
  taken_fits : first_met (list_tests tests (length xs) x) ≡ 0 → Fits (λ y. first_met (tests y)) xs x
  taken_fits e =
      ⊎_elim
      (λ (h : length xs < list_limit). let own : first_met (tests x) ≡ 0 = omega (arith, e, own_tests tests (length xs) x h) in (h, own))
      (λ (h : list_limit ≤ length xs). absurd (omega (arith, e, full_first tests (length xs) x h)))
      (side (length xs) list_limit)

  fits_taken : Fits (λ y. first_met (tests y)) xs x → first_met (list_tests tests (length xs) x) ≡ 0
  fits_taken f = own_tests tests (length xs) x f.0 ∙ f.1

-- ---- of a deal
pub opened_holds : (t : Terms) → terms_refusal t ≡ 0 → opened_deal t ≡ deal_with t [] []
unfolding opened_deal
opened_holds t e = if_true _ _ _ (eq-eqb _ 0 e)

module _ (t : Terms) (cs : List Collateral) (gs : List Guarantee) (h : record_allowed (deal_with t cs gs) ≡ true) where
  abbrev held : Deal
  held = deal_with t cs gs

  pub collateral_taken : (c : Collateral) → add_collateral_refusal held c ≡ 0 → Fits collateral_refusal cs c
  unfolding collateral_list_refusal collateral_list_tests collateral_refusal
  collateral_taken c e = taken_fits collateral_tests cs c (omega (arith, e, collateral_by_list held c h))

  pub take_collateral : (c : Collateral) → Fits collateral_refusal cs c → add_collateral_refusal held c ≡ 0
  unfolding collateral_list_refusal collateral_list_tests collateral_refusal
  take_collateral c f = collateral_by_list held c h ∙ fits_taken collateral_tests cs c f

  pub with_collateral_lem : (c : Collateral) → Fits collateral_refusal cs c → with_collateral held c ≡ deal_with t (cs ++ c ∷ []) gs
  unfolding with_collateral
  with_collateral_lem c f =
      if_true _ _ _ (eq-eqb _ 0 (take_collateral c f))
      ∙ rw (held_more c zero_collateral cs f.0, longer c cs) refl

  pub guarantee_taken : (g : Guarantee) → add_guarantee_refusal held g ≡ 0 → Fits guarantee_refusal gs g
  unfolding guarantee_list_refusal guarantee_list_tests guarantee_refusal
  guarantee_taken g e = taken_fits guarantee_tests gs g (omega (arith, e, guarantee_by_list held g h))

  pub take_guarantee : (g : Guarantee) → Fits guarantee_refusal gs g → add_guarantee_refusal held g ≡ 0
  unfolding guarantee_list_refusal guarantee_list_tests guarantee_refusal
  take_guarantee g f = guarantee_by_list held g h ∙ fits_taken guarantee_tests gs g f

  pub with_guarantee_lem : (g : Guarantee) → Fits guarantee_refusal gs g → with_guarantee held g ≡ deal_with t cs (gs ++ g ∷ [])
  unfolding with_guarantee
  with_guarantee_lem g f =
      if_true _ _ _ (eq-eqb _ 0 (take_guarantee g f))
      ∙ rw (held_more g zero_guarantee gs f.0, longer g gs) refl
