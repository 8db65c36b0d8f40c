-- What the operations keep: an accepted opening is an accepted record, an accepted addition to one is one again, and a
-- refused addition leaves an equal deal. Assumes nothing.
use Prim.Native.Nat.{ℕ}
use mathlib.Core.Path.{◌≡◌, refl}
use mathlib.Core.Bool.{true, false, ◌&&◌}
use mathlib.Core.List.{List}
use lib.Dec.{eqb}
use borrow.Author.Tests.{eq-eqb, eqb-true}
use Rattle.base.specs.FirstMet.{Test, first_met}
use Rattle.base.proofs.Choice.{either, if_true, if_false, through}
use Rattle.base.proofs.Every.{both}
use Rattle.base.proofs.FirstMet.{distinct, none_exactly, not_met}
use Rattle.base.proofs.Tests.{and_true, not_false, told_not_true}
use Rattle.deal.specs.Terms.{terms_refusal}
use Rattle.deal.specs.Collateral.{collateral_tests, collateral_refusal, collateral_list_allowed, collateral_list_tests, collateral_list_refusal, collateral_list_with, append_collateral}
use Rattle.deal.specs.Guarantees.{guarantee_tests, guarantee_refusal, guarantee_list_allowed, guarantee_list_tests, guarantee_list_refusal, guarantee_list_with, append_guarantee}
use Rattle.deal.specs.Records.{accepted, deal_of, record_allowed, without_protection}
use Rattle.deal.specs.Opening.{opened_deal}
use Rattle.deal.specs.Adding.{record_tests, add_collateral_tests, add_collateral_refusal, with_collateral, add_guarantee_tests, add_guarantee_refusal, with_guarantee}
use Rattle.deal.specs.declared.terms.Terms.{Terms}
use Rattle.deal.specs.declared.collateral.Collateral.{Collateral}
use Rattle.deal.specs.declared.collateral.CollateralList.{CollateralList}
use Rattle.deal.specs.declared.guarantee.Guarantee.{Guarantee}
use Rattle.deal.specs.declared.guarantee.GuaranteeList.{GuaranteeList}
use Rattle.deal.specs.declared.deal.Deal.{Deal}
use Rattle.deal.proofs.Cases.{zero_refused}
use Rattle.deal.proofs.Lists.{still_allowed}

-- the two tests of a record
pub accepted_allowed : (d : Deal) → accepted d ≡ true → record_allowed d ≡ true
unfolding accepted
accepted_allowed d e = e

pub allowed_accepted : (d : Deal) → record_allowed d ≡ true → accepted d ≡ true
unfolding accepted
allowed_accepted d e = e

-- what a record that adding takes is made of
pub allowed_parts : (d : Deal) → record_allowed d ≡ true →
    (terms_refusal d.terms ≡ 0) × ((collateral_list_allowed d.collateral ≡ true) × (guarantee_list_allowed d.guarantees ≡ true))
unfolding record_allowed
allowed_parts d e =
    let outer = both (eqb (terms_refusal d.terms) 0 && collateral_list_allowed d.collateral) (guarantee_list_allowed d.guarantees) e in
    let inner = both (eqb (terms_refusal d.terms) 0) (collateral_list_allowed d.collateral) outer.0 in
    (eqb-true _ 0 inner.0, (inner.1, outer.1))

-- Opening

pub new_accepted : (t : Terms) → terms_refusal t ≡ 0 → accepted (opened_deal t) ≡ true
unfolding accepted record_allowed opened_deal collateral_list_allowed guarantee_list_allowed
new_accepted t e =
    let q = eq-eqb (terms_refusal t) 0 e in
    rw (if_true _ (without_protection t) _ q, q)

-- what stands beside a refusal is no deal
pub refused_not_accepted : (t : Terms) → eqb (terms_refusal t) 0 ≡ false → accepted (opened_deal t) ≡ false
unfolding accepted record_allowed opened_deal
refused_not_accepted t e = rw (if_false _ _ _ e, zero_refused) refl

-- Adding

module _ (d : Deal) (tests : List (Test ℕ)) where
  pub past_40 : record_allowed d ≡ true → first_met (record_tests d tests) ≡ first_met tests
  past_40 h = not_met 40 _ _ (not_false _ h)

  not_40 : distinct (record_tests d tests) ≡ true → first_met (record_tests d tests) ≡ 0 → record_allowed d ≡ true
  not_40 n e = told_not_true (record_allowed d) (record_allowed d) refl (none_exactly (record_tests d tests) n e).0

-- Adding collateral

module _ (l : CollateralList) (c : Collateral) where
  pub collateral_list_added : collateral_list_refusal l c ≡ 0 → collateral_list_with l c ≡ append_collateral l c
  unfolding collateral_list_with
  collateral_list_added e = if_true _ _ _ (eq-eqb _ 0 e)

  pub collateral_list_allowed_lem : collateral_list_allowed l ≡ true → collateral_list_allowed (collateral_list_with l c) ≡ true
  unfolding collateral_list_allowed collateral_list_with collateral_list_refusal collateral_list_tests collateral_refusal collateral_tests
  collateral_list_allowed_lem h =
      either (λ m. collateral_list_allowed m ≡ true) (eqb (collateral_list_refusal l c) 0) (λ e. still_allowed collateral_tests l.items l.count c refl (eqb-true _ 0 e) h) (λ e. h)

module _ (d : Deal) (c : Collateral) where
  pub collateral_refused : eqb (add_collateral_refusal d c) 0 ≡ false → with_collateral d c ≡ d
  unfolding with_collateral
  collateral_refused e = if_false _ _ _ e

  -- a record that adding takes: its list decides
  pub collateral_by_list : record_allowed d ≡ true → add_collateral_refusal d c ≡ collateral_list_refusal d.collateral c
  unfolding add_collateral_refusal add_collateral_tests collateral_list_refusal
  collateral_by_list h = past_40 d _ h

  pub collateral_with : record_allowed d ≡ true → with_collateral d c ≡ deal_of d.terms (collateral_list_with d.collateral c) d.guarantees
  unfolding with_collateral collateral_list_with
  collateral_with h = rw (collateral_by_list h) (through (λ l. deal_of d.terms l d.guarantees) _ _ _)

  pub collateral_kept_allowed : record_allowed d ≡ true → record_allowed (with_collateral d c) ≡ true
  unfolding record_allowed
  collateral_kept_allowed h =
      let p = allowed_parts d h in
      rw (collateral_with h) (and_true _ _ (and_true _ _ (eq-eqb _ 0 p.0) (collateral_list_allowed_lem d.collateral c p.1.0)) p.1.1)

  -- what an addition that is not refused tells
  pub collateral_added_allowed : add_collateral_refusal d c ≡ 0 → record_allowed d ≡ true
  unfolding add_collateral_refusal add_collateral_tests collateral_list_tests collateral_tests
  collateral_added_allowed e = not_40 d _ refl e

  pub collateral_added_accepted : add_collateral_refusal d c ≡ 0 → accepted (with_collateral d c) ≡ true
  collateral_added_accepted e = allowed_accepted _ (collateral_kept_allowed (collateral_added_allowed e))

-- Adding a guarantee

module _ (l : GuaranteeList) (g : Guarantee) where
  pub guarantee_list_added : guarantee_list_refusal l g ≡ 0 → guarantee_list_with l g ≡ append_guarantee l g
  unfolding guarantee_list_with
  guarantee_list_added e = if_true _ _ _ (eq-eqb _ 0 e)

  pub guarantee_list_allowed_lem : guarantee_list_allowed l ≡ true → guarantee_list_allowed (guarantee_list_with l g) ≡ true
  unfolding guarantee_list_allowed guarantee_list_with guarantee_list_refusal guarantee_list_tests guarantee_refusal guarantee_tests
  guarantee_list_allowed_lem h =
      either (λ m. guarantee_list_allowed m ≡ true) (eqb (guarantee_list_refusal l g) 0) (λ e. still_allowed guarantee_tests l.items l.count g refl (eqb-true _ 0 e) h) (λ e. h)

module _ (d : Deal) (g : Guarantee) where
  pub guarantee_refused : eqb (add_guarantee_refusal d g) 0 ≡ false → with_guarantee d g ≡ d
  unfolding with_guarantee
  guarantee_refused e = if_false _ _ _ e

  -- a record that adding takes: its list decides
  pub guarantee_by_list : record_allowed d ≡ true → add_guarantee_refusal d g ≡ guarantee_list_refusal d.guarantees g
  unfolding add_guarantee_refusal add_guarantee_tests guarantee_list_refusal
  guarantee_by_list h = past_40 d _ h

  pub guarantee_with : record_allowed d ≡ true → with_guarantee d g ≡ deal_of d.terms d.collateral (guarantee_list_with d.guarantees g)
  unfolding with_guarantee guarantee_list_with
  guarantee_with h = rw (guarantee_by_list h) (through (λ l. deal_of d.terms d.collateral l) _ _ _)

  pub guarantee_kept_allowed : record_allowed d ≡ true → record_allowed (with_guarantee d g) ≡ true
  unfolding record_allowed
  guarantee_kept_allowed h =
      let p = allowed_parts d h in
      rw (guarantee_with h) (and_true _ _ (and_true _ _ (eq-eqb _ 0 p.0) p.1.0) (guarantee_list_allowed_lem d.guarantees g p.1.1))

  -- what an addition that is not refused tells
  pub guarantee_added_allowed : add_guarantee_refusal d g ≡ 0 → record_allowed d ≡ true
  unfolding add_guarantee_refusal add_guarantee_tests guarantee_list_tests guarantee_tests
  guarantee_added_allowed e = not_40 d _ refl e

  pub guarantee_added_accepted : add_guarantee_refusal d g ≡ 0 → accepted (with_guarantee d g) ≡ true
  guarantee_added_accepted e = allowed_accepted _ (guarantee_kept_allowed (guarantee_added_allowed e))
