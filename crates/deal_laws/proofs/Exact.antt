-- Each refusal exactly where it is due: its own test is met and none before it, and no refusal exactly where no test is met.
-- So opening and adding refuse nothing that they should take. Assumes nothing.
use Prim.Native.Nat.{ℕ, ◌≤◌, ◌<◌}
use mathlib.Core.Path.{◌≡◌, refl}
use mathlib.Core.Bool.{true, false, not, ◌&&◌}
use lib.Dec.{leb, eqb}
use lib.ListN.{length, get_or}
use borrow.Author.Tests.{eq-eqb, eqb-true, le-leb, leb-true}
use Rattle.base.proofs.FirstMet.{exact}
use Rattle.base.specs.FirstMet.{ExactFor}
use Rattle.base.proofs.All.{all_at, all_from}
use Rattle.base.proofs.Every.{both}
use Rattle.base.proofs.Tests.{and_true, not_true, told_not_false}
use Rattle.deal.specs.Ranges.{amount_allowed}
use Rattle.deal.specs.Editions.{edition_known}
use Rattle.deal.specs.Parties.{counterparty_known, party_steps_allowed}
use Rattle.deal.specs.Assets.{goods_known, asset_step_allowed}
use Rattle.deal.specs.Terms.{kind_known, terms_tests, terms_refusal}
use Rattle.deal.specs.Collateral.{collateral_tests, collateral_list_tests, collateral_refusal, collateral_list_allowed}
use Rattle.deal.specs.Guarantees.{guarantee_tests, guarantee_list_tests, guarantee_refusal, guarantee_list_allowed}
use Rattle.deal.specs.Records.{accepted, record_allowed}
use Rattle.deal.specs.Fields.{zero_collateral, zero_guarantee}
use Rattle.deal.specs.Adding.{add_collateral_tests, add_collateral_refusal, add_guarantee_tests, add_guarantee_refusal}
use Rattle.deal.specs.declared.terms.Terms.{Terms}
use Rattle.deal.specs.declared.collateral.Collateral.{Collateral}
use Rattle.deal.specs.declared.guarantee.Guarantee.{Guarantee}
use Rattle.deal.specs.declared.deal.Deal.{Deal}

pub opening_exact : (t : Terms) → ExactFor (terms_refusal t) (terms_tests t)
unfolding terms_refusal terms_tests
opening_exact t = exact (terms_tests t) refl

pub collateral_exact : (d : Deal) (c : Collateral) → ExactFor (add_collateral_refusal d c) (add_collateral_tests d c)
unfolding add_collateral_refusal add_collateral_tests collateral_list_tests collateral_tests
collateral_exact d c = exact (add_collateral_tests d c) refl

pub guarantee_exact : (d : Deal) (g : Guarantee) → ExactFor (add_guarantee_refusal d g) (add_guarantee_tests d g)
unfolding add_guarantee_refusal add_guarantee_tests guarantee_list_tests guarantee_tests
guarantee_exact d g = exact (add_guarantee_tests d g) refl

-- as it reads for one number: opening is refused with 3 exactly if a step is wrong, and neither the amount nor a code is
abbrev Three : Terms → Type 0
Three t =
    (not (amount_allowed t.amount) ≡ false)
    × ((not (counterparty_known t.counterparty && kind_known t.kind && goods_known t.lent && edition_known t.edition) ≡ false)
    × (not (party_steps_allowed t.counterparty && asset_step_allowed t.lent) ≡ true))

pub opening_3 : (t : Terms) → (terms_refusal t ≡ 3 → Three t) × (Three t → terms_refusal t ≡ 3)
unfolding terms_tests terms_refusal
opening_3 t = (opening_exact t).0 3 refl

-- 40 falls exactly on records that are not allowed, whatever is added
pub collateral_40 : (d : Deal) (c : Collateral) → (add_collateral_refusal d c ≡ 40 → record_allowed d ≡ false) × (record_allowed d ≡ false → add_collateral_refusal d c ≡ 40)
unfolding add_collateral_tests add_collateral_refusal collateral_list_tests collateral_tests
collateral_40 d c =
    let e = (collateral_exact d c).0 40 refl in
    (λ h. told_not_false (record_allowed d) (record_allowed d) refl (e.0 h), λ h. e.1 (not_true (record_allowed d) h))

pub guarantee_40 : (d : Deal) (g : Guarantee) → (add_guarantee_refusal d g ≡ 40 → record_allowed d ≡ false) × (record_allowed d ≡ false → add_guarantee_refusal d g ≡ 40)
unfolding add_guarantee_tests add_guarantee_refusal guarantee_list_tests guarantee_tests
guarantee_40 d g =
    let e = (guarantee_exact d g).0 40 refl in
    (λ h. told_not_false (record_allowed d) (record_allowed d) refl (e.0 h), λ h. e.1 (not_true (record_allowed d) h))

-- an accepted record, field by field: terms that opening takes, counts of at most sixteen, and each counted item one that adding
-- takes
pub record Fits (d : Deal) : Type 0 where
  pub terms : terms_refusal d.terms ≡ 0
  pub collateral_count : d.collateral.count ≤ 16
  pub guarantee_count : d.guarantees.count ≤ 16
  pub collateral : (i : ℕ) → i < d.collateral.count → i < length d.collateral.items → collateral_refusal (get_or d.collateral.items i zero_collateral) ≡ 0
  pub guarantees : (i : ℕ) → i < d.guarantees.count → i < length d.guarantees.items → guarantee_refusal (get_or d.guarantees.items i zero_guarantee) ≡ 0

pub accepted_fits : (d : Deal) → accepted d ≡ true → Fits d
unfolding accepted record_allowed collateral_list_allowed guarantee_list_allowed
accepted_fits d e =
    let outer = both (eqb (terms_refusal d.terms) 0 && collateral_list_allowed d.collateral) _ e in
    let inner = both (eqb (terms_refusal d.terms) 0) _ outer.0 in
    let c = both (leb d.collateral.count 16) _ inner.1 in
    let g = both (leb d.guarantees.count 16) _ outer.1 in
    record {
      terms = eqb-true _ 0 inner.0;
      collateral_count = leb-true _ 16 c.0;
      guarantee_count = leb-true _ 16 g.0;
      collateral = λ i h k. eqb-true _ 0 (all_at (λ x. eqb (collateral_refusal x) 0) _ i _ zero_collateral h k c.1);
      guarantees = λ i h k. eqb-true _ 0 (all_at (λ x. eqb (guarantee_refusal x) 0) _ i _ zero_guarantee h k g.1);
    }

pub fits_accepted : (d : Deal) → Fits d → accepted d ≡ true
unfolding accepted record_allowed collateral_list_allowed guarantee_list_allowed
fits_accepted d f =
    let c = all_from (λ x. eqb (collateral_refusal x) 0) d.collateral.count d.collateral.items zero_collateral (λ i h k. eq-eqb _ 0 (f.collateral i h k)) in
    let g = all_from (λ x. eqb (guarantee_refusal x) 0) d.guarantees.count d.guarantees.items zero_guarantee (λ i h k. eq-eqb _ 0 (f.guarantees i h k)) in
    and_true _ _
    (and_true _ _ (eq-eqb _ 0 f.terms) (and_true _ _ (le-leb _ 16 f.collateral_count) c))
    (and_true _ _ (le-leb _ 16 f.guarantee_count) g)
