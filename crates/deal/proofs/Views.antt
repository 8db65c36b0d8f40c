-- What an accepted view is, part by part, and that an accepted deal has one. Assumes nothing.
use Rattle.std.proofs.Common.{ℕ, ◌≡◌, ◌≤◌, ◌&&◌, Bool, List, true, arith, eqb, leb, length, take}
use Rattle.std.proofs.lemmas.List.{length-take}
use borrow.Author.Tests.{eqb-true, eq-eqb, leb-true, le-leb}
use Rattle.base.specs.All.{all_pass}
use Rattle.base.proofs.Every.{both}
use Rattle.base.proofs.Tests.{and_true}
use Rattle.deal.specs.Terms.{terms_refusal}
use Rattle.deal.specs.Collateral.{collateral_list_allowed, collateral_refusal}
use Rattle.deal.specs.Guarantees.{guarantee_list_allowed, guarantee_refusal}
use Rattle.deal.specs.Lists.{list_allowed, list_limit}
use Rattle.deal.specs.Records.{accepted}
use Rattle.deal.specs.declared.collateral.Collateral.{Collateral}
use Rattle.deal.specs.declared.guarantee.Guarantee.{Guarantee}
use Rattle.deal.specs.declared.deal.Deal.{Deal}
use Rattle.deal.specs.Views.{View, view_of, accepted_view}
use Rattle.deal.proofs.Deals.{accepted_allowed, allowed_parts}

-- items that adding takes
abbrev pub collateral_fits : Collateral → Bool
collateral_fits c = eqb (collateral_refusal c) 0

abbrev pub guarantee_fits : Guarantee → Bool
guarantee_fits g = eqb (guarantee_refusal g) 0

-- an accepted view, part by part
pub record FitsView (v : View) : Type 0 where
  pub terms : terms_refusal v.terms ≡ 0
  pub collateral_length : length v.collateral ≤ list_limit
  pub collateral : all_pass v.collateral collateral_fits ≡ true
  pub guarantee_length : length v.guarantees ≤ list_limit
  pub guarantees : all_pass v.guarantees guarantee_fits ≡ true

pub view_fits : (v : View) → accepted_view v ≡ true → FitsView v
unfolding accepted_view
view_fits v e =
    let outer = both (eqb (terms_refusal v.terms) 0 && (leb (length v.collateral) list_limit && all_pass v.collateral collateral_fits)) _ e in
    let inner = both (eqb (terms_refusal v.terms) 0) _ outer.0 in
    let c = both (leb (length v.collateral) list_limit) _ inner.1 in
    let g = both (leb (length v.guarantees) list_limit) _ outer.1 in
    record {
      terms = eqb-true _ 0 inner.0;
      collateral_length = leb-true _ list_limit c.0;
      collateral = c.1;
      guarantee_length = leb-true _ list_limit g.0;
      guarantees = g.1;
    }

pub fits_view : (v : View) → FitsView v → accepted_view v ≡ true
unfolding accepted_view
fits_view v f =
    and_true _ _
    (and_true _ _ (eq-eqb _ 0 f.terms) (and_true _ _ (le-leb _ list_limit f.collateral_length) f.collateral))
    (and_true _ _ (le-leb _ list_limit f.guarantee_length) f.guarantees)

-- the counted items are as many as the count says, at most
counted_allowed : {A : Type 0} (refusal : A → ℕ) (items : List A) (count : ℕ) → list_allowed refusal items count ≡ true →
    (length (take count items) ≤ list_limit) × (all_pass (take count items) (λ x. eqb (refusal x) 0) ≡ true)
counted_allowed refusal items count e =
    let b = both (leb count list_limit) _ e in
    (omega (arith, length-take count items, leb-true count list_limit b.0), b.1)

-- the view of an accepted deal is accepted
pub accepted_view_lem : (d : Deal) → accepted d ≡ true → accepted_view (view_of d) ≡ true
unfolding collateral_list_allowed guarantee_list_allowed
accepted_view_lem d e =
    let p = allowed_parts d (accepted_allowed d e) in
    let c = counted_allowed collateral_refusal d.collateral.items d.collateral.count p.1.0 in
    let g = counted_allowed guarantee_refusal d.guarantees.items d.guarantees.count p.1.1 in
    fits_view (view_of d) (record { terms = p.0; collateral_length = c.0; collateral = c.1; guarantee_length = g.0; guarantees = g.1 })
