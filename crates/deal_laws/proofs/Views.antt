-- Deals and their views: what is accepted of the one is accepted of the other, and every accepted view is some deal's. Assumes nothing.
use Prim.Native.Nat.{◌≤◌}
use mathlib.Core.Path.{◌≡◌, ap, ◌∙◌}
use mathlib.Core.Bool.{Bool, true, ◌&&◌}
use native.Mathlib.Omega.{arith}
use lib.Dec.{leb, eqb}
use lib.ListN.{length, drop, replicate, length-take, length-append}
use lib.Seq.{take-append_seam}
use borrow.Author.Tests.{eqb-true, eq-eqb, leb-true, le-leb}
use Rattle.base.specs.All.{all_pass}
use Rattle.base.proofs.All.{all_at, all_from}
use Rattle.base.proofs.Every.{both}
use Rattle.base.proofs.Tests.{and_true}
use Rattle.deal.specs.Terms.{terms_refusal}
use Rattle.deal.specs.Collateral.{collateral_refusal}
use Rattle.deal.specs.Guarantees.{guarantee_refusal}
use Rattle.deal.specs.Lists.{list_limit}
use Rattle.deal.specs.Records.{accepted}
use Rattle.deal.specs.Fields.{zero_collateral, zero_guarantee}
use Rattle.deal_laws.proofs.Exact.{accepted_fits, fits_accepted}
use Rattle.deal.specs.declared.collateral.Collateral.{Collateral}
use Rattle.deal.specs.declared.guarantee.Guarantee.{Guarantee}
use Rattle.deal.specs.declared.deal.Deal.{Deal}
use Rattle.deal.specs.Views.{View, view_of, accepted_view, record_of}
pub use Rattle.deal.proofs.Views.{FitsView, accepted_view_lem, collateral_fits, fits_view, guarantee_fits, view_fits}

-- a deal with an accepted view, whose counts are counts of places that it has, is accepted
pub view_accepted : (d : Deal) → d.collateral.count ≤ length d.collateral.items → d.guarantees.count ≤ length d.guarantees.items →
    accepted_view (view_of d) ≡ true → accepted d ≡ true
view_accepted d hc hg e =
    let f = view_fits (view_of d) e in
    let cs = d.collateral in
    let gs = d.guarantees in
    fits_accepted d (record {
      terms = f.terms;
      collateral_count = omega (arith, f.collateral_length, length-take cs.count cs.items);
      guarantee_count = omega (arith, f.guarantee_length, length-take gs.count gs.items);
      collateral = λ i h k. eqb-true _ 0 (all_at collateral_fits cs.count i cs.items zero_collateral h k f.collateral);
      guarantees = λ i h k. eqb-true _ 0 (all_at guarantee_fits gs.count i gs.items zero_guarantee h k f.guarantees);
    })

pub view_of_record : (v : View) → view_of (record_of v) ≡ v
view_of_record v =
    let cs = take-append_seam v.collateral (drop (length v.collateral) (replicate list_limit zero_collateral)) in
    let gs = take-append_seam v.guarantees (drop (length v.guarantees) (replicate list_limit zero_guarantee)) in
    λ i. record { terms = v.terms; collateral = cs i; guarantees = gs i }

-- EVERY VIEW THAT REPORTING WOULD TAKE IS SOME RECORD'S
pub can_be_made : (v : View) → accepted_view v ≡ true → (accepted (record_of v) ≡ true) × (view_of (record_of v) ≡ v)
can_be_made v e = (
  view_accepted (record_of v)
      (omega (arith, length-append v.collateral (drop (length v.collateral) (replicate list_limit zero_collateral))))
      (omega (arith, length-append v.guarantees (drop (length v.guarantees) (replicate list_limit zero_guarantee))))
      (ap accepted_view (view_of_record v) ∙ e),
  view_of_record v,
)
