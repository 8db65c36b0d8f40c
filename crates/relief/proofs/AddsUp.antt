-- Value, losses and what is left out add up to the amount that was sent, in every place of every report. Assumes nothing.
use Rattle.std.proofs.Common.{if◌then◌else◌}
use Prim.Native.Nat.{ℕ, ◌+◌}
use mathlib.Core.Path.{◌≡◌, refl, sym, ap, subst, ◌∙◌}
use mathlib.Core.Bool.{Bool, true, false}
use mathlib.Core.List.{List, [], map, map-map}
use mathlib.Core.Logic.{◌≢◌}
use native.Mathlib.Omega.{arith}
use lib.Dec.{eqb}
use borrow.Author.Tests.{eqb-false}
use Rattle.base.specs.Places.{in_places}
use Rattle.base.proofs.Choice.{either}
use Rattle.base.proofs.Places.{map_places}
use Rattle.tables.specs.Table.{Table}
use Rattle.valuation.specs.Valuation.{no_valuation}
use Rattle.valuation.specs.declared.protection.Valuation.{Valuation}
use Rattle.valuation.proofs.Valuations.{adds_up, value_and_losses}
use Rattle.deal.specs.Editions.{table_for}
use Rattle.deal.specs.Lists.{list_limit}
use Rattle.deal.specs.Records.{accepted}
use Rattle.deal.specs.Views.{view_of}
use Rattle.deal.specs.declared.terms.Terms.{Terms}
use Rattle.deal.specs.declared.collateral.Collateral.{Collateral}
use Rattle.deal.specs.declared.guarantee.Guarantee.{Guarantee}
use Rattle.deal.specs.declared.deal.Deal.{Deal}
use Rattle.relief.specs.ByNumber.{Place, collateral_by_number, guarantees_by_number, no_place, place_of, place_with}
use Rattle.relief.specs.Collateral.{collateral_outcome, collateral_valuation}
use Rattle.relief.specs.Guarantees.{guarantee_outcome, guarantee_valuation}
use Rattle.relief.specs.Report.{report_of}
use Rattle.relief.proofs.ByNumber.{collateral_by_number_lem, guarantees_by_number_lem}
use Rattle.relief.proofs.Hedged.{hedged_le}
use Rattle.relief.proofs.Recognition.{collateral_place, guarantee_place}

-- a valuation

pub collateral_adds_up : (table : Table) (t : Terms) (c : Collateral) → value_and_losses (collateral_valuation table t c) ≡ c.amount
unfolding collateral_valuation
collateral_adds_up table t c = adds_up c.amount c.amount _ c.residual t.residual (omega arith)

pub guarantee_adds_up : (t : Terms) (g : Guarantee) → value_and_losses (guarantee_valuation t g) ≡ g.amount
unfolding guarantee_valuation
guarantee_adds_up t g = adds_up g.amount _ _ g.residual t.residual (hedged_le t g)

-- a place: all that it says of the amount
abbrev pub accounted : Place → ℕ
accounted p = value_and_losses p.valuation + p.left_out

place_adds_up : (ground' amount : ℕ) (v : Valuation) → value_and_losses v ≡ amount → accounted (place_with ground' amount v) ≡ amount
unfolding place_with value_and_losses
place_adds_up ground' amount v all =
    either (λ (p : Place). accounted p ≡ amount) (eqb ground' 0) (λ e. omega (arith, all)) (λ e. omega arith)

-- either a value and losses that add up to the amount, or the amount left out
abbrev pub PlaceAddsUp : Place → ℕ → Type 0
PlaceAddsUp p amount =
    (p.ground' ≡ 0 → (value_and_losses p.valuation ≡ amount) × (p.left_out ≡ 0)) × (p.ground' ≢ 0 → (p.left_out ≡ amount) × (p.valuation ≡ no_valuation))

place_either : (ground' amount : ℕ) (v : Valuation) → value_and_losses v ≡ amount → PlaceAddsUp (place_with ground' amount v) amount
unfolding place_with
place_either ground' amount v all =
    either (λ (p : Place). PlaceAddsUp p amount) (eqb ground' 0)
    (λ e. (λ z. (all, refl), λ n. absurd (n refl)))
    (λ e. (λ z. absurd (eqb-false ground' 0 e z), λ n. (refl, refl)))

module _ (table : Table) (t : Terms) where
  pub collateral_place_adds_up : (c : Collateral) → PlaceAddsUp (place_of (collateral_outcome table t c)) c.amount
  collateral_place_adds_up c =
      subst (λ p. PlaceAddsUp p c.amount) (sym (collateral_place table t c)) (place_either _ c.amount _ (collateral_adds_up table t c))

  pub guarantee_place_adds_up : (g : Guarantee) → PlaceAddsUp (place_of (guarantee_outcome table t g)) g.amount
  guarantee_place_adds_up g =
      subst (λ p. PlaceAddsUp p g.amount) (sym (guarantee_place table t g)) (place_either _ g.amount _ (guarantee_adds_up t g))

-- THE SENT AMOUNTS IN THE COUNTED PLACES OF AN ACCEPTED DEAL, AND 0 IN EVERY OTHER

module _ {A : Type 0} (place : A → Place) (amount : A → ℕ) (each : (x : A) → accounted (place x) ≡ amount x) where
  places_add_up : (b : Bool) (xs : List A) → map accounted (in_places list_limit no_place (if b then map place xs else [])) ≡ in_places list_limit 0 (if b then map amount xs else [])
  unfolding value_and_losses
  places_add_up true xs =
      map_places accounted list_limit no_place (map place xs) ∙ ap (in_places list_limit 0) (map-map _ _ xs ∙ (λ i. map (λ x. each x i) xs))
  places_add_up false xs = refl

module _ (d : Deal) where
  pub collateral_accounted : map (λ r. accounted (place_of r.outcome)) (report_of d).collateral ≡ in_places list_limit 0 (if accepted d then map (λ c. c.amount) (view_of d).collateral else [])
  unfolding collateral_by_number
  collateral_accounted =
      sym (map-map _ _ (report_of d).collateral)
      ∙ ap (map accounted) (collateral_by_number_lem d)
      ∙ places_add_up _ (λ c. c.amount) (λ c. place_adds_up _ c.amount _ (collateral_adds_up (table_for d.terms) d.terms c)) (accepted d) (view_of d).collateral

  pub guarantees_accounted : map (λ r. accounted (place_of r.outcome)) (report_of d).guarantees ≡ in_places list_limit 0 (if accepted d then map (λ g. g.amount) (view_of d).guarantees else [])
  unfolding guarantees_by_number
  guarantees_accounted =
      sym (map-map _ _ (report_of d).guarantees)
      ∙ ap (map accounted) (guarantees_by_number_lem d)
      ∙ places_add_up _ (λ g. g.amount) (λ g. place_adds_up _ g.amount _ (guarantee_adds_up d.terms g)) (accepted d) (view_of d).guarantees
