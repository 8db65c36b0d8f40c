-- The amount that is hedged: never above the amount sent, and the whole of it but where a swap is cut. Assumes nothing.
use Prim.Native.Nat.{◌*◌, ◌/◌, ◌≤◌, min}
use mathlib.Core.Path.{◌≡◌}
use mathlib.Core.Bool.{false}
use native.Mathlib.Omega.{arith}
use lib.Dec.{eqb}
use borrow.Author.Tests.{eq-eqb}
use Rattle.base.proofs.Choice.{either, if_true, if_false}
use Rattle.valuation.specs.Restructuring.{partially_recognised}
use Rattle.valuation.proofs.PartialRecognition.{partial_le}
use Rattle.deal.specs.Instruments.{swap_without_restructuring}
use Rattle.deal.specs.declared.terms.Terms.{Terms}
use Rattle.deal.specs.declared.guarantee.Guarantee.{Guarantee}
use Rattle.relief.specs.Guarantees.{hedged_amount}

module _ (t : Terms) (g : Guarantee) where
  pub hedged_le : hedged_amount t g ≤ g.amount
  unfolding hedged_amount
  hedged_le = either (λ a. a ≤ g.amount) (eqb g.instrument swap_without_restructuring) (λ e. partial_le g.amount t.amount) (λ e. omega arith)

  pub hedged_cut : g.instrument ≡ swap_without_restructuring → hedged_amount t g ≡ min g.amount t.amount * 60 / 100
  unfolding hedged_amount partially_recognised
  hedged_cut e = if_true _ _ _ (eq-eqb _ _ e)

  pub hedged_whole : eqb g.instrument swap_without_restructuring ≡ false → hedged_amount t g ≡ g.amount
  unfolding hedged_amount
  hedged_whole e = if_false _ _ _ e
