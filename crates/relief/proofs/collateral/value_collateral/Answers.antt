-- `relief::collateral::value_collateral`: what a further item adds. Assumes nothing.
use Rattle.std.proofs.Common.{ℕ, List, true, ◌≡◌, ◌≤◌, ◌<◌, refl, sym, arith, length, eqb, get_or, le_trans, map}
use lib.Seq.{take-length}
use borrow.Author.Tests.{eqb-true}
use lib.ListN.{length-map}
use Rattle.base.specs.All.{all_pass}
use Rattle.base.specs.Sum.{sum_of}
use Rattle.base.proofs.All.{all_in}
use Rattle.base.proofs.Places.{fill_more, placed}
use Rattle.base.proofs.Sum.{sum_take}
use Rattle.deal.specs.Editions.{table_for}
use Rattle.deal.specs.Fields.{zero_collateral}
use Rattle.deal.specs.Collateral.{collateral_refusal}
use Rattle.deal.specs.declared.terms.Terms.{Terms}
use Rattle.deal.specs.declared.collateral.Collateral.{Collateral}
use Rattle.deal.proofs.Plain.{plain_collateral}
use Rattle.valuation.specs.declared.protection.Valuation.{Valuation}
use Rattle.relief.specs.declared.outcome.Outcome.{Outcome}
use Rattle.relief.specs.Outcomes.{outcome_valuation, outcome_value}
use Rattle.relief.specs.Collateral.{collateral_outcome}
use Rattle.relief.specs.Exposure.{collateral_total}
use Rattle.relief.specs.Report.{collateral_report, no_collateral}
use Rattle.relief.proofs.ValueBounds.{collateral_le}
use Rattle.relief.proofs.collateral.value_collateral.Goals as goal

pub loop-i-init : goal.loop-i-init
unfolding collateral_total sum_of
loop-i-init c = record { reported = refl; totalled = refl; small = omega arith; passed = omega arith }

-- an item of those that adding takes
amount_at : (items : List Collateral) (i : ℕ) → i < length items → all_pass items (λ x. eqb (collateral_refusal x) 0) ≡ true → (get_or items i zero_collateral).amount ≤ 1000000000000
amount_at items i h e = (plain_collateral _ (eqb-true _ 0 (all_in (λ x. eqb (collateral_refusal x) 0) i items zero_collateral h e))).amount

-- is worth at most the limit of an amount
worth : (t : Terms) (x : Collateral) {v : Valuation} {o : Outcome} → v ≡ outcome_valuation o → o ≡ collateral_outcome (table_for t) t x → x.amount ≤ 1000000000000 →
    v.value ≤ 1000000000000
worth t x e h low = rw (e, h) (le_trans (collateral_le (table_for t) t x) low)

pub collateral_outcome-outcome-requires : goal.collateral_outcome-outcome-requires
collateral_outcome-outcome-requires c = (amount_at c.args.items.now c.loop-i.i (omega arith) c.requires.items_value.1, c.requires.period_value)

pub overflow_add-total : goal.overflow_add-total
overflow_add-total c =
    let low = amount_at c.args.items.now c.loop-i.i (omega arith) c.requires.items_value.1 in
    omega (arith, worth c.args.terms _ c.valuation-total.ensures c.collateral_outcome-outcome.ensures low, c.loop-i.invariant.small)

pub loop-i-preserved : goal.loop-i-preserved
unfolding collateral_total
loop-i-preserved c =
    let terms = c.args.terms in
    let items = c.args.items.now in
    let i = c.loop-i.i in
    let h : i < length items = omega arith in
    record {
      reported = rw (c.loop-i.invariant.reported, c.collateral_outcome-outcome.ensures) (fill_more (collateral_report (table_for terms) terms) zero_collateral i items _ h (omega arith));
      totalled = rw (c.valuation-total.ensures, c.collateral_outcome-outcome.ensures, c.loop-i.invariant.totalled) (sym (sum_take (λ x. outcome_value (collateral_outcome (table_for terms) terms x)) items i zero_collateral h));
      small = omega (arith, worth terms _ c.valuation-total.ensures c.collateral_outcome-outcome.ensures (amount_at items i h c.requires.items_value.1), c.loop-i.invariant.small);
      passed = omega arith;
    }

pub returns : goal.returns
returns c =
    let items = c.args.items.now in
    let entry = collateral_report (table_for c.args.terms) c.args.terms in
    let e : c.loop-i.i ≡ length items = omega (arith, c.loop-i.invariant.passed) in
    (rw (c.loop-i.invariant.reported, e, take-length items) (placed 16 (length items) no_collateral (map entry items) (length-map items entry)), rw (c.loop-i.invariant.totalled, e, take-length items))
