-- `relief::guarantees::value_guarantees`: what a further item adds. Assumes nothing.
use Rattle.std.proofs.Common.{◌≡◌, ◌<◌, refl, arith, length, eqb, map}
use lib.Seq.{take-length}
use lib.ListN.{length-map}
use borrow.Author.Tests.{eqb-true}
use Rattle.base.proofs.All.{all_in}
use Rattle.base.proofs.Places.{fill_more, placed}
use Rattle.deal.specs.Editions.{table_for}
use Rattle.deal.specs.Fields.{zero_guarantee}
use Rattle.deal.specs.Guarantees.{guarantee_refusal}
use Rattle.relief.specs.Guarantees.{protection_of}
use Rattle.relief.specs.Report.{no_guarantee}
use Rattle.relief.specs.Portions.{without_portion, no_protection}
use Rattle.relief.proofs.guarantees.value_guarantees.Goals as goal

pub guarantee_outcome-valued-requires-clause-item_value : goal.guarantee_outcome-valued-requires-clause-item_value
guarantee_outcome-valued-requires-clause-item_value c =
    (eqb-true _ 0 (all_in (λ x. eqb (guarantee_refusal x) 0) c.loop-i.i c.args.items.now zero_guarantee (omega arith) c.requires.items_value.1), c.requires.weight_value)

pub loop-i-init : goal.loop-i-init
loop-i-init c = record { reported = refl; protected = refl; passed = omega arith }

pub loop-i-preserved : goal.loop-i-preserved
loop-i-preserved c =
    let terms = c.args.terms in
    let items = c.args.items.now in
    let i = c.loop-i.i in
    let h : i < length items = omega arith in
    record {
      reported = rw (c.loop-i.invariant.reported, c.guarantee_outcome-valued.ensures.0) (fill_more (without_portion (table_for terms) terms) zero_guarantee i items _ h (omega arith));
      protected = rw (c.loop-i.invariant.protected, c.guarantee_outcome-valued.ensures.1) (fill_more (protection_of (table_for terms) terms) zero_guarantee i items _ h (omega arith));
      passed = omega arith;
    }

pub returns : goal.returns
returns c =
    let terms = c.args.terms in
    let items = c.args.items.now in
    let f = without_portion (table_for terms) terms in
    let g = protection_of (table_for terms) terms in
    let e : c.loop-i.i ≡ length items = omega (arith, c.loop-i.invariant.passed) in
    record {
      reports_value = rw (c.loop-i.invariant.reported, e, take-length items) (placed 16 (length items) no_guarantee (map f items) (length-map items f));
      protections_value = rw (c.loop-i.invariant.protected, e, take-length items) (placed 16 (length items) no_protection (map g items) (length-map items g));
    }
