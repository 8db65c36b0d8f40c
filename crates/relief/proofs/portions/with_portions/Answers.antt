-- `relief::portions::with_portions`: after i items the first i places are filled. Assumes nothing.
use Rattle.std.proofs.Common.{◌≡◌, ◌∙◌, refl, arith, length}
use lib.Seq.{take-length}
use mathlib.Core.List.{zip_with}
use Rattle.base.proofs.Places.{length_zip, placed, zip_more}
use Rattle.relief.specs.Report.{no_guarantee}
use Rattle.relief.specs.Portions.{covering}
use Rattle.relief.proofs.portions.with_portions.Goals as goal

pub loop-i-init : goal.loop-i-init
unfolding zip_with
loop-i-init c = (omega arith, refl)

pub loop-i-preserved : goal.loop-i-preserved
loop-i-preserved c =
    let i = c.loop-i.i in
    (omega arith, rw c.loop-i.invariant.1 (zip_more covering no_guarantee 0 i c.args.values.now c.args.portions.now _ (omega arith) (omega (arith, c.requires.0)) (omega arith)))

pub returns : goal.returns
returns c =
    let values = c.args.values.now in
    let portions = c.args.portions.now in
    let e : c.loop-i.i ≡ length values = omega (arith, c.loop-i.invariant.0) in
    rw (c.loop-i.invariant.1, e, take-length values) (rw (c.requires.0, take-length portions) (placed 16 (length portions) no_guarantee (zip_with covering values portions) (length_zip covering values portions c.requires.0 ∙ c.requires.0)))
