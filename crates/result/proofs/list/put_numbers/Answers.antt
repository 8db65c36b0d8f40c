use Rattle.std.proofs.Common.{arith}
use Rattle.std.proofs.Math.Seq.{get_or-take, length-take-le}
use Rattle.result.proofs.NumberLines.{no_numbers, one_number, all_numbers}
use Rattle.result.proofs.list.put_numbers.Goals as goal

pub loop-number-init : goal.loop-number-init
loop-number-init c = no_numbers _ _ _ _

pub loop-number-preserved : goal.loop-number-preserved
loop-number-preserved c =
    let l = length-take-le c.args.count c.args.numbers.now (omega arith) in
    one_number _ _ _ _ _ _ _ c.loop-number.invariant _ _ _ (omega arith) (omega arith) (get_or-take c.args.count c.args.numbers.now c.loop-number.number-index 0 (omega arith)) c.put_field-place.auto.out c.put_field-place.ensures

pub returns : goal.returns
returns c =
    let l = length-take-le c.args.count c.args.numbers.now (omega arith) in
    all_numbers _ _ _ _ _ _ _ c.loop-number.invariant (omega arith)
