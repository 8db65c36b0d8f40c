use Rattle.std.proofs.Common.{arith}
use Rattle.result.proofs.PartDigits.{no_digits, one_digit}
use Rattle.result.proofs.number.put_number.Goals as goal

pub loop-place-init : goal.loop-place-init
loop-place-init c = no_digits _ _ _ _ c.requires c.digit_count.ensures

pub loop-place-preserved : goal.loop-place-preserved
loop-place-preserved c = one_digit _ _ _ _ _ _ _ c.loop-place.invariant _ (omega arith) (omega arith)
