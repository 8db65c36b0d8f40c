use Rattle.std.proofs.Common.{◌≡◌, sym, ◌∙◌, arith}
use Rattle.signed.proofs.Less.{less_zero, less_same}
use Rattle.signed.proofs.Machine.{back, cast_reads, fits, subtracted}
use lib.IntN.{pos, ◌-ℤ◌}
use mir.Syntax.{w64}
use mir.Val.{to_z}
use Rattle.signed.specs.Signed.{◌less◌}
use Rattle.netting.proofs.NetSums.{signed_lent, signed_received}
use Rattle.netting.proofs.nets.signed_amount.Goals as goal

pub returns-then-position-eq-LENT : goal.returns-then-position-eq-LENT
returns-then-position-eq-LENT c =
    let p = c.args.position.now in
    cast_reads p.amount (omega arith) ∙ sym (signed_lent p c.if-position-eq-LENT.true)

pub returns-else-position-eq-LENT : goal.returns-else-position-eq-LENT
returns-else-position-eq-LENT c =
    let p = c.args.position.now in
    let turned : pos 0 -ℤ to_z w64 p.amount ≡ 0 less p.amount =
    subtracted (pos 0) (to_z w64 p.amount) 0 0 p.amount 0 (sym (less_zero 0)) (cast_reads p.amount (omega arith) ∙ sym (less_zero p.amount)) ∙ less_same _ _ 0 p.amount (omega arith)
    in
    back _ (fits _ 0 p.amount turned (omega arith) (omega arith)) ∙ turned ∙ sym (signed_received p c.if-position-eq-LENT.false)
