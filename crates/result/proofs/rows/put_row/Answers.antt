use Rattle.std.proofs.Common.{arith}
use Rattle.base.proofs.Writing.{placed_joined}
use Rattle.result.proofs.Lines.{row_fields}
use Rattle.result.proofs.rows.put_row.Goals as goal

pub returns : goal.returns
returns c =
    let joined = placed_joined c.args.at in
    rw row_fields
    (joined _ _ _ _ _ _ _ (omega arith)
    (joined _ _ _ _ _ _ _ (omega arith)
    (joined _ _ _ _ _ _ _ (omega arith) c.put_field-second.ensures c.put_field-third.ensures)
    c.put_field-fourth.ensures)
    c.put_field.ensures)
