use Rattle.std.proofs.Common.{arith}
use Rattle.base.proofs.Writing.{placed_joined}
use Rattle.result.proofs.rows.put_field.Goals as goal

pub returns : goal.returns
returns c = placed_joined c.args.at _ _ _ _ _ _ _ (omega arith) c.put_number-end.ensures c.put_byte.ensures
