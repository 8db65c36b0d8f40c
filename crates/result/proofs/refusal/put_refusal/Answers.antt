use Rattle.std.proofs.Common.{arith}
use Rattle.base.proofs.Writing.{placed_joined}
use Rattle.result.specs.Result.{refused_heading}
use Rattle.result.proofs.refusal.put_refusal.Goals as goal

pub returns : goal.returns
returns c = placed_joined 0 refused_heading _ _ _ _ _ _ (omega arith) c.put_bytes-start.ensures c.put_field.ensures
