use Rattle.std.proofs.Common.{◌∙◌, arith}
use Rattle.tables.specs.Weights.{table_weight}
use Rattle.tables.proofs.ByStep.{by_step_lem}
use Rattle.tables.proofs.version_2019.Version2019Version.table_weight.Goals as goal

pub returns : goal.returns
unfolding table_weight
returns c = c.from.ensures ∙ by_step_lem _ c.args.step (omega arith) (omega arith)
