use Rattle.std.proofs.Common.{◌∙◌, arith}
use Rattle.tables.specs.Version2023.{table_weight_2023}
use Rattle.tables.specs.Weights.{step_column, table_weight}
use Rattle.tables.proofs.Cells2023.{weight_cell}
use Rattle.tables.proofs.version_2023.Version2023Version.table_weight.Goals as goal

pub returns : goal.returns
unfolding table_weight_2023 table_weight step_column
returns c = c.from.ensures ∙ weight_cell c.args.class c.args.step (omega arith) (omega arith) (omega arith)
