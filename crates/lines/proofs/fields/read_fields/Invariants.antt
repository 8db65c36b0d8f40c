use Rattle.lines.proofs.FieldLaws.{Filled}
use Rattle.lines.proofs.fields.read_fields.Given as goal

abbrev pub invariant-loop-value : goal.invariant-loop-value
invariant-loop-value l = Filled l.line l.count l.value-items l.rest l.value-index
