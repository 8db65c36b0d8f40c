use Rattle.std.proofs.Common.{arith, ◌∙◌, sym}
use Rattle.text.proofs.Lines.{rest_part}
use Rattle.lines.specs.Fields.{fields_held}
use Rattle.lines.proofs.FieldLaws.{bad, unended, ended, more, field_short}
use Rattle.lines.proofs.fields.read_fields.Goals as goal

pub returns-in_err-field : goal.returns-in_err-field
unfolding fields_held
returns-in_err-field c =
    let e = bad _ _ _ _ _ c.loop-value.invariant (omega arith) (sym c.in_err-field.ensures) in rw e c.from_residual.ensures

pub overflow_add-rest : goal.overflow_add-rest
overflow_add-rest c = omega (arith, field_short _ _ (sym c.in_ok-field.ensures))

pub slice_bounds-rest-count : goal.slice_bounds-rest-count
slice_bounds-rest-count c = field_short _ _ (sym c.in_ok-field.ensures)

pub slice_bounds-rest-start : goal.slice_bounds-rest-start
slice_bounds-rest-start c = field_short _ _ (sym c.in_ok-field.ensures)

pub loop-value-preserved : goal.loop-value-preserved
loop-value-preserved c =
    rw rest_part (more _ _ _ _ _ c.loop-value.invariant _ (sym c.in_ok-field.ensures) (omega arith))

pub returns-then-not-is_end : goal.returns-then-not-is_end
unfolding fields_held
returns-then-not-is_end c =
    rw (unended _ _ _ _ _ c.loop-value.invariant (omega arith) (sym c.is_end.ensures ∙ c.if-not-is_end.true))

pub returns : goal.returns
unfolding fields_held
returns c =
    let e = ended _ _ _ _ _ c.loop-value.invariant (omega arith) (sym c.is_end.ensures ∙ c.if-not-is_end.false) in
    rw (e, c.loop-value.invariant.places)
