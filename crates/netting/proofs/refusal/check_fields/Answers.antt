use Rattle.std.proofs.Common.{eqb, sym, ◌∙◌, ap, arith}
use Rattle.deal.specs.Answers.{answer_number}
use Rattle.netting.specs.Fields.{zero_position}
use Rattle.netting.specs.Reply.{set_answer_number}
use Rattle.netting.proofs.Answered.{field_nonzero, field_passed}
use Rattle.netting.proofs.Refusing.{fields_end, fields_here, fields_later}
use Rattle.netting.proofs.refusal.check_fields.Goals as goal

pub returns-in_err-check : goal.returns-in_err-check
unfolding answer_number
returns-in_err-check c =
    let e = c.in_err-check.ensures in
    let some = ap (λ n. eqb n 0) (sym e) ∙ field_nonzero c.in_err-check.field-0.0 in
    field_passed _ _ c.from_residual.ensures.1 ∙ e
    ∙ sym (c.loop-position.invariant ∙ fields_here c.args.positions.now c.loop-position.position-index zero_position (omega arith) some)

pub loop-position-preserved : goal.loop-position-preserved
unfolding answer_number
loop-position-preserved c =
    c.loop-position.invariant ∙ fields_later c.args.positions.now c.loop-position.position-index zero_position (omega arith) (sym c.in_ok-check.ensures)

pub returns : goal.returns
unfolding set_answer_number
returns c = sym (c.loop-position.invariant ∙ fields_end c.args.positions.now c.loop-position.position-index (omega arith))
