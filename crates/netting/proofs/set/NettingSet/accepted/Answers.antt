use Rattle.std.proofs.Common.{eqb, sym, ap, ◌∙◌}
use Rattle.deal.specs.Answers.{answer_number, refusal_number}
use Rattle.netting.specs.Reply.{OwnRefusal, positions_of, set_answer_number, set_refusal_number}
use Rattle.netting.specs.declared.refusal.SetRefusal.TheVariants.{Field}
use Rattle.netting.proofs.Answered.{err_passed, field_nonzero, field_passed, own_numbered, passed, refusal_nonzero}
use Rattle.netting.proofs.Refusing.{fields_six, over_all, over_all_six, position_refused, terms_refused, terms_six, too_many}
use Rattle.netting.proofs.Replies.{fitting}
use Rattle.netting.proofs.set.NettingSet.accepted.Goals as goal

pub returns-in_err-check-clause-refusal : goal.returns-in_err-check-clause-refusal
unfolding answer_number
returns-in_err-check-clause-refusal c =
    let s = c.args.self.now in
    let e = c.in_err-check.ensures in
    field_passed _ _ c.from_residual.ensures.1 ∙ e
    ∙ sym (terms_refused s.terms s.count (positions_of s) (ap (λ n. eqb n 0) (sym e) ∙ field_nonzero c.in_err-check.field-0.0))

pub returns-in_err-check-clause-own_refusal : goal.returns-in_err-check-clause-own_refusal
unfolding answer_number set_refusal_number
returns-in_err-check-clause-own_refusal c =
    let own = own_numbered (Field c.in_err-check.field-0.0) (ap (λ n. eqb n 6) c.in_err-check.ensures ∙ terms_six c.args.self.now.terms) in
    err_passed OwnRefusal _ c.from_residual.ensures.1 own

pub returns-then-self-gt-POSITION_LIMIT-clause-refusal : goal.returns-then-self-gt-POSITION_LIMIT-clause-refusal
unfolding answer_number refusal_number set_answer_number set_refusal_number
returns-then-self-gt-POSITION_LIMIT-clause-refusal c =
    let s = c.args.self.now in
    sym (too_many s.terms s.count (positions_of s) (sym c.in_ok-check.ensures) c.if-self-gt-POSITION_LIMIT.true)

pub returns-in_err-check_fields-clause-refusal : goal.returns-in_err-check_fields-clause-refusal
unfolding answer_number set_answer_number
returns-in_err-check_fields-clause-refusal c =
    let s = c.args.self.now in
    let e = c.in_err-check_fields.ensures in
    let some = ap (λ n. eqb n 0) (sym e) ∙ refusal_nonzero c.in_err-check_fields.field-0.0 in
    passed _ _ c.from_residual-in_err-check_fields.ensures.1 ∙ e
    ∙ sym (position_refused s.terms s.count (positions_of s) (sym c.in_ok-check.ensures) c.if-self-gt-POSITION_LIMIT.false some)

pub returns-in_err-check_fields-clause-own_refusal : goal.returns-in_err-check_fields-clause-own_refusal
unfolding set_answer_number
returns-in_err-check_fields-clause-own_refusal c =
    let own = own_numbered c.in_err-check_fields.field-0.0 (ap (λ n. eqb n 6) c.in_err-check_fields.ensures ∙ fields_six _) in
    err_passed OwnRefusal _ c.from_residual-in_err-check_fields.ensures.1 own

pub check_together-requires-clause-positions_value : goal.check_together-requires-clause-positions_value
unfolding set_answer_number
check_together-requires-clause-positions_value c = sym c.in_ok-check_fields.ensures

pub returns-in_err-check_together-clause-refusal : goal.returns-in_err-check_together-clause-refusal
unfolding answer_number set_answer_number
returns-in_err-check_together-clause-refusal c =
    let s = c.args.self.now in
    passed _ _ c.from_residual-in_err-check_together.ensures.1 ∙ c.in_err-check_together.ensures
    ∙ sym (over_all s.terms s.count (positions_of s) (sym c.in_ok-check.ensures) c.if-self-gt-POSITION_LIMIT.false (sym c.in_ok-check_fields.ensures))

pub returns-in_err-check_together-clause-own_refusal : goal.returns-in_err-check_together-clause-own_refusal
unfolding set_answer_number
returns-in_err-check_together-clause-own_refusal c =
    let own = own_numbered c.in_err-check_together.field-0.0 (ap (λ n. eqb n 6) c.in_err-check_together.ensures ∙ over_all_six _) in
    err_passed OwnRefusal _ c.from_residual-in_err-check_together.ensures.1 own

pub new-requires : goal.new-requires
unfolding answer_number set_answer_number
new-requires c =
    let s = c.args.self.now in
    fitting s.terms s.count (positions_of s)
    (over_all s.terms s.count (positions_of s) (sym c.in_ok-check.ensures) c.if-self-gt-POSITION_LIMIT.false (sym c.in_ok-check_fields.ensures) ∙ sym c.in_ok-check_together.ensures)

pub returns-clause-refusal : goal.returns-clause-refusal
unfolding answer_number set_answer_number
returns-clause-refusal c =
    let s = c.args.self.now in
    c.in_ok-check_together.ensures
    ∙ sym (over_all s.terms s.count (positions_of s) (sym c.in_ok-check.ensures) c.if-self-gt-POSITION_LIMIT.false (sym c.in_ok-check_fields.ensures))
