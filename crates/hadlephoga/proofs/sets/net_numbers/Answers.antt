use Rattle.std.proofs.Common.{◌-◌, length, take, drop, sym, ◌∙◌, arith}
use Rattle.hadlephoga.specs.Netting.{OwnNumbersRefusal, numbers_refusal_number, numbers_sent}
use Rattle.hadlephoga.proofs.Netted.{behind_length, behind_terms, netted, reply_malformed, set_passed, too_short}
use Rattle.netting.specs.Reply.{reply_sent, set_reply}
use Rattle.netting.proofs.Answered.{err_passed}
use Rattle.hadlephoga.proofs.sets.net_numbers.Goals as goal

pub returns-then-numbers-lt-SET_TERMS_WIDTH-clause-sent : goal.returns-then-numbers-lt-SET_TERMS_WIDTH-clause-sent
unfolding numbers_sent numbers_refusal_number
returns-then-numbers-lt-SET_TERMS_WIDTH-clause-sent c = sym (reply_malformed c.args.numbers.now (too_short c.args.numbers.now c.if-numbers-lt-SET_TERMS_WIDTH.true))

pub returns-then-positions-ne0-clause-sent : goal.returns-then-positions-ne0-clause-sent
unfolding numbers_sent numbers_refusal_number
returns-then-positions-ne0-clause-sent c = sym (reply_malformed c.args.numbers.now (λ e. c.if-positions-ne0.true (omega (arith, behind_length c.args.numbers.now, e))))

pub returns-in_err-reply-clause-sent : goal.returns-in_err-reply-clause-sent
unfolding reply_sent set_reply
returns-in_err-reply-clause-sent c =
    let ns = c.args.numbers.now in
    let rest = take (length ns - 6) (drop 6 ns) in
    set_passed _ _ c.from_residual.ensures.1 ∙ c.in_err-reply.ensures.sent
    ∙ netted ns rest c.set_terms_in.result c.positions_in.result (behind_terms ns) c.if-numbers-lt-SET_TERMS_WIDTH.false c.if-positions-ne0.false c.set_terms_in.ensures c.positions_in.ensures

pub returns-in_err-reply-clause-own_refusal : goal.returns-in_err-reply-clause-own_refusal
returns-in_err-reply-clause-own_refusal c = err_passed OwnNumbersRefusal _ c.from_residual.ensures.1 c.in_err-reply.ensures.own_refusal

pub returns-clause-sent : goal.returns-clause-sent
unfolding numbers_sent reply_sent set_reply
returns-clause-sent c =
    let ns = c.args.numbers.now in
    let rest = take (length ns - 6) (drop 6 ns) in
    c.in_ok-reply.ensures.sent
    ∙ netted ns rest c.set_terms_in.result c.positions_in.result (behind_terms ns) c.if-numbers-lt-SET_TERMS_WIDTH.false c.if-positions-ne0.false c.set_terms_in.ensures c.positions_in.ensures
