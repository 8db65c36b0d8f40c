use Rattle.mail.proofs.Sizing.{byte_passed}
use Rattle.mail.proofs.Stepping.{one_step}
use Rattle.mail.proofs.measure.pass_byte.Goals as goal

pub returns : goal.returns
returns c book e unfed m =
    let next = c.past_byte.ensures book c.requires.0 e unfed m.ahead in
    (one_step book _ _ _ m.ahead.inside unfed next, rw c.one_more.ensures (byte_passed book _ _ m _ _ unfed next))
