use Rattle.std.proofs.Common.{sym, ◌∙◌}
use Rattle.mail.proofs.Stepping.{four_before}
use Rattle.mail.proofs.measure.pass.Goals as goal

pub pass_four-requires : goal.pass_four-requires
pass_four-requires c = (four_before _ _ (sym c.no_feed_in_four.ensures ∙ c.if-no_feed_in_four.true), c.requires.1)
