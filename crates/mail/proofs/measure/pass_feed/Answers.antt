use Rattle.mail.proofs.Sizing.{feed_passed}
use Rattle.mail.proofs.measure.pass_feed.Goals as goal

pub returns : goal.returns
returns c =
    let next = c.past_feed-next.ensures in
    (next.back, rw c.one_more-lines.ensures (feed_passed _ _ _ c.requires.1.1 _ next))
