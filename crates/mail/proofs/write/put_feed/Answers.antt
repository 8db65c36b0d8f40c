use Rattle.mail.proofs.Putting.{feed_put}
use Rattle.mail.proofs.write.put_feed.Goals as goal

pub returns : goal.returns
returns c = feed_put _ _ _ _ c.requires.1 c.requires.0 _ _ _ c.past_feed.ensures c.put_line-lines.ensures
