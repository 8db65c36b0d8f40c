use Rattle.mail.proofs.Stepping.{past_feed_on}
use Rattle.mail.proofs.place.past_feed.Goals as goal

pub returns : goal.returns
returns c = past_feed_on _ _ c.requires.0 c.requires.1.1 _ c.requires.1.0 c.returns_start-start.ensures
