use Rattle.mail.proofs.Pushing.{pushed_byte}
use Rattle.mail.proofs.write.put_byte.Goals as goal

pub returns : goal.returns
returns c = rw c.tabbed.ensures (pushed_byte c.args.b c.args.spaced _ _ _ c.requires c.one_less-place.ensures)
