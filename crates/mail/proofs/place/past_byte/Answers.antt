use Rattle.mail.proofs.Stepping.{past_byte_on}
use Rattle.mail.proofs.place.past_byte.Goals as goal

pub returns : goal.returns
returns c book some e unfed a = past_byte_on book _ some a _ e unfed
