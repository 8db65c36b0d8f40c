-- `hadlephoga::record::deal_in`: the parts of a record, each from its slice. Assumes nothing.
use Rattle.hadlephoga.specs.Records.{deal_in}
use Rattle.text.proofs.Lines.{rest_part}
use Rattle.hadlephoga.proofs.record.deal_in.Goals as goal

pub returns : goal.returns
unfolding deal_in
returns c =
    let guaranteed = rw rest_part at c.guarantee_items.ensures in
    rw (c.terms_in.ensures, c.collateral_items.ensures, guaranteed)
