use Rattle.std.proofs.Common.{arith}
use Rattle.tables.proofs.EditionBounds.{counterparty_low}
use Rattle.netting.specs.Reply.{set_weight}
use Rattle.netting.proofs.Refusing.{plain_set_terms}
use Rattle.netting.proofs.exposure.weight_of.Goals as goal

pub counterparty_weight_under-requires : goal.counterparty_weight_under-requires
counterparty_weight_under-requires c =
    let p = plain_set_terms c.args.terms c.requires in
    (p.class.0, (p.class.1, (p.step, p.sovereign_step)))

pub returns : goal.returns
unfolding set_weight
returns c =
    let t = c.args.terms in
    let p = plain_set_terms t c.requires in
    let e = c.counterparty_weight_under.ensures in
    (e, omega (arith, e, counterparty_low t.table t.counterparty.class t.counterparty.step t.counterparty.sovereign_step p.class.1 p.step p.sovereign_step))
