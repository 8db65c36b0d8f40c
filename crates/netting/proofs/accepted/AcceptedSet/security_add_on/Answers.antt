use Rattle.std.proofs.Common.{rules, arith}
use Rattle.netting.specs.Exposure.{security_add_on}
use Rattle.netting.specs.Limits.{Fitting}
use Rattle.netting.proofs.Figures.{security_small}
use Rattle.netting.proofs.accepted.AcceptedSet.security_add_on.Goals as goal

pub sum_once-requires : goal.sum_once-requires
unfolding security_add_on
sum_once-requires c =
    let f : Fitting c.args.self.now.terms c.args.self.now.positions.now = search rules in
    let h = security_small f in
    search (rules, h)

pub returns : goal.returns
unfolding security_add_on
returns c =
    let f : Fitting c.args.self.now.terms c.args.self.now.positions.now = search rules in
    let h = security_small f in
    (c.sum_once.ensures, omega (arith, c.sum_once.ensures, h))
