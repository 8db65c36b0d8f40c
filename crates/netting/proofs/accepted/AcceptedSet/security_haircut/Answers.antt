use Rattle.std.proofs.Common.{rules, arith}
use Rattle.netting.specs.Limits.{Fitting}
use Rattle.netting.proofs.HaircutBounds.{security_low}
use Rattle.netting.proofs.accepted.AcceptedSet.security_haircut.Goals as goal

pub returns : goal.returns
returns c =
    let s = c.args.self.now in
    let f : Fitting s.terms s.positions.now = search rules in
    let e = c.security_haircut.ensures in
    (e, omega (arith, e, security_low s.terms c.args.position.now f.few_days))
