use Rattle.std.proofs.Common.{rules, arith}
use Rattle.netting.specs.Limits.{Fitting}
use Rattle.netting.proofs.HaircutBounds.{currency_low}
use Rattle.netting.proofs.accepted.AcceptedSet.currency_haircut.Goals as goal

pub returns : goal.returns
returns c =
    let s = c.args.self.now in
    let f : Fitting s.terms s.positions.now = search rules in
    let e = c.currency_haircut.ensures in
    (e, omega (arith, e, currency_low s.terms f.few_days))
