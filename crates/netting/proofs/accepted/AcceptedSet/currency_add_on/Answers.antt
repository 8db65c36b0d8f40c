use Rattle.std.proofs.Common.{rules, arith}
use Rattle.netting.specs.Exposure.{currency_add_on}
use Rattle.netting.specs.Haircuts.{currency_haircut_over}
use Rattle.netting.specs.Limits.{Fitting}
use Rattle.netting.proofs.Figures.{currency_small}
use Rattle.netting.proofs.HaircutBounds.{currency_low}
use Rattle.netting.proofs.accepted.AcceptedSet.currency_add_on.Goals as goal

pub sum_once-requires : goal.sum_once-requires
unfolding currency_add_on
sum_once-requires c =
    let f : Fitting c.args.self.now.terms c.args.self.now.positions.now = search rules in
    let h = currency_small f (currency_haircut_over c.args.self.now.terms) (currency_low c.args.self.now.terms f.few_days) in
    search (rules, h)

pub returns : goal.returns
unfolding currency_add_on
returns c =
    let f : Fitting c.args.self.now.terms c.args.self.now.positions.now = search rules in
    let h = currency_small f (currency_haircut_over c.args.self.now.terms) (currency_low c.args.self.now.terms f.few_days) in
    (c.sum_once.ensures, omega (arith, c.sum_once.ensures, h))
