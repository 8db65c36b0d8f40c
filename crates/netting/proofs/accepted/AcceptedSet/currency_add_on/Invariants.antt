use Rattle.netting.specs.Exposure.{currency_figure, currency_of}
use Rattle.netting.specs.Haircuts.{currency_haircut_over}
use Rattle.netting.proofs.accepted.AcceptedSet.currency_add_on.Given as goal

abbrev pub ghost-sum_once : goal.ghost-sum_once
ghost-sum_once a = (currency_of, currency_figure a.figure.0.now.terms.settlement (currency_haircut_over a.figure.0.now.terms) a.positions.now)
