use Rattle.netting.specs.Exposure.{security_figure, security_of}
use Rattle.netting.specs.Haircuts.{security_haircut}
use Rattle.netting.proofs.accepted.AcceptedSet.security_add_on.Given as goal

abbrev pub ghost-sum_once : goal.ghost-sum_once
ghost-sum_once a = (security_of, security_figure (security_haircut a.figure.0.now.terms) a.positions.now)
