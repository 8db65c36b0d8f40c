-- `deal::list::is_allowed`: an answer that is no refusal has the number 0.
use Rattle.deal.proofs.Answers.{agreed}
use Rattle.deal.proofs.list.is_allowed.Goals as goal

pub returns : goal.returns
returns g c = agreed _ c.is_ok.ensures.value c.check.ensures
