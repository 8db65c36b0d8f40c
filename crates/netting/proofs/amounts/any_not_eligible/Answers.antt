use Rattle.std.proofs.Common.{rules, tests, ◌∙◌}
use Rattle.std.proofs.lemmas.Iterator.{YieldsList-from_slice}
use Rattle.std.proofs.lemmas.Iterator.Search.{any_from_yields_List}
use Rattle.netting.specs.Refusals.{received_not_eligible}
use Rattle.netting.proofs.Chains.{any_is}
use Rattle.netting.proofs.amounts.any_not_eligible.Goals as goal

pub returns : goal.returns
returns c =
    let ps = c.args.positions.now in
    any_from_yields_List received_not_eligible _ _ _ c.any.ensures.ran (YieldsList-from_slice ps cc) (λ x b q k. search (rules, tests))
    ∙ any_is received_not_eligible ps
