use Rattle.std.proofs.Common.{rules, tests, ◌≡◌, sym, ◌∙◌}
use Rattle.std.proofs.lemmas.Iterator.{YieldsList-from_slice}
use Rattle.std.proofs.lemmas.Iterator.Search.{any_from_yields_List}
use Rattle.base.specs.Any.{any}
use Rattle.netting.specs.Refusals.{disagree as disagree_of}
use Rattle.netting.proofs.Chains.{any_is, two_here, two_later, two_none}
use Rattle.netting.proofs.agreement.any_disagree.Goals as goal

pub returns-then-any : goal.returns-then-any
returns-then-any c =
    let p = c.in-Some.position.now in
    let rest = c.in-Some.rest.now in
    let e : c.any.result ≡ any rest (disagree_of p) =
    any_from_yields_List (disagree_of p) _ _ c.any.result c.any.ensures.ran (YieldsList-from_slice rest cc) (λ x b q k. search (rules, tests)) ∙ any_is (disagree_of p) rest
    in
    sym (c.loop-position.invariant ∙ two_here disagree_of c.loop-position.later.now p rest c.in-Some.ensures.cases.0 (sym e ∙ c.if-any.true))

pub loop-position-preserved : goal.loop-position-preserved
loop-position-preserved c =
    let p = c.in-Some.position.now in
    let rest = c.in-Some.rest.now in
    let e : c.any.result ≡ any rest (disagree_of p) =
    any_from_yields_List (disagree_of p) _ _ c.any.result c.any.ensures.ran (YieldsList-from_slice rest cc) (λ x b q k. search (rules, tests)) ∙ any_is (disagree_of p) rest
    in
    c.loop-position.invariant ∙ two_later disagree_of c.loop-position.later.now p rest c.in-Some.ensures.cases.0 (sym e ∙ c.if-any.false)

pub returns : goal.returns
returns c = sym (c.loop-position.invariant ∙ two_none disagree_of c.loop-position.later.now c.in_default.ensures.cases)
