use Rattle.std.proofs.Common.{rules, tests, eqb, Bool, sym, ap, ◌∙◌, arith}
use Rattle.std.proofs.lemmas.Iterator.{YieldsList-from_slice}
use Rattle.std.proofs.lemmas.Iterator.Search.{any_from_yields_List}
use Rattle.netting.specs.Once.{occurs}
use Rattle.netting.specs.declared.position.Position.{Position}
use Rattle.netting.proofs.Chains.{any_is}
use Rattle.netting.proofs.Counting.{once_end, once_here, once_later}
use Rattle.netting.proofs.add_ons.sum_once.Goals as goal

pub overflow_add-sum : goal.overflow_add-sum
overflow_add-sum g c =
    let p = c.in-Some.position.now in
    let rest = c.in-Some.rest.now in
    let number_is = c.requires.1.1.1.1.0 in
    let figure_is = c.requires.1.1.1.1.1.0 in
    let small = c.requires.1.1.1.1.1.1 in
    let same : Position → Bool = λ q. eqb (g.of.0 q) c.number-its.result in
    let e = any_from_yields_List same _ _ c.any.result c.any.ensures.ran (YieldsList-from_slice rest cc) (λ x b q k. search (rules, tests, number_is)) ∙ any_is same rest in
    let its = ap (λ k. occurs g.of.0 k rest) (number_is c.in-Some.position _ c.number-its.ensures) in
    omega (
      arith,
      c.loop-position.invariant,
      figure_is c.in-Some.position _ c.figure-sum.ensures,
      once_here g.of.0 g.of.1 c.loop-position.later.now p rest c.in-Some.ensures.cases.0 (sym (e ∙ its) ∙ c.if-not-any.true),
      small,
    )

pub loop-position-preserved-then-not-any : goal.loop-position-preserved-then-not-any
loop-position-preserved-then-not-any g c =
    let p = c.in-Some.position.now in
    let rest = c.in-Some.rest.now in
    let number_is = c.requires.1.1.1.1.0 in
    let figure_is = c.requires.1.1.1.1.1.0 in
    let same : Position → Bool = λ q. eqb (g.of.0 q) c.number-its.result in
    let e = any_from_yields_List same _ _ c.any.result c.any.ensures.ran (YieldsList-from_slice rest cc) (λ x b q k. search (rules, tests, number_is)) ∙ any_is same rest in
    let its = ap (λ k. occurs g.of.0 k rest) (number_is c.in-Some.position _ c.number-its.ensures) in
    omega (
      arith,
      c.loop-position.invariant,
      figure_is c.in-Some.position _ c.figure-sum.ensures,
      once_here g.of.0 g.of.1 c.loop-position.later.now p rest c.in-Some.ensures.cases.0 (sym (e ∙ its) ∙ c.if-not-any.true),
    )

pub loop-position-preserved : goal.loop-position-preserved
loop-position-preserved g c =
    let p = c.in-Some.position.now in
    let rest = c.in-Some.rest.now in
    let number_is = c.requires.1.1.1.1.0 in
    let same : Position → Bool = λ q. eqb (g.of.0 q) c.number-its.result in
    let e = any_from_yields_List same _ _ c.any.result c.any.ensures.ran (YieldsList-from_slice rest cc) (λ x b q k. search (rules, tests, number_is)) ∙ any_is same rest in
    let its = ap (λ k. occurs g.of.0 k rest) (number_is c.in-Some.position _ c.number-its.ensures) in
    omega (
      arith,
      c.loop-position.invariant,
      once_later g.of.0 g.of.1 c.loop-position.later.now p rest c.in-Some.ensures.cases.0 (sym (e ∙ its) ∙ c.if-not-any.false),
    )

pub returns : goal.returns
returns g c = omega (arith, c.loop-position.invariant, once_end g.of.0 g.of.1 c.loop-position.later.now c.in_default.ensures.cases)
