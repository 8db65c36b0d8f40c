use Rattle.std.proofs.Common.{rules, ◌≡◌, ◌<◌, ◌^◌, ◌∙◌, arith}
use Rattle.std.specs.List.{sum_by}
use Rattle.std.proofs.iter.runs.Made.{chains}
use Rattle.std.proofs.iter.runs.Sources.{sums}
use Rattle.netting.specs.Positions.{amount_of}
use Rattle.netting.proofs.Chains.{sum_is}
use Rattle.netting.proofs.Totals.{amounts_small}
use Rattle.netting.proofs.amounts.total.Goals as goal

pub sum-requires-clause-fits : goal.sum-requires-clause-fits
sum-requires-clause-fits c =
    let ps = c.args.positions.now in
    let h : sum_by amount_of ps < 2 ^ 64 = omega (arith, sum_is amount_of ps, amounts_small ps c.requires.positions_value, c.requires.few) in
    search (rules, sums)

pub returns : goal.returns
returns c =
    let e : c.sum.result ≡ sum_by amount_of c.args.positions.now = search (rules, chains) in
    e ∙ sum_is amount_of c.args.positions.now
