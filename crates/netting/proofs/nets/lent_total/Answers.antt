use Rattle.std.proofs.Common.{rules, ◌≡◌, ◌<◌, ◌^◌, ◌∙◌, arith}
use Rattle.std.specs.List.{sum_by}
use Rattle.std.proofs.iter.runs.Made.{chains}
use Rattle.std.proofs.iter.runs.Sources.{sums}
use Rattle.netting.specs.Nets.{lent}
use Rattle.netting.proofs.Chains.{sum_is}
use Rattle.netting.proofs.NetSums.{lent_le}
use Rattle.netting.proofs.nets.lent_total.Goals as goal

pub sum-requires-clause-fits : goal.sum-requires-clause-fits
sum-requires-clause-fits c =
    let ps = c.args.positions.now in
    let h : sum_by lent ps < 2 ^ 64 = omega (arith, sum_is lent ps, lent_le ps, c.requires) in
    search (rules, sums)

pub returns : goal.returns
returns c =
    let e : c.sum.result ≡ sum_by lent c.args.positions.now = search (rules, chains) in
    e ∙ sum_is lent c.args.positions.now
