use Rattle.std.proofs.Common.{subst, sym, ◌∙◌, ◌+◌, take, to_z, w64, arith}
use mir.Val.{SFits}
use native.Mathlib.Nat.{le_trans}
use Rattle.base.proofs.Sum.{sum_take_le}
use Rattle.signed.proofs.Machine.{back}
use Rattle.netting.specs.Groups.{member}
use Rattle.netting.specs.Positions.{amount_of}
use Rattle.netting.specs.Fields.{zero_position}
use Rattle.netting.proofs.NetSums.{amount_le, net_fits, net_more, net_none, net_same}
use Rattle.netting.proofs.nets.net.Goals as goal
use Rattle.netting.proofs.nets.net.Goals.{then-contains, else-contains}

pub loop-position-init : goal.loop-position-init
loop-position-init c = net_none (member c.args.group)

pub signed_amount-sum-requires : goal.signed_amount-sum-requires
signed_amount-sum-requires c = amount_le c.args.positions.now c.loop-position.position-index zero_position (omega arith) c.requires

pub overflow_add-sum : goal.overflow_add-sum
overflow_add-sum c =
    let ps = c.args.positions.now in
    let i = c.loop-position.position-index in
    let more = net_more (member c.args.group) ps i zero_position (omega arith) (to_z w64 c.loop-position.sum-bits) c.loop-position.invariant _ (back _ (record { sfits = c.signed_amount-sum.type_inv }) ∙ c.signed_amount-sum.ensures) (sym c.contains.ensures ∙ c.if-contains.true) in
    subst (SFits w64) (sym more) (net_fits (member c.args.group) (take (i + 1) ps) (le_trans (sum_take_le amount_of (i + 1) ps) c.requires))

pub loop-position-preserved : goal.loop-position-preserved
loop-position-preserved c =
    let ps = c.args.positions.now in
    let i = c.loop-position.position-index in
    elim c.if-contains.branch [
      | then-contains w ↦
          let f = back _ (record { sfits = w.signed_amount-sum.type_inv }) ∙ w.signed_amount-sum.ensures in
          let more = net_more (member c.args.group) ps i zero_position (omega arith) (to_z w64 c.loop-position.sum-bits) c.loop-position.invariant _ f (sym c.contains.ensures ∙ w.if-contains.true) in
          let fit = subst (SFits w64) (sym more) (net_fits (member c.args.group) (take (i + 1) ps) (le_trans (sum_take_le amount_of (i + 1) ps) c.requires)) in
          w.sum-is ∙ back _ fit ∙ more
      | else-contains w ↦
          w.sum-is ∙ net_same (member c.args.group) ps i zero_position (omega arith) (to_z w64 c.loop-position.sum-bits) c.loop-position.invariant (sym c.contains.ensures ∙ w.if-contains.false)
    ]
