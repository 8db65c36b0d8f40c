use Rattle.std.proofs.Common.{rules, ◌≡◌, ◌≤◌, ◌+◌, ◌*◌, pos, ◌+ℤ◌, ◌*ℤ◌, sym, ◌∙◌, to_z, of_z, w64, arith}
use Rattle.base.specs.Sum.{sum_of}
use Rattle.signed.specs.Signed.{◌less◌}
use Rattle.signed.proofs.Less.{less_same, less_zero}
use Rattle.signed.proofs.Machine.{added, back, cast_reads, fits, times}
use Rattle.netting.specs.Exposure.{exposure, exposure_of}
use Rattle.netting.specs.Limits.{Fitting}
use Rattle.netting.specs.Nets.{lent, received}
use Rattle.netting.proofs.Exposures.{both_sides, whole_net}
use Rattle.netting.proofs.accepted.AcceptedSet.exposure.Goals as goal

-- the net, scaled to millionths
scaled : (c : goal.After-net) → to_z w64 (of_z w64 c.net.result) *ℤ pos 1000000 ≡ (sum_of lent c.args.self.now.positions.now * 1000000) less (sum_of received c.args.self.now.positions.now * 1000000)
scaled c = times _ _ _ 1000000 (back _ (record { sfits = c.net.type_inv }) ∙ c.net.ensures ∙ whole_net c.args.self.now.positions.now)

limits : (c : goal.After-net) → sum_of lent c.args.self.now.positions.now + sum_of received c.args.self.now.positions.now ≤ 1000000000000
limits c =
    let f : Fitting c.args.self.now.terms c.args.self.now.positions.now = search rules in
    omega (arith, both_sides c.args.self.now.positions.now, f.amounts)

-- the add-ons besides
sum_is : (c : goal.After-net) →
    to_z w64 (of_z w64 (to_z w64 (of_z w64 c.net.result) *ℤ pos 1000000)) +ℤ to_z w64 (c.security_add_on.result + c.currency_add_on.result)
    ≡ (sum_of lent c.args.self.now.positions.now * 1000000 + (c.security_add_on.result + c.currency_add_on.result)) less (sum_of received c.args.self.now.positions.now * 1000000 + 0)
sum_is c =
    let fit = fits _ _ _ (scaled c) (omega (arith, limits c)) (omega (arith, limits c)) in
    added _ _ _ _ _ _ (back _ fit ∙ scaled c)
    (cast_reads _ (omega (arith, c.security_add_on.ensures.1, c.currency_add_on.ensures.1)) ∙ sym (less_zero (c.security_add_on.result + c.currency_add_on.result)))

pub overflow_mul-result : goal.overflow_mul-result
overflow_mul-result c = fits _ _ _ (scaled c) (omega (arith, limits c)) (omega (arith, limits c))

pub overflow_add-result : goal.overflow_add-result
overflow_add-result c = fits _ _ _ (sum_is c) (omega (arith, limits c, c.security_add_on.ensures.1, c.currency_add_on.ensures.1)) (omega (arith, limits c))

pub returns : goal.returns
unfolding exposure_of exposure
returns c =
    let fit = fits _ _ _ (sum_is c) (omega (arith, limits c, c.security_add_on.ensures.1, c.currency_add_on.ensures.1)) (omega (arith, limits c)) in
    back _ fit ∙ sum_is c ∙ less_same _ _ _ _ (omega (arith, c.security_add_on.ensures.0, c.currency_add_on.ensures.0))
