use Rattle.std.proofs.Common.{rules, ◌≡◌, ◌≤◌, ℤ, min, nat_abs, sym, ap, ap₂, subst, ◌∙◌, to_z, of_z, w64, arith}
use Rattle.signed.specs.Signed.{at_least_zero, ceiling}
use Rattle.signed.proofs.Machine.{back}
use Rattle.netting.specs.Exposure.{exposure_after_netting, exposure_of, net_exposure}
use Rattle.netting.specs.Limits.{Fitting}
use Rattle.netting.proofs.Exposures.{above_zero, below_zero, both_sides, exposure_small}
use Rattle.netting.proofs.accepted.AcceptedSet.exposure_after_netting.Goals as goal

exposure_is : (c : goal.After-exposure) → to_z w64 (of_z w64 c.exposure.result) ≡ exposure_of c.args.self.now.terms c.args.self.now.positions.now
exposure_is c = back _ (record { sfits = c.exposure.type_inv }) ∙ c.exposure.ensures

pub rounded_up-rounded-requires : goal.rounded_up-rounded-requires
rounded_up-rounded-requires c =
    let f : Fitting c.args.self.now.terms c.args.self.now.positions.now = search rules in
    subst (λ (z : ℤ). nat_abs z ≤ 4000000000000000000) (sym (exposure_is c)) (exposure_small f)

pub returns-then-rounded-lt0 : goal.returns-then-rounded-lt0
unfolding exposure_after_netting exposure_of net_exposure
returns-then-rounded-lt0 c =
    let b = back _ (record { sfits = c.exposure.type_inv }) ∙ c.exposure.ensures in
    let r = back _ (record { sfits = c.rounded_up-rounded.type_inv }) ∙ c.rounded_up-rounded.ensures ∙ ap (λ z. ceiling z 1000000) b in
    (omega (arith, ap at_least_zero r, below_zero (to_z w64 (of_z w64 c.rounded_up-rounded.result)) c.if-rounded-lt0.true), omega arith)

pub returns : goal.returns
unfolding exposure_after_netting exposure_of net_exposure
returns c =
    let f : Fitting c.args.self.now.terms c.args.self.now.positions.now = search rules in
    let b = back _ (record { sfits = c.exposure.type_inv }) ∙ c.exposure.ensures in
    let r = back _ (record { sfits = c.rounded_up-rounded.type_inv }) ∙ c.rounded_up-rounded.ensures ∙ ap (λ z. ceiling z 1000000) b in (
      c.min.ensures ∙ ap₂ min c.lent_total.ensures (above_zero (to_z w64 (of_z w64 c.rounded_up-rounded.result)) c.if-rounded-lt0.false ∙ ap at_least_zero r),
      omega (arith, c.min.ensures, c.lent_total.ensures, both_sides c.args.self.now.positions.now, f.amounts),
    )
