use Rattle.std.proofs.Common.{rules, ◌≤◌, ◌*◌, ℤ, sym, ap, subst, ◌∙◌, nat_abs, arith}
use native.Mathlib.Nat.{le_trans, mul-le-mul}
use Rattle.signed.proofs.Machine.{back}
use Rattle.netting.specs.Groups.{member}
use Rattle.netting.specs.Limits.{Fitting}
use Rattle.netting.proofs.NetSums.{net_small}
use Rattle.netting.proofs.accepted.AcceptedSet.weighed_net.Goals as goal

pub absolute-requires : goal.absolute-requires
absolute-requires c =
    let s = c.args.self.now in
    let f : Fitting s.terms s.positions.now = search rules in
    let e = back _ (record { sfits = c.net.type_inv }) ∙ c.net.ensures in
    subst (λ (z : ℤ). nat_abs z ≤ 4000000000000000000) (sym e) (le_trans (net_small _ s.positions.now f.amounts) (omega arith))

pub overflow_mul-result : goal.overflow_mul-result
overflow_mul-result c =
    let s = c.args.self.now in
    let f : Fitting s.terms s.positions.now = search rules in
    let e = c.absolute.ensures ∙ ap nat_abs (back _ (record { sfits = c.net.type_inv }) ∙ c.net.ensures) in
    let h : c.absolute.result ≤ 1000000000000 = omega (arith, e, net_small (member c.args.group) s.positions.now f.amounts) in
    omega (arith, mul-le-mul h c.requires)

pub returns : goal.returns
returns c = ap (λ n. n * c.args.haircut) (c.absolute.ensures ∙ ap nat_abs (back _ (record { sfits = c.net.type_inv }) ∙ c.net.ensures))
