use Rattle.std.proofs.Common.{arith, refl, sym, ◌∙◌, None, Some}
use Rattle.lines.specs.Lines.{if_read}
use Rattle.lines.proofs.LineLaws.{deal_said, collateral_said, guarantee_said, swap_said, other_letter}
use Rattle.lines.proofs.SovereignLaws.{width_le}
use Rattle.lines.proofs.line.read_behind.Goals as goal

pub read_fields-requires : goal.read_fields-requires
read_fields-requires c = omega (arith, c.width_under.ensures, width_le c.args.edition 11)

pub returns-in_err-fields-in-68 : goal.returns-in_err-fields-in-68
unfolding if_read
returns-in_err-fields-in-68 c = rw c.from_residual.ensures (deal_said _ _ _ _ None c.in_err-fields-in-68.ensures c.in-68.is c.width_under.ensures)

pub returns-in_ok-fields-in-68 : goal.returns-in_ok-fields-in-68
unfolding if_read
returns-in_ok-fields-in-68 c = c.deal_line.ensures ∙ deal_said _ _ _ _ (Some c.in_ok-fields-in-68.fields) c.in_ok-fields-in-68.ensures c.in-68.is c.width_under.ensures

pub returns-in_err-fields-in-67 : goal.returns-in_err-fields-in-67
unfolding if_read
returns-in_err-fields-in-67 c = rw c.from_residual-in_err-fields-in-67.ensures (collateral_said _ _ _ _ None c.in_err-fields-in-67.ensures c.in-67.is refl)

pub returns-in_ok-fields-in-67 : goal.returns-in_ok-fields-in-67
unfolding if_read
returns-in_ok-fields-in-67 c = c.collateral_line.ensures ∙ collateral_said _ _ _ _ (Some c.in_ok-fields-in-67.fields) c.in_ok-fields-in-67.ensures c.in-67.is refl

pub read_fields-requires-in-71 : goal.read_fields-requires-in-71
read_fields-requires-in-71 c = omega (arith, c.width_under-in-71.ensures, width_le c.args.edition 10)

pub returns-in_err-fields-in-71 : goal.returns-in_err-fields-in-71
unfolding if_read
returns-in_err-fields-in-71 c = rw c.from_residual-in_err-fields-in-71.ensures (guarantee_said _ _ _ _ None c.in_err-fields-in-71.ensures c.in-71.is c.width_under-in-71.ensures)

pub returns-in_ok-fields-in-71 : goal.returns-in_ok-fields-in-71
unfolding if_read
returns-in_ok-fields-in-71 c = c.guarantee_line.ensures ∙ guarantee_said _ _ _ _ (Some c.in_ok-fields-in-71.fields) c.in_ok-fields-in-71.ensures c.in-71.is c.width_under-in-71.ensures

pub read_fields-requires-in-83 : goal.read_fields-requires-in-83
read_fields-requires-in-83 c = omega (arith, c.width_under-in-83.ensures, width_le c.args.edition 11)

pub returns-in_err-fields-in-83 : goal.returns-in_err-fields-in-83
unfolding if_read
returns-in_err-fields-in-83 c = rw c.from_residual-in_err-fields-in-83.ensures (swap_said _ _ _ _ None c.in_err-fields-in-83.ensures c.in-83.is c.width_under-in-83.ensures)

pub returns-in_ok-fields-in-83 : goal.returns-in_ok-fields-in-83
unfolding if_read
returns-in_ok-fields-in-83 c = c.swap_line.ensures ∙ swap_said _ _ _ _ (Some c.in_ok-fields-in-83.fields) c.in_ok-fields-in-83.ensures c.in-83.is c.width_under-in-83.ensures

pub returns-in_default : goal.returns-in_default
returns-in_default c =
    let r = c.in_default.in_default-own.rest in
    sym (other_letter _ _ _ r.0.0.0.1 r.0.0.1 r.0.1 r.1)
