-- `hadlephoga::report::put_report`: the parts of a report, one behind the other. Assumes nothing.
use Rattle.std.proofs.Common.{◌≡◌, arith, refl, rules, length}
use Rattle.deal.specs.Lists.{list_limit}
use Rattle.hadlephoga.specs.Reports.{collateral_numbers, guarantee_numbers, guarantee_report_width, outcome_width, report_numbers}
use Rattle.hadlephoga.proofs.Numbers.{five_parts, length_in_order}
use Rattle.hadlephoga.proofs.report.put_report.Goals as goal

pub put_each-next-requires : goal.put_each-next-requires
put_each-next-requires c =
    let long : length c.args.report.collateral ≡ list_limit = search rules in
    let e = length_in_order collateral_numbers outcome_width (λ x. refl) c.args.report.collateral in
    omega (arith, c.put_number-next.ensures.ends, c.put_number-next.auto.list, e, long, c.requires)

pub put_each-next-requires-2 : goal.put_each-next-requires-2
put_each-next-requires-2 c =
    let long : length c.args.report.collateral ≡ list_limit = search rules in
    let places : length c.args.report.guarantees ≡ list_limit = search rules in
    let e = length_in_order collateral_numbers outcome_width (λ x. refl) c.args.report.collateral in
    let f = length_in_order guarantee_numbers guarantee_report_width (λ x. refl) c.args.report.guarantees in
    omega (arith, c.put_each-next.ensures.ends, c.put_number-next.ensures.ends, c.put_each-next.auto.list, c.put_number-next.auto.list, e, f, long, places, c.requires)

pub put_number-next-requires-2 : goal.put_number-next-requires-2
put_number-next-requires-2 c =
    let long : length c.args.report.collateral ≡ list_limit = search rules in
    let places : length c.args.report.guarantees ≡ list_limit = search rules in
    let e = length_in_order collateral_numbers outcome_width (λ x. refl) c.args.report.collateral in
    let f = length_in_order guarantee_numbers guarantee_report_width (λ x. refl) c.args.report.guarantees in
    omega (arith, c.put_each-next-2.ensures.ends, c.put_each-next.ensures.ends, c.put_number-next.ensures.ends, c.put_each-next-2.auto.list, c.put_each-next.auto.list, c.put_number-next.auto.list, e, f, long, places, c.requires)

pub put_number-requires : goal.put_number-requires
put_number-requires c =
    let long : length c.args.report.collateral ≡ list_limit = search rules in
    let places : length c.args.report.guarantees ≡ list_limit = search rules in
    let e = length_in_order collateral_numbers outcome_width (λ x. refl) c.args.report.collateral in
    let f = length_in_order guarantee_numbers guarantee_report_width (λ x. refl) c.args.report.guarantees in
    omega (arith, c.put_number-next-2.ensures.ends, c.put_each-next-2.ensures.ends, c.put_each-next.ensures.ends, c.put_number-next.ensures.ends, c.put_number-next-2.auto.list, c.put_each-next-2.auto.list, c.put_each-next.auto.list, c.put_number-next.auto.list, e, f, long, places, c.requires)

pub returns : goal.returns
unfolding report_numbers
returns c = five_parts c.put_number-next.ensures c.put_each-next.ensures c.put_each-next-2.ensures c.put_number-next-2.ensures c.put_number.ensures
