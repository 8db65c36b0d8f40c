-- `hadlephoga::writing::put_record`: the parts of a record, one behind the other. Assumes nothing.
use Rattle.std.proofs.Common.{◌≡◌, ap, arith, refl, rules, length}
use Rattle.deal.specs.Fields.{collateral_fields, collateral_width, guarantee_fields, guarantee_width}
use Rattle.deal.specs.Lists.{list_limit}
use Rattle.hadlephoga.specs.Records.{deal_numbers}
use Rattle.hadlephoga.proofs.Numbers.{five_parts}
use Rattle.hadlephoga.proofs.Records.{length_places}
use Rattle.hadlephoga.proofs.writing.put_record.Goals as goal

pub put_each-next-requires : goal.put_each-next-requires
put_each-next-requires c =
    let long : length c.args.deal.collateral.items ≡ list_limit = search rules in
    let e = length_places collateral_fields collateral_width (λ x. refl) c.args.deal.collateral.items long in
    omega (arith, c.put_number-next.ensures.ends, c.put_numbers-next.ensures.ends, ap length c.terms_fields.ensures, c.put_number-next.auto.list, c.put_numbers-next.auto.list, e, c.requires)

pub put_number-next-requires-2 : goal.put_number-next-requires-2
put_number-next-requires-2 c =
    let long : length c.args.deal.collateral.items ≡ list_limit = search rules in
    let e = length_places collateral_fields collateral_width (λ x. refl) c.args.deal.collateral.items long in
    omega (arith, c.put_each-next.ensures.ends, c.put_number-next.ensures.ends, c.put_numbers-next.ensures.ends, ap length c.terms_fields.ensures, c.put_each-next.auto.list, c.put_number-next.auto.list, c.put_numbers-next.auto.list, e, c.requires)

pub put_each-requires : goal.put_each-requires
put_each-requires c =
    let long : length c.args.deal.collateral.items ≡ list_limit = search rules in
    let places : length c.args.deal.guarantees.items ≡ list_limit = search rules in
    let e = length_places collateral_fields collateral_width (λ x. refl) c.args.deal.collateral.items long in
    let f = length_places guarantee_fields guarantee_width (λ x. refl) c.args.deal.guarantees.items places in
    omega (arith, c.put_number-next-2.ensures.ends, c.put_each-next.ensures.ends, c.put_number-next.ensures.ends, c.put_numbers-next.ensures.ends, ap length c.terms_fields.ensures, c.put_number-next-2.auto.list, c.put_each-next.auto.list, c.put_number-next.auto.list, c.put_numbers-next.auto.list, e, f, c.requires)

pub returns : goal.returns
unfolding deal_numbers
returns c =
    let terms = rw c.terms_fields.ensures at c.put_numbers-next.ensures in
    five_parts terms c.put_number-next.ensures c.put_each-next.ensures c.put_number-next-2.ensures c.put_each.ensures
