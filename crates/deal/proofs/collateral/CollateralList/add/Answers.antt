-- `deal::collateral::CollateralList::add`: 6 first, then the item's own tests; nothing changes beside a refusal. Assumes nothing.
use Rattle.std.proofs.Common.{◌+◌, ap, ◌∙◌, rules}
use Rattle.deal.specs.Answers.{answer_number}
use Rattle.deal.specs.Lists.{items_with, unless_refused}
use Rattle.deal.specs.Collateral.{append_collateral, collateral_list_refusal, collateral_list_tests, collateral_list_with, collateral_refusal, collateral_tests}
use Rattle.deal.proofs.Lists.{answered_by_list, parts_unless_refused}
use Rattle.deal.proofs.collateral.CollateralList.add.Goals as goal

pub returns : goal.returns
unfolding collateral_list_refusal collateral_list_tests collateral_list_with collateral_refusal
returns c =
    let l = c.args.self in
    let put = c.put_item-answer.ensures in
    let number = answered_by_list collateral_tests l.items l.count c.args.item (search rules) put.refusal in
    let after = parts_unless_refused (λ items count. record { items = items; count = count }) (answer_number c.put_item-answer.result) (items_with l.items l.count c.args.item) l.items (l.count + 1) l.count put.items_after put.count_after in
    (after ∙ ap (λ n. unless_refused n (append_collateral l c.args.item) l) number, number)
