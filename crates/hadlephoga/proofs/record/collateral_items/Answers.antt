-- `hadlephoga::record::collateral_items`: each place is read from its slice. Assumes nothing.
use Rattle.std.proofs.Common.{rules, tests, ◌*◌, ◌∙◌, arith, refl, sym}
use Rattle.std.proofs.lemmas.List.{take_all}
use Rattle.deal.specs.Fields.{collateral_in, collateral_width}
use Rattle.deal.specs.Lists.{list_limit}
use Rattle.hadlephoga.proofs.Made.{made_front}
use Rattle.hadlephoga.proofs.Pieces.{part}
use Rattle.hadlephoga.proofs.record.collateral_items.Goals as goal

pub returns : goal.returns
returns c =
    let ns = c.args.numbers.now in
    let front = made_front _ _ (λ i. collateral_in (part collateral_width ns (i * collateral_width))) list_limit (λ i y q k. search (rules, tests)) collateral_width list_limit collateral_in ns c.from_fn.result (omega arith) (λ i. refl) c.from_fn.ensures.items in
    sym (take_all list_limit c.from_fn.result (omega (arith, c.from_fn.ensures.items.long))) ∙ front
