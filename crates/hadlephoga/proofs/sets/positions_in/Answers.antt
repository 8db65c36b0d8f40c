use Rattle.std.proofs.Common.{rules, tests, ◌*◌, refl}
use Rattle.netting.specs.Fields.{position_in, position_width}
use Rattle.hadlephoga.proofs.Made.{made_front}
use Rattle.hadlephoga.proofs.Pieces.{part}
use Rattle.hadlephoga.proofs.sets.positions_in.Goals as goal

pub returns : goal.returns
returns c le =
    let ns = c.args.numbers.now in
    made_front _ _ (λ i. position_in (part position_width ns (i * position_width))) c.args.count (λ i y q k. search (rules, tests)) position_width 32 position_in ns c.from_fn.result le
    (λ i. refl) c.from_fn.ensures.items
