use Rattle.std.proofs.Common.{arith, ◌≡◌, ◌∙◌, ◌*◌, ◌/◌, ◌<◌, get_or, take, drop, length, []}
use Rattle.std.proofs.Math.Seq.{get_or-take, length-take-le}
use Rattle.result.proofs.Lines.{no_rows, one_row, all_rows, chunk_at}
use Rattle.result.proofs.rows.put_rows.Goals as goal

pub loop-numbers-init : goal.loop-numbers-init
loop-numbers-init c = no_rows _ _ _ _

pub loop-numbers-preserved : goal.loop-numbers-preserved
loop-numbers-preserved c =
    let i = c.loop-numbers.numbers-index in
    let results = c.args.results.now in
    let l = length-take-le c.args.deals c.as_chunks.result.0.now (omega (arith, c.as_chunks.ensures.front_len)) in
    let k : i < length results / 4 = omega arith in
    let e : get_or (take c.args.deals c.as_chunks.result.0.now) i [] ≡ take 4 (drop (4 * i) results) =
    get_or-take c.args.deals c.as_chunks.result.0.now i [] (omega arith) ∙ rw c.as_chunks.ensures.front (chunk_at (length results / 4) i results k) in
    one_row _ _ _ _ _ _ _ c.loop-numbers.invariant _ _ _ e (omega arith) (omega arith) c.put_row-place.auto.out c.put_row-place.ensures

pub returns : goal.returns
returns c =
    let l = length-take-le c.args.deals c.as_chunks.result.0.now (omega (arith, c.as_chunks.ensures.front_len)) in
    all_rows _ _ _ _ _ _ _ c.loop-numbers.invariant (omega arith)
