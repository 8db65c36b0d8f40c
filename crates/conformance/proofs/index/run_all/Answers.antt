use Rattle.std.proofs.Common.{ap, arith, length, ◌+◌, ◌≤◌, ◌≡◌}
use Rattle.text.specs.Text.{lines_of}
use Rattle.text.proofs.Lines.{lines_at, first_at_some, first_inside, no_lines_at}
use Rattle.conformance.proofs.index.run_all.Goals as goal
use Rattle.conformance.proofs.index.run_all.Goals.{then-not-run, else-not-run}

pub split_at-requires : goal.split_at-requires
split_at-requires g c = omega (arith, c.line_end.ensures, first_inside c.loop-left.left.now)

pub slice_bounds-run-count : goal.slice_bounds-run-count
slice_bounds-run-count g c = omega (arith, c.line_end.ensures, c.split_at.ensures.front_len, first_at_some c.loop-left.left.now 0 c.loop-left-test.true)

pub loop-left-smaller : goal.loop-left-smaller
loop-left-smaller g c =
    omega (arith, c.line_end.ensures, c.split_at.ensures.back_len, first_inside c.loop-left.left.now, first_at_some c.loop-left.left.now 0 c.loop-left-test.true)

pub loop-left-preserved : goal.loop-left-preserved
loop-left-preserved g c =
    let left = c.loop-left.left.now in
    let some = c.loop-left-test.true in
    let shorter : c.loop-left.books + 1 + length c.split_at.result.1.now ≤ length c.args.names.now = omega (arith, c.line_end.ensures, c.split_at.ensures.back_len, first_inside left, first_at_some left 0 some) in
    let f : c.if-not-run.differ ≤ c.loop-left.books + 1 = elim c.if-not-run.branch [ then-not-run w ↦ omega arith | else-not-run w ↦ omega arith ] in
    let m : length (lines_of left) ≡ length (lines_of c.split_at.result.1.now) + 1 = rw (c.split_at.ensures.back, c.line_end.ensures) (omega (arith, ap length (lines_at left 0 some))) in
    (shorter, f, omega (arith, m))

pub returns : goal.returns
returns g c =
    let k = ap length (no_lines_at c.loop-left.left.now 0 c.loop-left-test.false) in
    (omega (arith, k), omega arith)
