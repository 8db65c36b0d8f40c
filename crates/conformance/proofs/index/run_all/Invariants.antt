use Rattle.std.proofs.Common.{length, ◌+◌, ◌≤◌, ◌≡◌}
use Rattle.text.specs.Text.{lines_of}
use Rattle.conformance.proofs.index.run_all.Given as goal

abbrev pub invariant-loop-left : goal.invariant-loop-left
invariant-loop-left g l =
    (l.books + length l.left ≤ length l.names)
    × (l.differ ≤ l.books)
    × (l.books + length (lines_of l.left) ≡ length (lines_of l.names))

abbrev pub decreases-loop-left : goal.decreases-loop-left
decreases-loop-left g l = length l.left
