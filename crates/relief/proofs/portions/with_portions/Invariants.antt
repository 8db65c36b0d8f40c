use Rattle.std.proofs.Common.{◌≡◌, ◌≤◌, ◌++◌, take, drop, replicate, length}
use mathlib.Core.List.{zip_with}
use Rattle.relief.specs.Report.{no_guarantee}
use Rattle.relief.specs.Portions.{covering}
use Rattle.relief.proofs.portions.with_portions.Given as goal

-- after i items the first i places are filled
abbrev pub invariant-loop-i : goal.invariant-loop-i
invariant-loop-i l = (l.i ≤ length l.values) × (l.reports ≡ zip_with covering (take l.i l.values) (take l.i l.portions) ++ drop l.i (replicate 16 no_guarantee))
