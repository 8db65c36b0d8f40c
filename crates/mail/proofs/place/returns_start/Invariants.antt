use Rattle.std.proofs.Common.{◌≡◌, ◌-◌, ◌++◌, drop, replicate}
use Rattle.mail.specs.Mail.{carriage_return}
use Rattle.mail.proofs.place.returns_start.Given as goal

abbrev pub invariant-loop-before : goal.invariant-loop-before
invariant-loop-before l = drop l.before l.book ≡ replicate (l.end - l.before) carriage_return ++ drop l.end l.book
