-- Kinds of transaction. 01: What a deal holds, "kind". CRE22.60, CRE22.61
use Rattle.std.specs.Prelude.{ℕ}

abbrev pub repo_style : ℕ
repo_style = 1

abbrev pub other_capital_market : ℕ
other_capital_market = 2

abbrev pub secured_lending : ℕ
secured_lending = 3
