-- What the program has room for; only contracts of inner functions name it. "17 amounts of all positions sum above the amount limit"
use Rattle.std.specs.Prelude.{◌≤◌, List}
use Rattle.base.specs.Sum.{sum_of}
use Rattle.netting.specs.Positions.{amount_of}
use Rattle.netting.specs.declared.position.Position.{Position}
use Rattle.netting.specs.declared.terms.SetTerms.{SetTerms}

pub record Fitting (t : SetTerms) (ps : List Position) : Type 0 where
  pub some_days : 1 ≤ t.interval
  pub few_days : t.interval ≤ 60
  pub amounts : sum_of amount_of ps ≤ 1000000000000
