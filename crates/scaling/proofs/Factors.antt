-- What each time factor has. Assumes nothing.
use Rattle.std.specs.Prelude.{◌≤◌}
use Rattle.scaling.specs.TimeFactor.{IsTimeFactor}
use Rattle.scaling.specs.declared.factor.TimeFactor.{TimeFactor}

pub factor_is : (r : TimeFactor) → r.period ≤ 1000 → IsTimeFactor r
factor_is r h = record { short = h; scaled_millionths = r.scaled_millionths }
