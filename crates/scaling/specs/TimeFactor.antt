-- The square-root-of-time factor of a holding period: where no figure is stored, code looks for the scaled haircut from there. CRE22.64
use Rattle.std.specs.Prelude.{◌≤◌, ◌≡◌}
use Rattle.scaling.specs.Scaling.{scaled}
use Rattle.scaling.specs.declared.factor.TimeFactor.{TimeFactor}

-- `millionths` is 1,000,000 scaled to the period, of at most 1,000 days; none that occurs is above 269. Each value of the type has it, up to that period
pub record IsTimeFactor (r : TimeFactor) : Type 0 where
  pub short : r.period ≤ 1000
  pub scaled_millionths : r.millionths ≡ scaled 1000000 r.period
