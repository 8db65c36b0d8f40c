-- The figures of daily revaluation: stored for whatever a table prints, each the one that scaling gives. Assumes nothing.
use Rattle.std.specs.Prelude.{[], ◌∷◌, Some, None}
use Prim.Native.Nat.{ℕ}
use mathlib.Core.Path.{◌≡◌, refl, sym}
use mathlib.Core.Bool.{true, false}
use Rattle.base.proofs.Choice.{if_false, if_true}
use Rattle.scaling.specs.Period.{guarantee_period, holding_period}
use Rattle.scaling.specs.Scaling.{scaled}
use Rattle.scaling.specs.Stored.{is_daily, is_stored, stored_line}
use Rattle.scaling.proofs.DailyDeals.{currency_haircut_stored, daily_guarantee_period, daily_period, each_of_a_table, every_haircut_stored, every_lent_haircut_stored, factors, printed}
use Rattle.scaling.proofs.Periods.{periods}
use Rattle.scaling.proofs.Scaled.{scaled_means}
use Rattle.scaling.proofs.StoredFigures.{daily_are, taken}
use Rattle.deal.specs.declared.terms.Terms.{Terms}
use Rattle.claims.specs.DailyFigures.{DailyFigures}

ten_days : guarantee_period 1 ≡ 10
unfolding guarantee_period
ten_days = refl

daily : (t : Terms) → t.interval ≡ 1 → (is_daily (holding_period t.kind t.interval) ≡ true) × (is_daily (guarantee_period t.interval) ≡ true)
daily t e = rw e (daily_period t.kind, daily_guarantee_period)

stored_line_lem : (H : ℕ) → is_stored H ≡ true → stored_line H ≡ Some (scaled H 5 ∷ scaled H 10 ∷ scaled H 20 ∷ [])
unfolding stored_line
stored_line_lem H e = if_true (is_stored H) _ _ e

no_other : (H : ℕ) → is_stored H ≡ false → stored_line H ≡ None
unfolding stored_line
no_other H e = if_false (is_stored H) _ _ e

-- THE CLAIM
pub daily_figures : DailyFigures
daily_figures = record {
  periods = periods.0;
  period_of_guarantees = ten_days;
  daily = daily;
  daily_are = daily_are;
  of_collateral = every_haircut_stored;
  of_goods_lent = every_lent_haircut_stored;
  of_currencies = currency_haircut_stored;
  each_of_a_table = each_of_a_table;
  stored_line_lem = stored_line_lem;
  no_other = no_other;
  taken = λ H n five ten twenty d e. scaled_means H n (taken H n d (sym e));
  figures = printed;
  factors = factors;
}
