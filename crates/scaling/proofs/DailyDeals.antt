-- What is asked for a deal that is revalued daily is stored: every table haircut, and its periods. Assumes nothing.
use Rattle.std.specs.Prelude.{Some, None}
use Prim.Native.Nat.{ℕ, ◌+◌, ◌-◌}
use mathlib.Core.Path.{◌≡◌, ◌∙◌, refl, sym}
use mathlib.Core.Bool.{true, false}
use mathlib.Core.List.{[], ◌∷◌, map}
use lib.Dec.{eqb}
use Rattle.base.specs.Least.{between, least}
use Rattle.base.proofs.Choice.{either}
use Rattle.tables.specs.Haircuts.{band_of, currency_haircut, debt_haircut, haircut, issuer_column, row_of}
use Rattle.tables.specs.Kinds.{other_capital_market, repo_style}
use Rattle.tables.specs.Table.{table_of}
use Rattle.tables.specs.Version2023.{haircut_2023}
use Rattle.tables.proofs.EveryHaircut.{every_haircut, every_lent_haircut}
use Rattle.scaling.specs.Period.{guarantee_period, holding_period, minimum_period}
use Rattle.scaling.specs.Scaling.{scaled}
use Rattle.scaling.specs.Stored.{figure_over, is_daily, is_stored, over_daily, stored_figures, stored_haircuts, stored_line}
use Rattle.scaling.specs.declared.factor.TimeFactor.{TimeFactor}
use Rattle.scaling.proofs.StoredFigures.{over_right}

pub every_haircut_stored : (edition goods step life : ℕ) → is_stored ((table_of edition).haircut goods step life) ≡ true
unfolding is_stored
every_haircut_stored = every_haircut is_stored refl

pub every_lent_haircut_stored : (edition goods step life : ℕ) → is_stored ((table_of edition).lent_haircut goods step life) ≡ true
unfolding is_stored
every_lent_haircut_stored = every_lent_haircut is_stored refl

pub currency_haircut_stored : is_stored currency_haircut ≡ true
unfolding is_stored
currency_haircut_stored = refl

-- an interval of one day, for whatever kind
pub daily_period : (kind : ℕ) → is_daily (holding_period kind 1) ≡ true
unfolding is_daily holding_period minimum_period
daily_period kind =
    either (λ m. is_daily (1 + m - 1) ≡ true) (eqb kind repo_style) (λ e. refl)
    (λ e. either (λ m. is_daily (1 + m - 1) ≡ true) (eqb kind other_capital_market) (λ e. refl) (λ e. refl))

pub daily_guarantee_period : is_daily (guarantee_period 1) ≡ true
unfolding is_daily guarantee_period
daily_guarantee_period = refl

-- each stored haircut is one that a table prints: of 2019, but for 200000 and 300000
abbrev pub printed_haircut : ℕ → ℕ → ℕ → ℕ → ℕ
printed_haircut edition goods step life = (table_of edition).haircut goods step life

pub each_of_a_table : stored_haircuts ≡
    printed_haircut 1 1 0 0
    ∷ printed_haircut 1 2 1 360
    ∷ printed_haircut 1 3 1 360
    ∷ printed_haircut 1 3 3 360
    ∷ printed_haircut 1 2 2 1800
    ∷ printed_haircut 1 3 1 1800
    ∷ printed_haircut 1 3 3 361
    ∷ printed_haircut 1 5 1 1800
    ∷ printed_haircut 1 3 3 1801
    ∷ printed_haircut 1 2 4 360
    ∷ printed_haircut 1 5 1 1801
    ∷ printed_haircut 3 7 0 0
    ∷ printed_haircut 1 5 3 1801
    ∷ printed_haircut 1 8 0 0
    ∷ printed_haircut 3 8 0 0
    ∷ []
unfolding table_of haircut haircut_2023 debt_haircut row_of band_of issuer_column
each_of_a_table = refl

-- the figures, a line for each haircut, over 5, 10 and 20 days; that of 80000 is the paper's starred one
pub printed : stored_figures ≡
    (0 ∷ 0 ∷ 0 ∷ [])
    ∷ (3536 ∷ 5000 ∷ 7072 ∷ [])
    ∷ (7072 ∷ 10000 ∷ 14143 ∷ [])
    ∷ (14143 ∷ 20000 ∷ 28285 ∷ [])
    ∷ (21214 ∷ 30000 ∷ 42427 ∷ [])
    ∷ (28285 ∷ 40000 ∷ 56569 ∷ [])
    ∷ (42427 ∷ 60000 ∷ 84853 ∷ [])
    ∷ (56569 ∷ 80000 ∷ 113138 ∷ [])
    ∷ (84853 ∷ 120000 ∷ 169706 ∷ [])
    ∷ (106067 ∷ 150000 ∷ 212133 ∷ [])
    ∷ (113138 ∷ 160000 ∷ 226275 ∷ [])
    ∷ (141422 ∷ 200000 ∷ 282843 ∷ [])
    ∷ (169706 ∷ 240000 ∷ 339412 ∷ [])
    ∷ (176777 ∷ 250000 ∷ 353554 ∷ [])
    ∷ (212133 ∷ 300000 ∷ 424265 ∷ [])
    ∷ []
unfolding scaled least between
printed = refl

-- the time factors of daily periods
pub factors : over_daily 1000000 ≡ 707107 ∷ 1000000 ∷ 1414214 ∷ []
unfolding scaled least between
factors = refl

pub daily_factor : (r : TimeFactor) → is_daily r.period ≡ true → r.millionths ≡ figure_over r.period (707107 ∷ 1000000 ∷ 1414214 ∷ [])
unfolding scaled least between
daily_factor r d = r.scaled_millionths ∙ sym (over_right 1000000 r.period d refl)

-- next to daily periods, where the figure is worked out
pub neighbours : map (scaled 80000) (4 ∷ 6 ∷ 9 ∷ 11 ∷ 19 ∷ 21 ∷ 24 ∷ 269 ∷ []) ≡ 50597 ∷ 61968 ∷ 75895 ∷ 83905 ∷ 110273 ∷ 115932 ∷ 123936 ∷ 414922 ∷ []
unfolding scaled least between
neighbours = refl

-- the periods and the haircuts that are stored, beside some that are not
pub daily_and_others : map is_daily (0 ∷ 4 ∷ 5 ∷ 6 ∷ 9 ∷ 10 ∷ 11 ∷ 14 ∷ 15 ∷ 19 ∷ 20 ∷ 21 ∷ 24 ∷ 25 ∷ []) ≡ false ∷ false ∷ true ∷ false ∷ false ∷ true ∷ false ∷ false ∷ false ∷ false ∷ true ∷ false ∷ false ∷ false ∷ []
unfolding is_daily
daily_and_others = refl

pub stored_and_others : map is_stored (1 ∷ 4999 ∷ 5000 ∷ 5001 ∷ 15000 ∷ 50000 ∷ 80000 ∷ 300000 ∷ 310000 ∷ 1000000 ∷ []) ≡ false ∷ false ∷ true ∷ false ∷ false ∷ false ∷ true ∷ true ∷ false ∷ false ∷ []
unfolding is_stored
stored_and_others = refl

-- THE STARRED FIGURES of 80000, which is that of currencies, from its line; a haircut that no table has is without one, and is worked out
pub lines : map stored_line (currency_haircut ∷ 5000 ∷ 0 ∷ 80001 ∷ 50000 ∷ 1000000 ∷ []) ≡ Some (56569 ∷ 80000 ∷ 113138 ∷ []) ∷ Some (3536 ∷ 5000 ∷ 7072 ∷ []) ∷ Some (0 ∷ 0 ∷ 0 ∷ []) ∷ None ∷ None ∷ None ∷ []
unfolding stored_line is_stored scaled least between
lines = refl

pub over_each : map (λ n. figure_over n (56569 ∷ 80000 ∷ 113138 ∷ [])) (5 ∷ 10 ∷ 20 ∷ []) ≡ 56569 ∷ 80000 ∷ 113138 ∷ []
unfolding figure_over
over_each = refl
