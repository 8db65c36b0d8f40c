-- 02: L4. "Nearly all our deals are revalued daily, so n is 5, 10 or 20. For these take stored figures for every table haircut, and work out the
-- others as now. Show that each stored figure is the one scaling gives, so answers do not change."
--
-- No definition that an answer is said by has moved, nor what any function ensures: code that stores figures keeps the promises that code which works
-- them out kept. Of the new functions `scaling::stored::stored_figures`, the constant table, ensures that it is `stored_figures`, and
-- `scaling::stored::stored_line` that the line it finds is `stored_line` of the haircut. That nothing is worked out which is stored is what two functions
-- require: `scaling::scaling::scaled_haircut`, the one that takes a root, a period that is not daily; `scaling::factor::TimeFactor::work_out` a haircut that
-- is not stored or a period that is not daily. Here it is said what is stored, and that it is right.
use Rattle.std.specs.Prelude.{ℕ, ◌⊎◌, ◌≡◌, true, false, [], ◌∷◌, map, Some, None}
use Rattle.tables.specs.Haircuts.{currency_haircut}
use Rattle.tables.specs.Table.{table_of}
use Rattle.scaling.specs.Period.{guarantee_period, holding_period}
use Rattle.scaling.specs.Scaling.{IsScaled, scaled}
use Rattle.scaling.specs.Stored.{figure_over, is_daily, is_stored, over_daily, stored_figures, stored_haircuts, stored_line}
use Rattle.deal.specs.declared.terms.Terms.{Terms}

-- the haircut of collateral of a type, step and issue life, as an edition's tables print it
abbrev pub printed : ℕ → ℕ → ℕ → ℕ → ℕ
printed edition goods step life = (table_of edition).haircut goods step life

pub record DailyFigures : Type 0 where
  -- "REVALUED DAILY, SO N IS 5, 10 OR 20"

  -- by kind of transaction; and 10 for the currency haircut of its guarantees
  pub periods : map (λ kind. holding_period kind 1) (1 ∷ 2 ∷ 3 ∷ []) ≡ 5 ∷ 10 ∷ 20 ∷ []
  pub period_of_guarantees : guarantee_period 1 ≡ 10
  -- so the periods of a deal with an interval of one day are daily ones
  pub daily : (t : Terms) → t.interval ≡ 1 → (is_daily (holding_period t.kind t.interval) ≡ true) × (is_daily (guarantee_period t.interval) ≡ true)
  -- 5, 10 and 20 days, and no other period
  pub daily_are : (n : ℕ) → is_daily n ≡ true → (n ≡ 5) ⊎ ((n ≡ 10) ⊎ (n ≡ 20))
  -- "STORED FIGURES FOR EVERY TABLE HAIRCUT"

  -- of whatever collateral and goods lent, those that are not eligible among them, under every edition of the tables; and of currencies
  pub of_collateral : (edition goods step life : ℕ) → is_stored ((table_of edition).haircut goods step life) ≡ true
  pub of_goods_lent : (edition goods step life : ℕ) → is_stored ((table_of edition).lent_haircut goods step life) ≡ true
  pub of_currencies : is_stored currency_haircut ≡ true
  -- and of nothing else: each is one that a table prints, of 2019 but for the two of 2023 alone (edition 3)
  pub each_of_a_table : stored_haircuts ≡
      printed 1 1 0 0
      ∷ printed 1 2 1 360
      ∷ printed 1 3 1 360
      ∷ printed 1 3 3 360
      ∷ printed 1 2 2 1800
      ∷ printed 1 3 1 1800
      ∷ printed 1 3 3 361
      ∷ printed 1 5 1 1800
      ∷ printed 1 3 3 1801
      ∷ printed 1 2 4 360
      ∷ printed 1 5 1 1801
      ∷ printed 3 7 0 0
      ∷ printed 1 5 3 1801
      ∷ printed 1 8 0 0
      ∷ printed 3 8 0 0
      ∷ []
  -- so a stored haircut has a line, and any other has none
  pub stored_line_lem : (H : ℕ) → is_stored H ≡ true → stored_line H ≡ Some (scaled H 5 ∷ scaled H 10 ∷ scaled H 20 ∷ [])
  pub no_other : (H : ℕ) → is_stored H ≡ false → stored_line H ≡ None
  -- "EACH STORED FIGURE IS THE ONE SCALING GIVES"

  -- what is taken from a line over a daily period: the figure that scaling gives, "the least whole number h with 10 × h × h at or above H × H × n"
  pub taken : (H n five ten twenty : ℕ) → is_daily n ≡ true → stored_line H ≡ Some (five ∷ ten ∷ twenty ∷ []) →
      (figure_over n (five ∷ ten ∷ twenty ∷ []) ≡ scaled H n) × IsScaled H n (figure_over n (five ∷ ten ∷ twenty ∷ []))
  -- the table, a line for each haircut in the order above, over 5, 10 and 20 days
  pub figures : stored_figures ≡
      (0 ∷ 0 ∷ 0 ∷ [])
      ∷ (3536 ∷ 5000 ∷ 7072 ∷ [])
      ∷ (7072 ∷ 10000 ∷ 14143 ∷ [])
      ∷ (14143 ∷ 20000 ∷ 28285 ∷ [])
      ∷ (21214 ∷ 30000 ∷ 42427 ∷ [])
      ∷ (28285 ∷ 40000 ∷ 56569 ∷ [])
      ∷ (42427 ∷ 60000 ∷ 84853 ∷ [])
      ∷ (56569 ∷ 80000 ∷ 113138 ∷ [])
      ∷ (84853 ∷ 120000 ∷ 169706 ∷ [])
      ∷ (106067 ∷ 150000 ∷ 212133 ∷ [])
      ∷ (113138 ∷ 160000 ∷ 226275 ∷ [])
      ∷ (141422 ∷ 200000 ∷ 282843 ∷ [])
      ∷ (169706 ∷ 240000 ∷ 339412 ∷ [])
      ∷ (176777 ∷ 250000 ∷ 353554 ∷ [])
      ∷ (212133 ∷ 300000 ∷ 424265 ∷ [])
      ∷ []
  -- and the whole, from which code looks for figures that are not stored: no haircut of a table, and no root is taken for it either
  pub factors : over_daily 1000000 ≡ 707107 ∷ 1000000 ∷ 1414214 ∷ []
