-- The figures that are stored and not worked out. 02: L4
use Rattle.std.specs.Prelude.{ℕ, Bool, false, ◌||◌, List, [], ◌∷◌, map, eqb, get_or, Option, Some, None, if◌then◌else◌}
use Rattle.scaling.specs.Scaling.{scaled}

-- "so n is 5, 10 or 20": the periods of a deal that is revalued daily. Others have them too (a repo-style deal every 6 or 16 days, another capital
-- market one and any deal's guarantees every 11), and take the same figures
unfoldable pub is_daily : ℕ → Bool
is_daily n = eqb n 5 || eqb n 10 || eqb n 20

-- every table haircut, of goods lent that are not eligible and of currencies (80000) too; 200000 and 300000 are of 2023 alone, 250000 of 2019 alone
-- (`every_haircut_stored`; `each_of_a_table`)
abbrev pub stored_haircuts : List ℕ
stored_haircuts = 0 ∷ 5000 ∷ 10000 ∷ 20000 ∷ 30000 ∷ 40000 ∷ 60000 ∷ 80000 ∷ 120000 ∷ 150000 ∷ 160000 ∷ 200000 ∷ 240000 ∷ 250000 ∷ 300000 ∷ []

abbrev pub among : List ℕ → ℕ → Bool
among [] H = false
among (x ∷ xs) H = eqb H x || among xs H

-- whether a haircut is one of them: its figures over daily periods are stored, those over any other period are worked out
unfoldable pub is_stored : ℕ → Bool
is_stored H = among stored_haircuts H

-- what scaling gives of a haircut over 5, 10 and 20 days
abbrev pub over_daily : ℕ → List ℕ
over_daily H = scaled H 5 ∷ scaled H 10 ∷ scaled H 20 ∷ []

-- "stored figures for every table haircut": a line of three for each
abbrev pub stored_figures : List (List ℕ)
stored_figures = map over_daily stored_haircuts

-- the line of a haircut; one that no table has is without
unfoldable pub stored_line : ℕ → Option (List ℕ)
stored_line H = if is_stored H then Some (over_daily H) else None

-- of a line, the figure over a daily period n: over 20 days where n is neither 5 nor 10
unfoldable pub figure_over : ℕ → List ℕ → ℕ
figure_over n figures = if eqb n 5 then get_or figures 0 0 else if eqb n 10 then get_or figures 1 0 else get_or figures 2 0
