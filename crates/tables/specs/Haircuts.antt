-- Standard supervisory haircuts in millionths, for a holding period of ten business days, version of 2019 (editions 1 and 2). CRE22.44 to CRE22.47;
-- 01: Haircuts in millionths. A year is 360 days. The currency haircut is that of every version
use Rattle.std.specs.Prelude.{ℕ, List, [], ◌∷◌, leb, eqb, get_or, if◌then◌else◌}
use Rattle.tables.specs.Goods.{cash, sovereign_debt, securitisation, main_index_equity, other_listed_equity, gold}
use Rattle.tables.specs.Eligibility.{eligible}

-- the table: a row for step 1, one for steps 2 and 3, one for step 4; in a row, for each band of life: sovereign / other /
-- securitisation. "Type 2 at step 4: 150000"; the other two are not eligible there, and no answer
-- depends on their cells
abbrev pub debt_haircuts : List (List (List ℕ))
debt_haircuts =
    ((5000 ∷ 10000 ∷ 20000 ∷ []) ∷ (20000 ∷ 40000 ∷ 80000 ∷ []) ∷ (40000 ∷ 80000 ∷ 160000 ∷ []) ∷ [])
    ∷ ((10000 ∷ 20000 ∷ 40000 ∷ []) ∷ (30000 ∷ 60000 ∷ 120000 ∷ []) ∷ (60000 ∷ 120000 ∷ 240000 ∷ []) ∷ [])
    ∷ ((150000 ∷ 250000 ∷ 250000 ∷ []) ∷ (150000 ∷ 250000 ∷ 250000 ∷ []) ∷ (150000 ∷ 250000 ∷ 250000 ∷ []) ∷ [])
    ∷ []

abbrev pub cell : ℕ → ℕ → ℕ → ℕ
cell row band column = get_or (get_or (get_or debt_haircuts row []) band []) column 0

-- unrated bank debt, eligible where listed senior, "uses the second row" (CRE22.37(4)). So do steps 5 and 6 and other unrated debt, which
-- are not eligible and whose figure counts for nothing
unfoldable pub row_of : ℕ → ℕ
row_of step = if eqb step 1 then 0 else if eqb step 4 then 2 else 1

-- the security's own residual life: "up to 360", "361 to 1,800", "over 1,800" days
unfoldable pub band_of : ℕ → ℕ
band_of life = if leb life 360 then 0 else if leb life 1800 then 1 else 2

-- "Bank debt is in the "other" column"
unfoldable pub issuer_column : ℕ → ℕ
issuer_column goods = if eqb goods sovereign_debt then 0 else if eqb goods securitisation then 2 else 1

unfoldable pub debt_haircut : ℕ → ℕ → ℕ → ℕ
debt_haircut goods step life = cell (row_of step) (band_of life) (issuer_column goods)

-- goods of this type, step and issue life; the figure counts only where they are eligible
unfoldable pub haircut : ℕ → ℕ → ℕ → ℕ
haircut goods step life =
    if eqb goods cash then 0 else
    if eqb goods main_index_equity then 150000 else
    if eqb goods gold then 150000 else
    if eqb goods other_listed_equity then 250000 else
    debt_haircut goods step life

-- goods lent: "that would not be eligible as collateral, unrated bank debt among them: 250000" (they have no listing
-- condition). CRE22.47
unfoldable pub lent_haircut : ℕ → ℕ → ℕ → ℕ
lent_haircut goods step life = if eligible goods step 0 then haircut goods step life else 250000

-- "Different currencies: 80000 besides". CRE22.46 for collateral, CRE22.94 and CRE22.95 for guarantees, CRE22.72 (H_fx) for netting sets
abbrev pub currency_haircut : ℕ
currency_haircut = 80000
