-- Which goods are eligible as collateral. CRE22.37, CRE22.38, CRE22.39; 01: Grounds for leaving an item out, ground 24.
-- `eligible` decides; `excluded` is the paper's own list, and `eligible_as_listed` (proofs/Listed) proves that, of types 1 to 9
-- at steps 0 to 6, those eligible are all but those excluded
use Rattle.std.specs.Prelude.{ℕ, Bool, true, false, not, ◌&&◌, ◌||◌, ltb, eqb, if◌then◌else◌}
use Rattle.base.specs.Range.{within}
use Rattle.tables.specs.Goods.{cash, sovereign_debt, other_debt, bank_debt, securitisation, resecuritisation, main_index_equity, other_listed_equity, gold}

-- bank debt is eligible unrated too, where it is listed senior paper. CRE22.37(4)
unfoldable pub bank_debt_eligible : ℕ → ℕ → Bool
bank_debt_eligible step listed = if eqb step 0 then eqb listed 1 else within 1 3 step

unfoldable pub equity_or_gold : ℕ → Bool
equity_or_gold goods = eqb goods main_index_equity || eqb goods other_listed_equity || eqb goods gold

-- goods of this type and step; listed is 1 where the condition "listed senior bank paper" is met.
-- A re-securitisation is never eligible. CRE22.38
unfoldable pub eligible : ℕ → ℕ → ℕ → Bool
eligible goods step listed =
    if eqb goods cash then true else
    if eqb goods sovereign_debt then within 1 4 step else
    if eqb goods other_debt then within 1 3 step else
    if eqb goods bank_debt then bank_debt_eligible step listed else
    if eqb goods securitisation then within 1 3 step else
    equity_or_gold goods

-- "type 6; type 2 at steps 0, 5, 6; types 3, 5 at 0 or above 3; type 4 above 3, or 0 and not listed senior"
unfoldable pub excluded : ℕ → ℕ → ℕ → Bool
excluded goods step listed =
    if eqb goods resecuritisation then true else
    if eqb goods sovereign_debt then eqb step 0 || eqb step 5 || eqb step 6 else
    if eqb goods other_debt || eqb goods securitisation then eqb step 0 || ltb 3 step else
    if eqb goods bank_debt then ltb 3 step || (eqb step 0 && not (eqb listed 1)) else
    false
