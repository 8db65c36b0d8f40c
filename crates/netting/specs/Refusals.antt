-- What a netting set is refused for. 02: L6, "The set's fields come first, then a thirty-third position as 6, then each position's in order .. (After the
-- fields: 15 two entries for one nonzero security that disagree in type, step, life or currency; 16 received goods not eligible as collateral; 17 amounts
-- of all positions sum above the amount limit.)"
use Rattle.std.specs.Prelude.{ℕ, Bool, not, ◌&&◌, List, [], ◌∷◌, ◌++◌, eqb, ltb}
use Rattle.base.specs.FirstMet.{Test, ◌when◌, first_met}
use Rattle.base.specs.Sum.{sum_of}
use Rattle.tables.specs.Eligibility.{eligible}
use Rattle.deal.specs.Ranges.{amount_limit}
use Rattle.base.specs.Any.{any, any_two}
use Rattle.netting.specs.Positions.{amount_of, fields_of_each, is_lent}
use Rattle.netting.specs.Terms.{set_terms_tests}
use Rattle.netting.specs.declared.position.Position.{Position}
use Rattle.netting.specs.declared.terms.SetTerms.{SetTerms}

-- "up to 32 positions"
abbrev pub position_limit : ℕ
position_limit = 32

-- "type, step, life or currency"
abbrev pub same_goods : Position → Position → Bool
same_goods p q =
    eqb p.asset.goods q.asset.goods
    && eqb p.asset.step q.asset.step
    && eqb p.asset.life q.asset.life
    && eqb p.currency q.currency

-- "two entries for one nonzero security that disagree", whichever their sides
unfoldable pub disagree : Position → Position → Bool
disagree p q = eqb p.security q.security && not (eqb p.security 0) && not (same_goods p q)

-- "received goods not eligible as collateral", whatever their amount. "Unrated bank debt is not eligible here": it has no listing condition
unfoldable pub received_not_eligible : Position → Bool
received_not_eligible p = not (is_lent p) && not (eligible p.asset.goods p.asset.step 0)

-- "(After the fields: 15 ..; 16 ..; 17 ..)"
unfoldable pub tests_over_all : List Position → List (Test ℕ)
tests_over_all ps =
    15 when any_two ps disagree
    ∷ 16 when any ps received_not_eligible
    ∷ 17 when ltb amount_limit (sum_of amount_of ps)
    ∷ []

-- in their order, of a set that says it has so many positions
unfoldable pub set_tests : SetTerms → ℕ → List Position → List (Test ℕ)
set_tests t count ps = set_terms_tests t ++ (6 when ltb position_limit count ∷ (fields_of_each ps ++ tests_over_all ps))

-- the first that is met, or 0
unfoldable pub set_refusal : SetTerms → ℕ → List Position → ℕ
set_refusal t count ps = first_met (set_tests t count ps)
