-- Where the value went, computed: every place of a report by number. 02: L2. Assumes nothing.
use Prim.Native.Nat.{ℕ}
use mathlib.Core.Path.{◌≡◌, refl}
use mathlib.Core.List.{List, [], ◌∷◌, map}
use lib.ListN.{replicate, take}
use Rattle.deal.specs.Fields.{collateral_in, guarantee_sent, swap_sent, terms_in}
use Rattle.deal.specs.Records.{deal_with}
use Rattle.deal.specs.declared.terms.Terms.{Terms}
use Rattle.deal.specs.declared.collateral.Collateral.{Collateral}
use Rattle.deal.specs.declared.guarantee.Guarantee.{Guarantee}
use Rattle.deal.specs.declared.deal.Deal.{Deal}
use Rattle.relief.specs.ByNumber.{Place, place_of, place_with, collateral_by_number, guarantees_by_number}
use Rattle.relief.specs.Outcomes.{outcome_value}
use Rattle.relief.specs.Report.{report_of}
use Rattle.relief.proofs.Computed.{computed}

-- ground; value; losses by haircut, maturity and cut; the amount left out
abbrev numbers : Place → List ℕ
numbers p = let v = p.valuation in p.ground' ∷ v.value ∷ v.haircut_loss ∷ v.maturity_loss ∷ v.cut_loss ∷ p.left_out ∷ []

-- secured lending in cash to a party of this class and step, for 1,800 days
abbrev loan : ℕ → ℕ → Terms
loan class step = terms_in (10000 ∷ class ∷ step ∷ 0 ∷ 978 ∷ 3 ∷ 1 ∷ 1800 ∷ 1 ∷ 0 ∷ 0 ∷ 1 ∷ [])

-- 9,000 of goods: type, currency; residual and original term; lawful, unrelated, not in the rating
abbrev pledge : ℕ → ℕ → ℕ → ℕ → ℕ → ℕ → ℕ → Collateral
pledge goods currency residual original lawful unrelated rated =
    collateral_in (9000 ∷ goods ∷ 0 ∷ 0 ∷ currency ∷ residual ∷ original ∷ lawful ∷ unrelated ∷ rated ∷ 0 ∷ [])

-- collateral of every ground, then for half the term over three months, in another currency, and both: other listed equity at 250,000 scaled to
-- 353,554 and the currency to 113,138. Cash of nothing; above the deal's amount, left out and for half the term; and a place past the count
abbrev pledges : List Collateral
pledges =
    pledge 1 978 1800 1800 0 1 1
    ∷ pledge 1 978 1800 1800 1 0 1
    ∷ pledge 1 978 1800 1800 1 1 0
    ∷ collateral_in (9000 ∷ 6 ∷ 0 ∷ 400 ∷ 978 ∷ 1800 ∷ 1800 ∷ 1 ∷ 1 ∷ 1 ∷ 0 ∷ [])
    ∷ pledge 1 978 300 359 1 1 1
    ∷ pledge 1 978 90 360 1 1 1
    ∷ pledge 1 978 945 1800 1 1 1
    ∷ pledge 1 840 1800 1800 1 1 1
    ∷ pledge 8 840 945 1800 1 1 1
    ∷ collateral_in (0 ∷ 1 ∷ 0 ∷ 0 ∷ 840 ∷ 945 ∷ 1800 ∷ 1 ∷ 1 ∷ 1 ∷ 0 ∷ [])
    ∷ collateral_in (20001 ∷ 1 ∷ 0 ∷ 0 ∷ 978 ∷ 945 ∷ 1800 ∷ 0 ∷ 1 ∷ 1 ∷ 0 ∷ [])
    ∷ collateral_in (20001 ∷ 1 ∷ 0 ∷ 0 ∷ 978 ∷ 945 ∷ 1800 ∷ 1 ∷ 1 ∷ 1 ∷ 0 ∷ [])
    ∷ []

abbrev collateral_places : List (List ℕ)
collateral_places =
    (21 ∷ 0 ∷ 0 ∷ 0 ∷ 0 ∷ 9000 ∷ [])
    ∷ (22 ∷ 0 ∷ 0 ∷ 0 ∷ 0 ∷ 9000 ∷ [])
    ∷ (23 ∷ 0 ∷ 0 ∷ 0 ∷ 0 ∷ 9000 ∷ [])
    ∷ (24 ∷ 0 ∷ 0 ∷ 0 ∷ 0 ∷ 9000 ∷ [])
    ∷ (25 ∷ 0 ∷ 0 ∷ 0 ∷ 0 ∷ 9000 ∷ [])
    ∷ (26 ∷ 0 ∷ 0 ∷ 0 ∷ 0 ∷ 9000 ∷ [])
    ∷ (0 ∷ 4500 ∷ 0 ∷ 4500 ∷ 0 ∷ 0 ∷ [])
    ∷ (0 ∷ 7981 ∷ 1019 ∷ 0 ∷ 0 ∷ 0 ∷ [])
    ∷ (0 ∷ 2399 ∷ 4201 ∷ 2400 ∷ 0 ∷ 0 ∷ [])
    ∷ (0 ∷ 0 ∷ 0 ∷ 0 ∷ 0 ∷ 0 ∷ [])
    ∷ (21 ∷ 0 ∷ 0 ∷ 0 ∷ 0 ∷ 20001 ∷ [])
    ∷ (0 ∷ 10000 ∷ 0 ∷ 10001 ∷ 0 ∷ 0 ∷ [])
    ∷ (0 ∷ 0 ∷ 0 ∷ 0 ∷ 0 ∷ 0 ∷ [])
    ∷ []

pub collateral_places_lem :
    (map numbers (take 13 (collateral_by_number (deal_with (loan 3 0) pledges []))) ≡ collateral_places)
    × (map (λ r. numbers (place_of r.outcome)) (take 13 (report_of (deal_with (loan 3 0) pledges [])).collateral) ≡ collateral_places)
unfolding computed collateral_by_number place_with
collateral_places_lem = (refl, refl)

-- of a bank at step 1, which weighs 20: guarantees of 9,000, and swaps of 20,001 without the condition and with it
abbrev hedges : List Guarantee
hedges =
    guarantee_sent (9000 ∷ 2 ∷ 1 ∷ 0 ∷ 840 ∷ 945 ∷ 1800 ∷ 1 ∷ 1 ∷ 1 ∷ [])
    ∷ swap_sent (20001 ∷ 2 ∷ 1 ∷ 0 ∷ 978 ∷ 1800 ∷ 1800 ∷ 1 ∷ 1 ∷ 1 ∷ 0 ∷ [])
    ∷ swap_sent (20001 ∷ 2 ∷ 1 ∷ 0 ∷ 840 ∷ 945 ∷ 1800 ∷ 1 ∷ 1 ∷ 1 ∷ 0 ∷ [])
    ∷ swap_sent (20001 ∷ 2 ∷ 1 ∷ 0 ∷ 840 ∷ 945 ∷ 1800 ∷ 1 ∷ 1 ∷ 1 ∷ 1 ∷ [])
    ∷ swap_sent (20001 ∷ 2 ∷ 1 ∷ 0 ∷ 840 ∷ 945 ∷ 1800 ∷ 1 ∷ 0 ∷ 1 ∷ 0 ∷ [])
    ∷ swap_sent (20001 ∷ 3 ∷ 0 ∷ 0 ∷ 840 ∷ 945 ∷ 1800 ∷ 1 ∷ 1 ∷ 1 ∷ 0 ∷ [])
    ∷ swap_sent (20001 ∷ 2 ∷ 6 ∷ 0 ∷ 840 ∷ 945 ∷ 1800 ∷ 1 ∷ 1 ∷ 1 ∷ 0 ∷ [])
    ∷ []

abbrev guarantee_places : List (List ℕ)
guarantee_places =
    (0 ∷ 4140 ∷ 720 ∷ 4140 ∷ 0 ∷ 0 ∷ [])
    ∷ (0 ∷ 6000 ∷ 0 ∷ 0 ∷ 14001 ∷ 0 ∷ [])
    ∷ (0 ∷ 2760 ∷ 480 ∷ 2760 ∷ 14001 ∷ 0 ∷ [])
    ∷ (0 ∷ 9200 ∷ 1601 ∷ 9200 ∷ 0 ∷ 0 ∷ [])
    ∷ (27 ∷ 0 ∷ 0 ∷ 0 ∷ 0 ∷ 20001 ∷ [])
    ∷ (28 ∷ 0 ∷ 0 ∷ 0 ∷ 0 ∷ 20001 ∷ [])
    ∷ (29 ∷ 0 ∷ 0 ∷ 0 ∷ 0 ∷ 20001 ∷ [])
    ∷ (0 ∷ 0 ∷ 0 ∷ 0 ∷ 0 ∷ 0 ∷ [])
    ∷ []

pub guarantee_places_lem :
    (map numbers (take 8 (guarantees_by_number (deal_with (loan 3 0) [] hedges))) ≡ guarantee_places)
    × (map (λ r. numbers (place_of r.outcome)) (take 8 (report_of (deal_with (loan 3 0) [] hedges)).guarantees) ≡ guarantee_places)
unfolding computed guarantees_by_number place_with
guarantee_places_lem = (refl, refl)

-- beside a 40, of a class that is none: nothing in any place. And portions of a deal of 10,000, with 0 where a guarantee is left out and past the count
refused_places :
    (map numbers (collateral_by_number (deal_with (loan 9 0) pledges hedges)) ≡ replicate 16 (replicate 6 0))
    × ((map numbers (guarantees_by_number (deal_with (loan 9 0) pledges hedges)) ≡ replicate 16 (replicate 6 0))
    × ((map (λ r. r.portion) (report_of (deal_with (loan 9 0) pledges hedges)).guarantees ≡ replicate 16 0)
    × (map (λ r. r.portion) (report_of (deal_with (loan 3 0) [] hedges)).guarantees ≡ 4140 ∷ 5860 ∷ replicate 14 0)))
unfolding computed collateral_by_number guarantees_by_number place_with
refused_places = (refl, (refl, (refl, refl)))

-- sixteen of each, with amounts of their own: every place has its own
abbrev amounts : List ℕ
amounts = 1 ∷ 2 ∷ 3 ∷ 4 ∷ 5 ∷ 6 ∷ 7 ∷ 8 ∷ 9 ∷ 10 ∷ 11 ∷ 12 ∷ 13 ∷ 14 ∷ 15 ∷ 16 ∷ []

abbrev filled : Deal
filled =
    deal_with (loan 3 0) (map (λ a. collateral_in (a ∷ 1 ∷ 0 ∷ 0 ∷ 978 ∷ 1800 ∷ 1800 ∷ 1 ∷ 1 ∷ 1 ∷ 0 ∷ [])) amounts)
    (map (λ a. guarantee_sent (a ∷ 2 ∷ 1 ∷ 0 ∷ 978 ∷ 1800 ∷ 1800 ∷ 1 ∷ 1 ∷ 1 ∷ [])) amounts)

sixteen_places :
    (map (λ r. outcome_value r.outcome) (report_of filled).collateral ≡ amounts)
    × ((map (λ r. outcome_value r.outcome) (report_of filled).guarantees ≡ amounts)
    × (map (λ r. r.portion) (report_of filled).guarantees ≡ amounts))
unfolding computed
sixteen_places = (refl, (refl, refl))
