-- Reports at some edges, computed: the order of the grounds, and what a misreading would change. Assumes nothing.
use Prim.Native.Nat.{ℕ}
use mathlib.Core.Path.{◌≡◌, refl}
use mathlib.Core.List.{List, [], ◌∷◌, ◌++◌, map}
use lib.ListN.{get_or, replicate, take}
use Rattle.deal.specs.Fields.{collateral_in, guarantee_in, guarantee_sent, swap_sent, terms_in}
use Rattle.deal.specs.Instruments.{as_swap}
use Rattle.deal.specs.Records.{deal_with}
use Rattle.deal.specs.declared.terms.Terms.{Terms}
use Rattle.deal.specs.declared.collateral.Collateral.{Collateral}
use Rattle.deal.specs.declared.guarantee.Guarantee.{Guarantee}
use Rattle.relief.specs.Outcomes.{outcome_value, outcome_ground}
use Rattle.relief.specs.Report.{no_collateral, no_guarantee, report_of}
use Rattle.relief.proofs.Computed.{computed}

-- secured lending in cash to a corporate at this step, for 1,800 days
abbrev loan : ℕ → Terms
loan step = terms_in (10000 ∷ 3 ∷ step ∷ 0 ∷ 978 ∷ 3 ∷ 1 ∷ 1800 ∷ 1 ∷ 0 ∷ 0 ∷ 1 ∷ [])

-- goods, step, issue life; residual and original term; lawful, unrelated, not_in_rating
abbrev pledge : ℕ → ℕ → ℕ → ℕ → ℕ → ℕ → ℕ → ℕ → Collateral
pledge goods step life residual original lawful unrelated not_in_rating = record {
  amount = 9000;
  asset = record { goods = goods; step = step; life = life };
  currency = 978;
  residual = residual;
  original = original;
  lawful = lawful;
  unrelated = unrelated;
  not_in_rating = not_in_rating;
  listed = 0;
}

-- class of an unrated provider, currency; residual and original term; lawful, direct, not_in_rating
abbrev guarantee : ℕ → ℕ → ℕ → ℕ → ℕ → ℕ → ℕ → Guarantee
guarantee class currency residual original lawful direct not_in_rating = record {
  amount = 9000;
  provider = record { class = class; step = 0; sovereign_step = 0 };
  currency = currency;
  residual = residual;
  original = original;
  lawful = lawful;
  direct = direct;
  not_in_rating = not_in_rating;
  instrument = 0;
}

-- what is reported of the items
abbrev collateral_grounds : Terms → List Collateral → ℕ → List ℕ
collateral_grounds t cs n = map (λ r. outcome_ground r.outcome) (take n (report_of (deal_with t cs [])).collateral)

abbrev collateral_values : Terms → List Collateral → ℕ → List ℕ
collateral_values t cs n = map (λ r. outcome_value r.outcome) (take n (report_of (deal_with t cs [])).collateral)

abbrev guarantee_grounds : Terms → List Guarantee → ℕ → List ℕ
guarantee_grounds t gs n = map (λ r. outcome_ground r.outcome) (take n (report_of (deal_with t [] gs)).guarantees)

abbrev guarantee_values : Terms → List Guarantee → ℕ → List ℕ
guarantee_values t gs n = map (λ r. outcome_value r.outcome) (take n (report_of (deal_with t [] gs)).guarantees)

-- every ground applies to the first item, and one less to each after it; the last is recognised
abbrev pledges : List Collateral
pledges =
    pledge 6 0 400 90 359 0 0 0
    ∷ pledge 6 0 400 90 359 1 0 0
    ∷ pledge 6 0 400 90 359 1 1 0
    ∷ pledge 6 0 400 90 359 1 1 1
    ∷ pledge 1 0 0 90 359 1 1 1
    ∷ pledge 1 0 0 90 360 1 1 1
    ∷ pledge 1 0 0 91 360 1 1 1
    ∷ []

pub collateral_order : collateral_grounds (loan 0) pledges 7 ≡ 21 ∷ 22 ∷ 23 ∷ 24 ∷ 25 ∷ 26 ∷ 0 ∷ []
unfolding computed
collateral_order = refl

-- to a corporate at step 1, which weighs less than an unrated bank
abbrev guarantees : List Guarantee
guarantees =
    guarantee 3 978 90 359 0 0 0
    ∷ guarantee 3 978 90 359 1 0 0
    ∷ guarantee 3 978 90 359 1 1 0
    ∷ guarantee 3 978 90 359 1 1 1
    ∷ guarantee 2 978 90 359 1 1 1
    ∷ guarantee 2 978 90 360 1 1 1
    ∷ guarantee 2 978 91 360 1 1 1
    ∷ []

pub guarantee_order : guarantee_grounds (loan 1) guarantees 7 ≡ 21 ∷ 27 ∷ 23 ∷ 28 ∷ 25 ∷ 26 ∷ 29 ∷ []
unfolding computed
guarantee_order = refl

-- the term of the pledge counts, and not the bond's life
pub bond_value : collateral_values (loan 0) (pledge 2 1 1801 900 900 1 1 1 ∷ []) 1 ≡ 4021 ∷ []
unfolding computed
bond_value = refl

-- the currency haircut of a guarantee has a period of its own: 80000, and not 113138 as for collateral
pub guarantee_value : guarantee_values (loan 0) (guarantee 2 840 1800 1800 1 1 1 ∷ []) 1 ≡ 8280 ∷ []
unfolding computed
guarantee_value = refl

-- E* is never above the amount: 100 of other listed equity lent, volatility-adjusted to 125, less 10 of cash
abbrev ten : Collateral
ten = record {
  amount = 10;
  asset = record { goods = 1; step = 0; life = 0 };
  currency = 978;
  residual = 1800;
  original = 1800;
  lawful = 1;
  unrelated = 1;
  not_in_rating = 1;
  listed = 0;
}

pub capped : (report_of (deal_with (terms_in (100 ∷ 3 ∷ 0 ∷ 0 ∷ 978 ∷ 1 ∷ 6 ∷ 1800 ∷ 8 ∷ 0 ∷ 0 ∷ 1 ∷ [])) (ten ∷ []) [])).exposure ≡ 100
unfolding computed
capped = refl

-- 29 at an equal weight: a bank at step 2 for a corporate at step 2
pub equal_weight : guarantee_grounds (loan 2) (record {
  amount = 9000;
  provider = record { class = 2; step = 2; sovereign_step = 0 };
  currency = 978;
  residual = 1800;
  original = 1800;
  lawful = 1;
  direct = 1;
  not_in_rating = 1;
  instrument = 0;
} ∷ []) 1 ≡ 29 ∷ []
unfolding computed
equal_weight = refl

-- unrated bank debt is eligible by its listing alone
pub by_listing : collateral_grounds (loan 0) (pledge 4 0 360 1800 1800 1 1 1 ∷ record {
  amount = 9000;
  asset = record { goods = 4; step = 0; life = 360 };
  currency = 978;
  residual = 1800;
  original = 1800;
  lawful = 1;
  unrelated = 1;
  not_in_rating = 1;
  listed = 1;
} ∷ []) 2 ≡ 24 ∷ 0 ∷ []
unfolding computed
by_listing = refl

-- of goods lent their own life counts, and not the deal's term: 1,000,000 of sovereign debt with 360 days to run, raised by 5000 millionths,
-- less 9,000 of cash
pub lent_life : (report_of (deal_with (terms_in (1000000 ∷ 3 ∷ 0 ∷ 0 ∷ 978 ∷ 2 ∷ 1 ∷ 1800 ∷ 2 ∷ 1 ∷ 360 ∷ 1 ∷ [])) (pledge 1 0 0 1800 1800 1 1 1 ∷ []) [])).exposure ≡ 996000
unfolding computed
lent_life = refl

-- short cover that lasts as long as its deal is no mismatch: neither 25 nor 26
pub no_mismatch : (collateral_grounds (terms_in (10000 ∷ 3 ∷ 0 ∷ 0 ∷ 978 ∷ 3 ∷ 1 ∷ 30 ∷ 1 ∷ 0 ∷ 0 ∷ 1 ∷ [])) (pledge 1 0 0 30 30 1 1 1 ∷ []) 1 ≡ 0 ∷ [])
    × (guarantee_grounds (terms_in (10000 ∷ 3 ∷ 0 ∷ 0 ∷ 978 ∷ 3 ∷ 1 ∷ 30 ∷ 1 ∷ 0 ∷ 0 ∷ 1 ∷ [])) (guarantee 2 978 30 30 1 1 1 ∷ []) 1 ≡ 0 ∷ [])
unfolding computed
no_mismatch = (refl, refl)

-- 28 is of other entities: a sovereign and a bank that are unrated are recognised, for a corporate at step 6
pub unrated_others : guarantee_grounds (loan 6) (guarantee 1 978 1800 1800 1 1 1 ∷ guarantee 2 978 1800 1800 1 1 1 ∷ guarantee 3 978 1800 1800 1 1 1 ∷ []) 3 ≡ 0 ∷ 0 ∷ 28 ∷ []
unfolding computed
unrated_others = refl

-- THE SOVEREIGN FLOOR. 02: L5

-- a counterparty of this class, unrated, under an edition and a sovereign's step: the weighted amount of 10,000 without protection
abbrev unrated : ℕ → ℕ → ℕ → Terms
unrated class edition sovereign = terms_in (10000 ∷ class ∷ 0 ∷ sovereign ∷ 978 ∷ 3 ∷ 1 ∷ 1800 ∷ 1 ∷ 0 ∷ 0 ∷ edition ∷ [])

abbrev amounts : ℕ → ℕ → List ℕ
amounts class edition = map (λ s. (report_of (deal_with (unrated class edition s) [] [])).rwa) (0 ∷ 1 ∷ 2 ∷ 3 ∷ 4 ∷ 5 ∷ 6 ∷ [])

-- a bank's 50 and a corporate's 100, and the larger of each and its sovereign's
pub counterparty_floor :
    (amounts 2 1 ≡ replicate 7 5000)
    × ((amounts 2 2 ≡ 10000 ∷ 5000 ∷ 5000 ∷ 5000 ∷ 10000 ∷ 10000 ∷ 15000 ∷ [])
    × ((amounts 3 1 ≡ replicate 7 10000) × (amounts 3 2 ≡ 10000 ∷ 10000 ∷ 10000 ∷ 10000 ∷ 10000 ∷ 10000 ∷ 15000 ∷ [])))
unfolding computed
counterparty_floor = (refl, (refl, (refl, refl)))

-- guarantees of 9,000 by an unrated bank, for an unrated corporate under a sovereign of step 6: its own 150 under the second edition, 100
-- under the first. Recognised while the bank weighs less: under the first edition at 50, under the second by its sovereign's step
abbrev backed_by : ℕ → ℕ → ℕ → Guarantee
backed_by class step sovereign = guarantee_in (9000 ∷ class ∷ step ∷ sovereign ∷ 978 ∷ 1800 ∷ 1800 ∷ 1 ∷ 1 ∷ 1 ∷ [])

abbrev outcomes : ℕ → ℕ → ℕ → List (List ℕ)
outcomes edition class step =
    map (λ s. let r = report_of (deal_with (unrated 3 edition 6) [] (backed_by class step s ∷ [])) in outcome_ground (get_or r.guarantees 0 no_guarantee).outcome ∷ r.rwa ∷ [])
    (0 ∷ 1 ∷ 4 ∷ 6 ∷ [])

pub provider_floor :
    (outcomes 1 2 0 ≡ replicate 4 (0 ∷ 5500 ∷ []))
    × ((outcomes 2 2 0 ≡ (0 ∷ 10500 ∷ []) ∷ (0 ∷ 6000 ∷ []) ∷ (0 ∷ 10500 ∷ []) ∷ (29 ∷ 15000 ∷ []) ∷ [])
    -- rated, it has no floor; an unrated other entity has ground 28
    × ((outcomes 2 2 1 ≡ replicate 4 (0 ∷ 3300 ∷ [])) × (outcomes 2 3 0 ≡ replicate 4 (28 ∷ 15000 ∷ []))))
unfolding computed
provider_floor = (refl, (refl, (refl, refl)))

-- THE TABLES BY EDITION. 02: L9

-- 1,000,000 lent in goods of a type, step and life, of kind 2 revalued daily, against 500,000 in cash: the exposure under each edition
abbrev lent_out : ℕ → ℕ → ℕ → List ℕ
lent_out goods step life =
    map (λ edition. (report_of (deal_with (terms_in (1000000 ∷ 3 ∷ 0 ∷ 0 ∷ 978 ∷ 2 ∷ 1 ∷ 1800 ∷ goods ∷ step ∷ life ∷ edition ∷ []))
    (collateral_in (500000 ∷ 1 ∷ 0 ∷ 0 ∷ 978 ∷ 1800 ∷ 1800 ∷ 1 ∷ 1 ∷ 1 ∷ 0 ∷ []) ∷ []) [])).exposure) (1 ∷ 2 ∷ 3 ∷ [])

lent_by_edition :
    lent_out 3 1 1080 ∷ lent_out 3 1 3600 ∷ lent_out 4 2 1080 ∷ lent_out 4 3 3601 ∷ lent_out 2 1 1080 ∷ lent_out 7 0 0 ∷ lent_out 8 0 0 ∷ lent_out 6 1 360 ∷ lent_out 1 0 0 ∷ []
    ≡ (540000 ∷ 540000 ∷ 530000 ∷ [])
    ∷ (580000 ∷ 580000 ∷ 560000 ∷ [])
    ∷ (560000 ∷ 560000 ∷ 540000 ∷ [])
    ∷ (620000 ∷ 620000 ∷ 700000 ∷ [])
    ∷ (520000 ∷ 520000 ∷ 520000 ∷ [])
    ∷ (650000 ∷ 650000 ∷ 700000 ∷ [])
    ∷ (750000 ∷ 750000 ∷ 800000 ∷ [])
    ∷ (750000 ∷ 750000 ∷ 800000 ∷ [])
    ∷ (500000 ∷ 500000 ∷ 500000 ∷ [])
    ∷ []
unfolding computed
lent_by_edition = refl

-- 10,000 pledged, listed where it is bank paper: its value
abbrev pledged_in : ℕ → ℕ → ℕ → List ℕ
pledged_in goods step life =
    map (λ edition. outcome_value (get_or (report_of (deal_with (terms_in (1000000 ∷ 3 ∷ 0 ∷ 0 ∷ 978 ∷ 2 ∷ 1 ∷ 1800 ∷ 1 ∷ 0 ∷ 0 ∷ edition ∷ []))
    (collateral_in (10000 ∷ goods ∷ step ∷ life ∷ 978 ∷ 1800 ∷ 1800 ∷ 1 ∷ 1 ∷ 1 ∷ 1 ∷ []) ∷ []) [])).collateral 0 no_collateral).outcome) (1 ∷ 2 ∷ 3 ∷ [])

pledged_by_edition :
    pledged_in 3 1 1080 ∷ pledged_in 4 0 3600 ∷ pledged_in 4 2 3601 ∷ pledged_in 5 1 1080 ∷ pledged_in 7 0 0 ∷ pledged_in 8 0 0 ∷ pledged_in 9 0 0 ∷ []
    ≡ (9600 ∷ 9600 ∷ 9700 ∷ [])
    ∷ (8800 ∷ 8800 ∷ 8800 ∷ [])
    ∷ (8800 ∷ 8800 ∷ 8000 ∷ [])
    ∷ (9200 ∷ 9200 ∷ 9200 ∷ [])
    ∷ (8500 ∷ 8500 ∷ 8000 ∷ [])
    ∷ (7500 ∷ 7500 ∷ 7000 ∷ [])
    ∷ (8500 ∷ 8500 ∷ 8000 ∷ [])
    ∷ []
unfolding computed
pledged_by_edition = refl

-- SWAPS. 02: L1

-- to a corporate that weighs 100, of this amount; a swap of a sovereign that weighs 0
abbrev hedged : ℕ → Terms
hedged amount = terms_in (amount ∷ 3 ∷ 0 ∷ 0 ∷ 978 ∷ 3 ∷ 1 ∷ 1800 ∷ 1 ∷ 0 ∷ 0 ∷ 1 ∷ [])

abbrev swap_of : ℕ → ℕ → ℕ → ℕ → Guarantee
swap_of amount currency residual restructuring = swap_sent (amount ∷ 1 ∷ 1 ∷ 0 ∷ currency ∷ residual ∷ 1800 ∷ 1 ∷ 1 ∷ 1 ∷ restructuring ∷ [])

-- its value: below the deal's amount, at it and above it, rounded down before anything else; with the condition met, whole
swap_values :
    guarantee_values (hedged 1001) (map (λ a. swap_of a 978 1800 0) (0 ∷ 1 ∷ 2 ∷ 3 ∷ 999 ∷ 1000 ∷ 1001 ∷ 1002 ∷ 1000000000000 ∷ [])) 9
    ∷ guarantee_values (hedged 1001) (map (λ a. swap_of a 978 1800 1) (0 ∷ 1 ∷ 2 ∷ 3 ∷ 999 ∷ 1000 ∷ 1001 ∷ 1002 ∷ 1000000000000 ∷ [])) 9
    ∷ guarantee_values (hedged 1000000000000) (swap_of 1000000000000 978 1800 0 ∷ []) 1
    ∷ []
    ≡ (0 ∷ 0 ∷ 1 ∷ 1 ∷ 599 ∷ 600 ∷ 600 ∷ 600 ∷ 600 ∷ [])
    ∷ (0 ∷ 1 ∷ 2 ∷ 3 ∷ 999 ∷ 1000 ∷ 1001 ∷ 1002 ∷ 1000000000000 ∷ [])
    ∷ (600000000000 ∷ [])
    ∷ []
unfolding computed
swap_values = refl

-- cut, then the currency, then the mismatch: 128, 76, 69, and 25, 15, 7; 20, 12, 11, 5 in all three. The other ways round 70, 6 and 4
swap_order :
    guarantee_values (hedged 1000) (swap_of 128 840 1800 0 ∷ swap_of 25 978 900 0 ∷ swap_of 20 840 900 0 ∷ swap_of 128 840 1800 1 ∷ []) 4
    ≡ 69 ∷ 7 ∷ 5 ∷ 117 ∷ []
unfolding computed
swap_order = refl

-- the deal's amount counts, and neither E* nor the raised exposure: 1,000 with 500 in cash; 1,000 of equity lent, raised to 1,250 and more
swap_of_the_deal :
    ((report_of (deal_with (hedged 1000) (collateral_in (500 ∷ 1 ∷ 0 ∷ 0 ∷ 978 ∷ 1800 ∷ 1800 ∷ 1 ∷ 1 ∷ 1 ∷ 0 ∷ []) ∷ []) (swap_of 2000 978 1800 0 ∷ []))).rwa ≡ 0)
    × (guarantee_values (terms_in (1000 ∷ 3 ∷ 0 ∷ 0 ∷ 978 ∷ 1 ∷ 6 ∷ 1800 ∷ 8 ∷ 0 ∷ 0 ∷ 1 ∷ [])) (swap_of 2000 978 1800 0 ∷ []) 1 ≡ 600 ∷ [])
unfolding computed
swap_of_the_deal = (refl, refl)

-- every ground in the order of a guarantee's, whatever the condition
swap_grounds :
    map (λ r. guarantee_grounds (loan 1) (map (as_swap r) guarantees) 7) (0 ∷ 1 ∷ [])
    ≡ replicate 2 (21 ∷ 27 ∷ 23 ∷ 28 ∷ 25 ∷ 26 ∷ 29 ∷ [])
unfolding computed
swap_grounds = refl

-- one order of weight over both, equal weights by arrival: banks at 20, then a swap at 0, a guarantee at 0, and a swap at 20
abbrev shared : List Guarantee
shared =
    guarantee_sent (400 ∷ 2 ∷ 1 ∷ 0 ∷ 978 ∷ 1800 ∷ 1800 ∷ 1 ∷ 1 ∷ 1 ∷ [])
    ∷ swap_of 500 978 1800 0
    ∷ guarantee_sent (200 ∷ 1 ∷ 1 ∷ 0 ∷ 978 ∷ 1800 ∷ 1800 ∷ 1 ∷ 1 ∷ 1 ∷ [])
    ∷ swap_sent (300 ∷ 2 ∷ 1 ∷ 0 ∷ 978 ∷ 1800 ∷ 1800 ∷ 1 ∷ 1 ∷ 1 ∷ 1 ∷ [])
    ∷ []

swap_cover :
    (let r = report_of (deal_with (hedged 1000) [] shared) in map (λ g. g.portion) (take 4 r.guarantees) ++ (r.uncovered ∷ r.rwa ∷ []))
    ≡ 400 ∷ 300 ∷ 200 ∷ 100 ∷ 0 ∷ 100 ∷ []
unfolding computed
swap_cover = refl

-- at equal weights the one that arrives first, a swap as well as a guarantee: 400 each at 20 over 500
abbrev tied : List Guarantee
tied =
    swap_sent (400 ∷ 2 ∷ 1 ∷ 0 ∷ 978 ∷ 1800 ∷ 1800 ∷ 1 ∷ 1 ∷ 1 ∷ 1 ∷ [])
    ∷ guarantee_sent (400 ∷ 2 ∷ 1 ∷ 0 ∷ 978 ∷ 1800 ∷ 1800 ∷ 1 ∷ 1 ∷ 1 ∷ [])
    ∷ swap_sent (400 ∷ 2 ∷ 1 ∷ 0 ∷ 978 ∷ 1800 ∷ 1800 ∷ 1 ∷ 1 ∷ 1 ∷ 0 ∷ [])
    ∷ []

swap_ties : map (λ g. g.portion) (take 3 (report_of (deal_with (hedged 500) [] tied)).guarantees) ≡ 400 ∷ 100 ∷ 0 ∷ []
unfolding computed
swap_ties = refl

-- what is cut covers at its provider's own weight: 300 of a bank at 20, and of an other entity at 20; 5,400 of an unrated bank at 100, under a sovereign of step 4 and the second
-- edition, for a corporate that weighs 150. And in deals of every kind, sixteen of them: 60 each
swap_weights :
    (map (λ class. (report_of (deal_with (hedged 1000) [] (swap_sent (500 ∷ class ∷ 1 ∷ 0 ∷ 978 ∷ 1800 ∷ 1800 ∷ 1 ∷ 1 ∷ 1 ∷ 0 ∷ []) ∷ []))).rwa) (1 ∷ 2 ∷ 3 ∷ []) ≡ 700 ∷ 760 ∷ 760 ∷ [])
    × (((report_of (deal_with (unrated 3 2 6) [] (swap_sent (9000 ∷ 2 ∷ 0 ∷ 4 ∷ 978 ∷ 1800 ∷ 1800 ∷ 1 ∷ 1 ∷ 1 ∷ 0 ∷ []) ∷ []))).rwa ≡ 12300)
    × (map (λ kind. (report_of (deal_with (terms_in (1000 ∷ 3 ∷ 0 ∷ 0 ∷ 978 ∷ kind ∷ 1 ∷ 1800 ∷ 1 ∷ 0 ∷ 0 ∷ 1 ∷ [])) [] (replicate 16 (swap_of 100 978 1800 0)))).rwa) (1 ∷ 2 ∷ 3 ∷ []) ≡ replicate 3 40))
unfolding computed
swap_weights = (refl, (refl, refl))
