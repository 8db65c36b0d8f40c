-- The starred figures of document 01, "Figures at the edges": of scaling by its written meaning, of tables and of the raised exposure as they
-- stand, of items and amounts through the report of a whole deal; all under the first edition, the last number of terms here.
use Rattle.std.specs.Prelude.{ℕ, ◌<◌, ◌≡◌, List, [], ◌∷◌, get_or}
use Rattle.tables.specs.Goods.{cash, other_debt, other_listed_equity}
use Rattle.tables.specs.Classes.{retail}
use Rattle.tables.specs.Table.{table_of}
use Rattle.tables.specs.Kinds.{repo_style, secured_lending}
use Rattle.scaling.specs.Period.{holding_period}
use Rattle.scaling.specs.Scaling.{IsScaled}
use Rattle.deal.specs.Instruments.{guarantee_instrument}
use Rattle.deal.specs.Fields.{terms_in}
use Rattle.deal.specs.Answers.{answer_number}
use Rattle.deal.specs.Records.{deal_with}
use Rattle.deal.specs.Editions.{table_for}
use Rattle.deal.specs.declared.terms.Terms.{Terms}
use Rattle.deal.specs.declared.collateral.Collateral.{Collateral}
use Rattle.deal.specs.declared.guarantee.Guarantee.{Guarantee}
use Rattle.deal.specs.declared.deal.Deal.{Deal}
use Rattle.relief.specs.Outcomes.{outcome_value, outcome_ground}
use Rattle.relief.specs.Exposure.{adjusted_exposure_of}
use Rattle.relief.specs.Report.{no_collateral, no_guarantee, report_of}

-- a figure: what the definitions give, and what the paper says of it; of scaling: H, n, and what the paper says of h
pub data Figure : Type 0 where
  is : ℕ → ℕ → Figure
  scales : ℕ → ℕ → ℕ → Figure
  scales_above : ℕ → ℕ → ℕ → Figure

abbrev pub Right : Figure → Type 0
Right (is given said) = given ≡ said
Right (scales H n said) = IsScaled H n said
Right (scales_above H n said) = (h : ℕ) → IsScaled H n h → said < h

-- the claim: every figure of a list is right
abbrev pub AllRight : List Figure → Type 0
AllRight [] = Unit {0}
AllRight (f ∷ fs) = Right f × AllRight fs

-- two currencies, the deal's and another
abbrev home : ℕ
home = 978

abbrev abroad : ℕ
abroad = 840

-- secured lending in cash to an unrated corporate, which weighs 100, for 1,800 days
abbrev loan : ℕ → ℕ → Terms
loan amount interval = terms_in (amount ∷ 3 ∷ 0 ∷ 0 ∷ home ∷ secured_lending ∷ interval ∷ 1800 ∷ cash ∷ 0 ∷ 0 ∷ 1 ∷ [])

-- repo-style lending of other listed equity, revalued every six business days
abbrev repo : Terms
repo = terms_in (100 ∷ 3 ∷ 0 ∷ 0 ∷ home ∷ repo_style ∷ 6 ∷ 1800 ∷ other_listed_equity ∷ 0 ∷ 0 ∷ 1 ∷ [])

-- goods with no step and no issue life, every condition met
abbrev pledge : ℕ → ℕ → ℕ → ℕ → ℕ → Collateral
pledge amount goods currency residual original = record {
  amount = amount;
  asset = record { goods = goods; step = 0; life = 0 };
  currency = currency;
  residual = residual;
  original = original;
  lawful = 1;
  unrelated = 1;
  not_in_rating = 1;
  listed = 0;
}

-- for 1,800 days, every condition met
abbrev guarantee : ℕ → ℕ → ℕ → ℕ → Guarantee
guarantee amount class step currency = record {
  amount = amount;
  provider = record { class = class; step = step; sovereign_step = 0 };
  currency = currency;
  residual = 1800;
  original = 1800;
  lawful = 1;
  direct = 1;
  not_in_rating = 1;
  instrument = guarantee_instrument;
}

-- what is reported of the only item of collateral of a loan of 2,000,000: its value, and its ground or 0
abbrev value : ℕ → Collateral → ℕ
value interval c = outcome_value (get_or (report_of (deal_with (loan 2000000 interval) (c ∷ []) [])).collateral 0 no_collateral).outcome

abbrev ground : ℕ → Collateral → ℕ
ground interval c = outcome_ground (get_or (report_of (deal_with (loan 2000000 interval) (c ∷ []) [])).collateral 0 no_collateral).outcome

-- and reporting's refusal or 0
abbrev answer : ℕ → Collateral → ℕ
answer interval c = answer_number (report_of (deal_with (loan 2000000 interval) (c ∷ []) [])).answer

-- of an only guarantee
abbrev guaranteed : ℕ → Guarantee → ℕ
guaranteed interval g = outcome_value (get_or (report_of (deal_with (loan 2000000 interval) [] (g ∷ []))).guarantees 0 no_guarantee).outcome

-- the exposure after an amount of cash, under the repo
abbrev left : ℕ → ℕ
left amount = (report_of (deal_with repo (pledge amount cash home 1800 1800 ∷ []) [])).exposure

-- an exposure of 100, with a bank at step 1, which weighs 20, before a sovereign at step 1, which weighs 0
abbrev covered : Deal
covered = deal_with (loan 100 1) [] (guarantee 80 2 1 home ∷ guarantee 60 1 1 home ∷ [])

abbrev portion : ℕ → ℕ
portion place = (get_or (report_of covered).guarantees place no_guarantee).portion

-- a retail deal with nothing pledged
abbrev retail_deal : ℕ → Terms
retail_deal amount = terms_in (amount ∷ retail ∷ 0 ∷ 0 ∷ home ∷ secured_lending ∷ 1 ∷ 1800 ∷ cash ∷ 0 ∷ 0 ∷ 1 ∷ [])

abbrev retail_amount : ℕ → ℕ
retail_amount amount = (report_of (deal_with (retail_deal amount) [] [])).rwa

abbrev pub starred : List Figure
starred =
    -- "H 80000: n 5 gives 56569, n 10 gives 80000, n 20 gives 113138"
    scales 80000 5 56569
    ∷ scales 80000 10 80000
    ∷ scales 80000 20 113138
    -- "H 10000, n 40: 20000 exactly"
    ∷ scales 10000 40 20000
    -- "Type 8, kind 3, interval 250: scaled haircut above 1,000,000, value 0"
    ∷ scales_above ((table_of 1).haircut other_listed_equity 0 0) (holding_period secured_lending 250) 1000000
    ∷ is (value 250 (pledge 1000000 other_listed_equity home 1800 1800)) 0
    ∷ is (ground 250 (pledge 1000000 other_listed_equity home 1800 1800)) 0
    -- (of a deal that is accepted)
    ∷ is (answer 250 (pledge 1000000 other_listed_equity home 1800 1800)) 0
    -- "Type 3, step 3, life 360: 20000; 361: 60000"
    ∷ is ((table_of 1).haircut other_debt 3 360) 20000
    ∷ is ((table_of 1).haircut other_debt 3 361) 60000
    -- "Same-currency cash 1,000,000, original 1,080, deal term 1,800: term 900 gives 473684; 91 gives 584; 90 gives ground 26"
    ∷ is (value 1 (pledge 1000000 cash home 900 1080)) 473684
    ∷ is (value 1 (pledge 1000000 cash home 91 1080)) 584
    ∷ is (ground 1 (pledge 1000000 cash home 90 1080)) 26
    -- "Cash 1,000,000 in another currency, kind 3, interval 1: 886862"
    ∷ is (value 1 (pledge 1000000 cash abroad 1800 1800)) 886862
    -- "Guarantee 200,000 in another currency, interval 1, no mismatch: 184000"
    ∷ is (guaranteed 1 (guarantee 200000 1 1 abroad)) 184000
    -- "Repo lending type 8, amount 100, interval 6: raised to 125; same_currency cash 10, unmismatched, leaves E* 100 (not 115); cash 125
    -- leaves 0"
    ∷ is (adjusted_exposure_of (table_for repo) repo) 125
    ∷ is (left 10) 100
    ∷ is (left 125) 0
    ∷ is (answer_number (report_of (deal_with repo (pledge 125 cash home 1800 1800 ∷ []) [])).answer) 0
    -- "E* 100; guarantee of 80 at weight 20 added before one of 60 at 0: portions 40 and 60, weighted amount 8"
    ∷ is (report_of covered).exposure 100
    ∷ is (portion 0) 40
    ∷ is (portion 1) 60
    ∷ is (report_of covered).rwa 8
    -- "Retail, amount 1: weighted amount 1. Amount 0: 0"
    ∷ is (retail_amount 1) 1
    ∷ is (retail_amount 0) 0
    ∷ is (answer_number (report_of (deal_with (retail_deal 0) [] [])).answer) 0
    ∷ []
