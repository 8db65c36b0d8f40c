-- The definitions at the paper's own lines and at some edges, computed. Assumes nothing.
use Prim.Native.Nat.{ℕ}
use mathlib.Core.Path.{◌≡◌, refl}
use mathlib.Core.Bool.{Bool, true, false, not}
use mathlib.Core.List.{List, [], ◌∷◌, ◌++◌, map}
use lib.ListN.{replicate}
use Rattle.base.specs.FirstMet.{first_or}
use Rattle.base.specs.Range.{within}
use Rattle.deal.specs.Parties.{party_step_allowed, party_steps_allowed, sovereign_step_allowed}
use Rattle.deal.specs.Assets.{asset_step_allowed, life_allowed}
use Rattle.deal.specs.Fields.{terms_in, collateral_in, guarantee_in, zero_collateral, zero_guarantee, zero_terms}
use Rattle.deal.specs.Terms.{terms_tests, terms_refusal}
use Rattle.deal.specs.Collateral.{collateral_tests, collateral_list_tests, collateral_refusal, collateral_list_allowed}
use Rattle.deal.specs.Guarantees.{guarantee_tests, guarantee_refusal, guarantee_list_allowed, guarantee_list_tests}
use Rattle.deal.specs.Opening.{opened_deal}
use Rattle.deal.specs.Records.{deal_with, record_allowed, without_protection}
use Rattle.deal.specs.Adding.{add_collateral_tests, add_collateral_refusal, add_guarantee_tests, add_guarantee_refusal, with_collateral, with_guarantee}
use Rattle.deal.specs.declared.collateral.Collateral.{Collateral}
use Rattle.deal.specs.declared.guarantee.Guarantee.{Guarantee}
use Rattle.deal.specs.declared.deal.Deal.{Deal}

-- each number is the field that the paper names in its place
fields_in_place :
    (terms_in (0 ∷ 1 ∷ 2 ∷ 3 ∷ 4 ∷ 5 ∷ 6 ∷ 7 ∷ 8 ∷ 9 ∷ 10 ∷ 11 ∷ []) ≡ record {
      amount = 0;
      counterparty = record { class = 1; step = 2; sovereign_step = 3 };
      currency = 4;
      kind = 5;
      interval = 6;
      residual = 7;
      lent = record { goods = 8; step = 9; life = 10 };
      edition = 11;
    })
    × ((collateral_in (0 ∷ 1 ∷ 2 ∷ 3 ∷ 4 ∷ 5 ∷ 6 ∷ 7 ∷ 8 ∷ 9 ∷ 10 ∷ []) ≡ record {
      amount = 0;
      asset = record { goods = 1; step = 2; life = 3 };
      currency = 4;
      residual = 5;
      original = 6;
      lawful = 7;
      unrelated = 8;
      not_in_rating = 9;
      listed = 10;
    })
    × (guarantee_in (0 ∷ 1 ∷ 2 ∷ 3 ∷ 4 ∷ 5 ∷ 6 ∷ 7 ∷ 8 ∷ 9 ∷ 10 ∷ []) ≡ record {
      amount = 0;
      provider = record { class = 1; step = 2; sovereign_step = 3 };
      currency = 4;
      residual = 5;
      original = 6;
      lawful = 7;
      direct = 8;
      not_in_rating = 9;
      instrument = 10;
    }))
fields_in_place = (refl, (refl, refl))

abbrev opened : List ℕ
opened =
    -- the three deals of 01, The book; the second "500 2 7 .." is answered by 3
    terms_refusal (terms_in (1000000 ∷ 3 ∷ 0 ∷ 0 ∷ 978 ∷ 3 ∷ 1 ∷ 1800 ∷ 1 ∷ 0 ∷ 0 ∷ 1 ∷ []))
    ∷ terms_refusal (terms_in (500 ∷ 2 ∷ 7 ∷ 0 ∷ 840 ∷ 1 ∷ 1 ∷ 30 ∷ 1 ∷ 0 ∷ 0 ∷ 1 ∷ []))
    ∷ terms_refusal (terms_in (900 ∷ 4 ∷ 0 ∷ 0 ∷ 978 ∷ 3 ∷ 1 ∷ 90 ∷ 1 ∷ 0 ∷ 0 ∷ 1 ∷ []))
    -- the limit of an amount, and one above it
    ∷ terms_refusal (terms_in (1000000000000 ∷ 3 ∷ 0 ∷ 0 ∷ 978 ∷ 3 ∷ 1 ∷ 1800 ∷ 1 ∷ 0 ∷ 0 ∷ 1 ∷ []))
    ∷ terms_refusal (terms_in (1000000000001 ∷ 3 ∷ 0 ∷ 0 ∷ 978 ∷ 3 ∷ 1 ∷ 1800 ∷ 1 ∷ 0 ∷ 0 ∷ 1 ∷ []))
    -- each refusal before those behind it
    ∷ terms_refusal (terms_in (1000000000001 ∷ 5 ∷ 7 ∷ 0 ∷ 0 ∷ 3 ∷ 0 ∷ 0 ∷ 1 ∷ 0 ∷ 1 ∷ 1 ∷ []))
    ∷ terms_refusal (terms_in (500 ∷ 5 ∷ 7 ∷ 0 ∷ 0 ∷ 3 ∷ 0 ∷ 0 ∷ 1 ∷ 0 ∷ 1 ∷ 1 ∷ []))
    ∷ terms_refusal (terms_in (500 ∷ 3 ∷ 7 ∷ 0 ∷ 0 ∷ 3 ∷ 0 ∷ 0 ∷ 1 ∷ 0 ∷ 1 ∷ 1 ∷ []))
    ∷ terms_refusal (terms_in (500 ∷ 3 ∷ 6 ∷ 0 ∷ 0 ∷ 3 ∷ 0 ∷ 0 ∷ 1 ∷ 0 ∷ 1 ∷ 1 ∷ []))
    ∷ terms_refusal (terms_in (500 ∷ 3 ∷ 6 ∷ 0 ∷ 999 ∷ 3 ∷ 0 ∷ 0 ∷ 1 ∷ 0 ∷ 1 ∷ 1 ∷ []))
    -- retail and cash have step 0
    ∷ terms_refusal (terms_in (900 ∷ 4 ∷ 1 ∷ 0 ∷ 978 ∷ 3 ∷ 1 ∷ 90 ∷ 1 ∷ 0 ∷ 0 ∷ 1 ∷ []))
    ∷ terms_refusal (terms_in (900 ∷ 4 ∷ 0 ∷ 0 ∷ 978 ∷ 3 ∷ 1 ∷ 90 ∷ 1 ∷ 1 ∷ 0 ∷ 1 ∷ []))
    ∷ []

opened_edges : opened ≡ 0 ∷ 3 ∷ 0 ∷ 0 ∷ 1 ∷ 1 ∷ 2 ∷ 3 ∷ 4 ∷ 5 ∷ 3 ∷ 3 ∷ []
unfolding terms_refusal terms_tests first_or within party_step_allowed sovereign_step_allowed party_steps_allowed asset_step_allowed life_allowed
opened_edges = refl

-- the record of zeros that stands beside a refusal: 0 is no class
pub zero_refused : terms_refusal (zero_terms) ≡ 2
unfolding terms_refusal terms_tests first_or within party_step_allowed sovereign_step_allowed party_steps_allowed asset_step_allowed life_allowed
zero_refused = refl

-- sovereign debt in the deal's currency
abbrev pledge : ℕ → ℕ → ℕ → ℕ → ℕ → Collateral
pledge amount step residual original listed = record {
  amount = amount;
  asset = record { goods = 2; step = step; life = 720 };
  currency = 978;
  residual = residual;
  original = original;
  lawful = 1;
  unrelated = 1;
  not_in_rating = 1;
  listed = listed;
}

abbrev given : ℕ → ℕ → ℕ → ℕ → ℕ → Guarantee
given amount class residual original direct = record {
  amount = amount;
  provider = record { class = class; step = 1; sovereign_step = 0 };
  currency = 978;
  residual = residual;
  original = original;
  lawful = 1;
  direct = direct;
  not_in_rating = 1;
  instrument = 0;
}

abbrev added : List ℕ
added =
    -- the items of 01, The book
    collateral_refusal (pledge 400000 1 1800 1800 0)
    ∷ guarantee_refusal (given 200000 1 1800 1800 1)
    -- residual equal to original, and one above it; a condition of 2; a provider of class 4
    ∷ collateral_refusal (pledge 5 6 360 360 1)
    ∷ collateral_refusal (pledge 5 6 361 360 2)
    ∷ collateral_refusal (pledge 5 6 360 360 2)
    ∷ collateral_refusal (pledge 5 7 361 360 2)
    ∷ guarantee_refusal (given 5 4 361 360 2)
    ∷ guarantee_refusal (given 5 3 361 360 2)
    ∷ guarantee_refusal (given 5 3 360 360 2)
    ∷ []

added_edges : added ≡ 0 ∷ 0 ∷ 0 ∷ 7 ∷ 8 ∷ 3 ∷ 2 ∷ 7 ∷ 8 ∷ []
unfolding collateral_refusal collateral_tests guarantee_refusal guarantee_tests first_or within party_step_allowed sovereign_step_allowed party_steps_allowed asset_step_allowed life_allowed
added_edges = refl

-- a deal at this step of its counterparty, with so many places of its list of collateral counted, each filled alike
abbrev holding : ℕ → ℕ → Collateral → Deal
holding step count c = record {
  terms = terms_in (1000000 ∷ 3 ∷ step ∷ 0 ∷ 978 ∷ 3 ∷ 1 ∷ 1800 ∷ 1 ∷ 0 ∷ 0 ∷ 1 ∷ []);
  collateral = record { items = replicate 16 c; count = count };
  guarantees = (without_protection (zero_terms)).guarantees;
}

abbrev whole : List ℕ
whole =
    -- fifteen, sixteen, seventeen
    add_collateral_refusal (holding 0 15 (pledge 5 1 360 360 1)) (pledge 5 1 360 360 1)
    ∷ add_collateral_refusal (holding 0 16 (pledge 5 1 360 360 1)) (pledge 5 7 360 360 1)
    ∷ add_collateral_refusal (holding 0 17 (pledge 5 1 360 360 1)) (pledge 5 1 360 360 1)
    -- a wrong field of the deal, before 6; of a counted item, the relation 7 included; past the count
    ∷ add_collateral_refusal (holding 7 16 (pledge 5 1 360 360 1)) (pledge 5 1 360 360 1)
    ∷ add_collateral_refusal (holding 0 1 (pledge 5 1 361 360 1)) (pledge 5 1 360 360 1)
    ∷ add_collateral_refusal (holding 0 0 (pledge 5 1 361 360 1)) (pledge 5 1 360 360 1)
    ∷ []

whole_edges : whole ≡ 0 ∷ 6 ∷ 40 ∷ 40 ∷ 40 ∷ 0 ∷ []
unfolding add_collateral_refusal add_collateral_tests record_allowed collateral_list_tests collateral_list_allowed guarantee_list_allowed terms_refusal terms_tests collateral_refusal collateral_tests guarantee_refusal guarantee_tests first_or within party_step_allowed sovereign_step_allowed party_steps_allowed asset_step_allowed life_allowed
whole_edges = refl

-- every type with issue life 0 and 360, at step 0 and 1; kinds; the ends of the ranges
abbrev types : List ℕ
types = 0 ∷ 1 ∷ 2 ∷ 3 ∷ 4 ∷ 5 ∷ 6 ∷ 7 ∷ 8 ∷ 9 ∷ 10 ∷ []

abbrev lent_as : ℕ → ℕ → ℕ → ℕ
lent_as step life goods = terms_refusal (terms_in (500 ∷ 3 ∷ 0 ∷ 0 ∷ 978 ∷ 3 ∷ 1 ∷ 1800 ∷ goods ∷ step ∷ life ∷ 1 ∷ []))

goods_edges : map (lent_as 0 0) types ∷ map (lent_as 0 360) types ∷ map (lent_as 1 360) types
    ∷ map (lent_as 1 100000) types ∷ map (lent_as 1 100001) types
    ∷ map (λ k. terms_refusal (terms_in (500 ∷ 3 ∷ 0 ∷ 0 ∷ 978 ∷ k ∷ 1 ∷ 1800 ∷ 1 ∷ 0 ∷ 0 ∷ 1 ∷ []))) (0 ∷ 1 ∷ 2 ∷ 3 ∷ 4 ∷ [])
    ∷ map (λ r. terms_refusal (terms_in (500 ∷ 3 ∷ 0 ∷ 0 ∷ 978 ∷ 3 ∷ 1 ∷ r ∷ 1 ∷ 0 ∷ 0 ∷ 1 ∷ []))) (0 ∷ 1 ∷ 100000 ∷ 100001 ∷ [])
    ∷ map (λ i. terms_refusal (terms_in (500 ∷ 3 ∷ 0 ∷ 0 ∷ 978 ∷ 3 ∷ i ∷ 1800 ∷ 1 ∷ 0 ∷ 0 ∷ 1 ∷ []))) (0 ∷ 1 ∷ 250 ∷ 251 ∷ [])
    ∷ map (λ c. terms_refusal (terms_in (500 ∷ 3 ∷ 0 ∷ 0 ∷ c ∷ 3 ∷ 1 ∷ 1800 ∷ 1 ∷ 0 ∷ 0 ∷ 1 ∷ []))) (0 ∷ 1 ∷ 999 ∷ 1000 ∷ []) ∷ []
    ≡ (2 ∷ 0 ∷ 5 ∷ 5 ∷ 5 ∷ 5 ∷ 5 ∷ 0 ∷ 0 ∷ 0 ∷ 2 ∷ [])
    ∷ (2 ∷ 5 ∷ 0 ∷ 0 ∷ 0 ∷ 0 ∷ 0 ∷ 5 ∷ 5 ∷ 5 ∷ 2 ∷ [])
    ∷ (2 ∷ 3 ∷ 0 ∷ 0 ∷ 0 ∷ 0 ∷ 0 ∷ 3 ∷ 3 ∷ 3 ∷ 2 ∷ [])
    ∷ (2 ∷ 3 ∷ 0 ∷ 0 ∷ 0 ∷ 0 ∷ 0 ∷ 3 ∷ 3 ∷ 3 ∷ 2 ∷ [])
    ∷ (2 ∷ 3 ∷ 5 ∷ 5 ∷ 5 ∷ 5 ∷ 5 ∷ 3 ∷ 3 ∷ 3 ∷ 2 ∷ [])
    ∷ (2 ∷ 0 ∷ 0 ∷ 0 ∷ 2 ∷ [])
    ∷ (5 ∷ 0 ∷ 0 ∷ 5 ∷ [])
    ∷ (5 ∷ 0 ∷ 0 ∷ 5 ∷ [])
    ∷ (4 ∷ 0 ∷ 0 ∷ 4 ∷ []) ∷ []
unfolding terms_refusal terms_tests first_or within party_step_allowed sovereign_step_allowed party_steps_allowed asset_step_allowed life_allowed
goods_edges = refl

-- items with every fault, and one less each time; issue lives; the longest terms
abbrev item : List ℕ → ℕ
item fields = collateral_refusal (collateral_in fields)

abbrev backing : List ℕ → ℕ
backing fields = guarantee_refusal (guarantee_in fields)

items_in_order :
    item (1000000000001 ∷ 10 ∷ 7 ∷ 1 ∷ 0 ∷ 0 ∷ 0 ∷ 2 ∷ 2 ∷ 2 ∷ 2 ∷ [])
    ∷ item (5 ∷ 10 ∷ 7 ∷ 1 ∷ 0 ∷ 0 ∷ 0 ∷ 2 ∷ 2 ∷ 2 ∷ 2 ∷ [])
    ∷ item (5 ∷ 1 ∷ 7 ∷ 1 ∷ 0 ∷ 0 ∷ 0 ∷ 2 ∷ 2 ∷ 2 ∷ 2 ∷ [])
    ∷ item (5 ∷ 1 ∷ 0 ∷ 1 ∷ 0 ∷ 2 ∷ 1 ∷ 2 ∷ 2 ∷ 2 ∷ 2 ∷ [])
    ∷ item (5 ∷ 1 ∷ 0 ∷ 1 ∷ 978 ∷ 2 ∷ 1 ∷ 2 ∷ 2 ∷ 2 ∷ 2 ∷ [])
    ∷ item (5 ∷ 1 ∷ 0 ∷ 0 ∷ 978 ∷ 2 ∷ 1 ∷ 2 ∷ 2 ∷ 2 ∷ 2 ∷ [])
    ∷ item (5 ∷ 1 ∷ 0 ∷ 0 ∷ 978 ∷ 1 ∷ 1 ∷ 1 ∷ 1 ∷ 1 ∷ 2 ∷ [])
    ∷ item (5 ∷ 9 ∷ 0 ∷ 0 ∷ 999 ∷ 100000 ∷ 100000 ∷ 1 ∷ 1 ∷ 1 ∷ 1 ∷ [])
    ∷ item (5 ∷ 7 ∷ 0 ∷ 1 ∷ 978 ∷ 1 ∷ 1 ∷ 1 ∷ 1 ∷ 1 ∷ 1 ∷ [])
    ∷ item (5 ∷ 2 ∷ 1 ∷ 0 ∷ 978 ∷ 1 ∷ 1 ∷ 1 ∷ 1 ∷ 1 ∷ 1 ∷ [])
    ∷ backing (1000000000001 ∷ 4 ∷ 7 ∷ 0 ∷ 0 ∷ 2 ∷ 0 ∷ 2 ∷ 2 ∷ 2 ∷ [])
    ∷ backing (5 ∷ 4 ∷ 7 ∷ 0 ∷ 0 ∷ 2 ∷ 0 ∷ 2 ∷ 2 ∷ 2 ∷ [])
    ∷ backing (5 ∷ 3 ∷ 7 ∷ 0 ∷ 0 ∷ 2 ∷ 0 ∷ 2 ∷ 2 ∷ 2 ∷ [])
    ∷ backing (5 ∷ 3 ∷ 6 ∷ 0 ∷ 0 ∷ 2 ∷ 0 ∷ 2 ∷ 2 ∷ 2 ∷ [])
    ∷ backing (5 ∷ 3 ∷ 6 ∷ 0 ∷ 999 ∷ 2 ∷ 0 ∷ 2 ∷ 2 ∷ 2 ∷ [])
    ∷ backing (5 ∷ 3 ∷ 6 ∷ 0 ∷ 999 ∷ 2 ∷ 1 ∷ 2 ∷ 2 ∷ 2 ∷ [])
    ∷ backing (5 ∷ 3 ∷ 6 ∷ 0 ∷ 999 ∷ 100000 ∷ 100000 ∷ 1 ∷ 1 ∷ 2 ∷ [])
    ∷ backing (5 ∷ 3 ∷ 6 ∷ 0 ∷ 999 ∷ 100000 ∷ 100000 ∷ 1 ∷ 1 ∷ 1 ∷ [])
    ∷ []
    ≡ 1 ∷ 2 ∷ 3 ∷ 4 ∷ 5 ∷ 7 ∷ 8 ∷ 0 ∷ 5 ∷ 5 ∷ 1 ∷ 2 ∷ 3 ∷ 4 ∷ 5 ∷ 7 ∷ 8 ∷ 0 ∷ []
unfolding collateral_refusal collateral_tests guarantee_refusal guarantee_tests first_or within party_step_allowed sovereign_step_allowed party_steps_allowed asset_step_allowed life_allowed
items_in_order = refl

-- "For lives and terms 5 now begins above 100,000" (02: L11), in each field that holds days: the term of a deal and the life of what it
-- lends; life, residual and original term of collateral; both terms of a guarantee
abbrev days : List ℕ
days = 0 ∷ 1 ∷ 36000 ∷ 36001 ∷ 65537 ∷ 99999 ∷ 100000 ∷ 100001 ∷ 131073 ∷ 4294967297 ∷ []

days_edges :
    map (λ f. map f days) (
    (λ n. terms_refusal (terms_in (500 ∷ 3 ∷ 0 ∷ 0 ∷ 978 ∷ 3 ∷ 1 ∷ n ∷ 1 ∷ 0 ∷ 0 ∷ 1 ∷ [])))
    ∷ (λ n. lent_as 1 n 2)
    ∷ (λ n. item (5 ∷ 2 ∷ 1 ∷ n ∷ 978 ∷ 1 ∷ 1 ∷ 1 ∷ 1 ∷ 1 ∷ 1 ∷ []))
    ∷ (λ n. item (5 ∷ 1 ∷ 0 ∷ 0 ∷ 978 ∷ n ∷ 100000 ∷ 1 ∷ 1 ∷ 1 ∷ 1 ∷ []))
    ∷ (λ n. item (5 ∷ 1 ∷ 0 ∷ 0 ∷ 978 ∷ 1 ∷ n ∷ 1 ∷ 1 ∷ 1 ∷ 1 ∷ []))
    ∷ (λ n. backing (5 ∷ 3 ∷ 6 ∷ 0 ∷ 978 ∷ n ∷ 100000 ∷ 1 ∷ 1 ∷ 1 ∷ []))
    ∷ (λ n. backing (5 ∷ 3 ∷ 6 ∷ 0 ∷ 978 ∷ 1 ∷ n ∷ 1 ∷ 1 ∷ 1 ∷ []))
    ∷ [])
    ≡ replicate 7 (5 ∷ 0 ∷ 0 ∷ 0 ∷ 0 ∷ 0 ∷ 0 ∷ 5 ∷ 5 ∷ 5 ∷ [])
unfolding terms_refusal terms_tests collateral_refusal collateral_tests guarantee_refusal guarantee_tests first_or within party_step_allowed sovereign_step_allowed party_steps_allowed asset_step_allowed life_allowed
days_edges = refl

-- fifteen, sixteen, seventeen guarantees
abbrev guaranteed : ℕ → Guarantee → Deal
guaranteed count g = record {
  terms = terms_in (1000000 ∷ 3 ∷ 0 ∷ 0 ∷ 978 ∷ 3 ∷ 1 ∷ 1800 ∷ 1 ∷ 0 ∷ 0 ∷ 1 ∷ []);
  collateral = (without_protection (zero_terms)).collateral;
  guarantees = record { items = replicate 16 g; count = count };
}

whole_guarantees :
    add_guarantee_refusal (guaranteed 15 (given 5 1 360 360 1)) (given 5 1 360 360 1)
    ∷ add_guarantee_refusal (guaranteed 16 (given 5 1 360 360 1)) (given 5 4 360 360 1)
    ∷ add_guarantee_refusal (guaranteed 17 (given 5 1 360 360 1)) (given 5 1 360 360 1)
    ∷ add_guarantee_refusal (guaranteed 1 (given 5 1 361 360 1)) (given 5 1 360 360 1)
    ∷ add_guarantee_refusal (guaranteed 0 (given 5 1 361 360 1)) (given 5 1 360 360 1)
    ∷ [] ≡ 0 ∷ 6 ∷ 40 ∷ 40 ∷ 0 ∷ []
unfolding add_guarantee_refusal add_guarantee_tests record_allowed guarantee_list_tests collateral_list_allowed guarantee_list_allowed terms_refusal terms_tests collateral_refusal collateral_tests guarantee_refusal guarantee_tests first_or within party_step_allowed sovereign_step_allowed party_steps_allowed asset_step_allowed life_allowed
whole_guarantees = refl

-- zeros are zeros; beside a refusal nothing of the terms stays; two of each go behind each other
zeros : (zero_collateral ≡ collateral_in (replicate 11 0)) × ((zero_guarantee ≡ guarantee_in (replicate 10 0))
    × (opened_deal (terms_in (500 ∷ 2 ∷ 7 ∷ 0 ∷ 840 ∷ 1 ∷ 1 ∷ 30 ∷ 1 ∷ 0 ∷ 0 ∷ 1 ∷ [])) ≡ deal_with (terms_in (replicate 12 0)) [] []))
unfolding opened_deal terms_refusal terms_tests first_or within party_step_allowed sovereign_step_allowed party_steps_allowed asset_step_allowed life_allowed
zeros = (refl, (refl, refl))

added_behind :
    (let loan = terms_in (1000000 ∷ 3 ∷ 0 ∷ 0 ∷ 978 ∷ 3 ∷ 1 ∷ 1800 ∷ 1 ∷ 0 ∷ 0 ∷ 1 ∷ []) in
    let c : ℕ → Collateral = λ n. pledge n 1 360 360 1 in
    let g : ℕ → Guarantee = λ n. given n 1 360 360 1 in
    with_guarantee (with_guarantee (with_collateral (with_collateral (opened_deal loan) (c 1)) (c 2)) (g 3)) (g 4) ≡ deal_with loan (c 1 ∷ c 2 ∷ []) (g 3 ∷ g 4 ∷ []))
unfolding opened_deal with_collateral with_guarantee add_collateral_refusal add_collateral_tests add_guarantee_refusal add_guarantee_tests record_allowed collateral_list_tests guarantee_list_tests collateral_list_allowed guarantee_list_allowed terms_refusal terms_tests collateral_refusal collateral_tests guarantee_refusal guarantee_tests first_or within party_step_allowed sovereign_step_allowed party_steps_allowed asset_step_allowed life_allowed
added_behind = refl

-- the life of every type up to either limit, and lives that a narrower number would cut: none outside types 2 to 6, however long
abbrev debt_alone : List Bool
debt_alone = false ∷ false ∷ true ∷ true ∷ true ∷ true ∷ true ∷ false ∷ false ∷ false ∷ false ∷ []

lives_of_types :
    map (λ limit. map (λ n. map (λ t. life_allowed limit (record { goods = t; step = 0; life = n })) types) (0 ∷ 1 ∷ 36000 ∷ 36001 ∷ 65537 ∷ 100000 ∷ 100001 ∷ 131073 ∷ 4294967297 ∷ [])) (36000 ∷ 100000 ∷ [])
    ≡ (map not debt_alone ∷ debt_alone ∷ debt_alone ∷ replicate 6 (replicate 11 false))
    ∷ (map not debt_alone ∷ replicate 5 debt_alone ++ replicate 3 (replicate 11 false))
    ∷ []
unfolding within life_allowed
lives_of_types = refl

-- the same of pledges, where the refusal stands
pledges_of_types :
    map (λ n. map (λ t. item (5 ∷ t ∷ 0 ∷ n ∷ 978 ∷ 1 ∷ 1 ∷ 1 ∷ 1 ∷ 1 ∷ 1 ∷ [])) types) (0 ∷ 36001 ∷ 100000 ∷ 100001 ∷ [])
    ≡ (2 ∷ 0 ∷ 5 ∷ 5 ∷ 5 ∷ 5 ∷ 5 ∷ 0 ∷ 0 ∷ 0 ∷ 2 ∷ [])
    ∷ (2 ∷ 5 ∷ 0 ∷ 0 ∷ 0 ∷ 0 ∷ 0 ∷ 5 ∷ 5 ∷ 5 ∷ 2 ∷ [])
    ∷ (2 ∷ 5 ∷ 0 ∷ 0 ∷ 0 ∷ 0 ∷ 0 ∷ 5 ∷ 5 ∷ 5 ∷ 2 ∷ [])
    ∷ (2 ∷ 5 ∷ 5 ∷ 5 ∷ 5 ∷ 5 ∷ 5 ∷ 5 ∷ 5 ∷ 5 ∷ 2 ∷ [])
    ∷ []
unfolding collateral_refusal collateral_tests first_or within asset_step_allowed life_allowed
pledges_of_types = refl

-- 7 above 36,000
long_terms_in_order :
    map (λ n. item (5 ∷ 1 ∷ 0 ∷ 0 ∷ 978 ∷ n ∷ 70000 ∷ 1 ∷ 1 ∷ 1 ∷ 1 ∷ []) ∷ backing (5 ∷ 3 ∷ 6 ∷ 0 ∷ 978 ∷ n ∷ 70000 ∷ 1 ∷ 1 ∷ 1 ∷ []) ∷ []) (1 ∷ 70000 ∷ 70001 ∷ 100000 ∷ [])
    ≡ (0 ∷ 0 ∷ []) ∷ (0 ∷ 0 ∷ []) ∷ (7 ∷ 7 ∷ []) ∷ (7 ∷ 7 ∷ []) ∷ []
unfolding collateral_refusal collateral_tests guarantee_refusal guarantee_tests first_or within party_step_allowed sovereign_step_allowed party_steps_allowed asset_step_allowed life_allowed
long_terms_in_order = refl

-- THE SOVEREIGN'S STEP AND THE EDITION. 02: L5

-- 0 to 6, and 0 for sovereign and retail, whatever the edition: by class, the steps 0 to 7
abbrev steps : List ℕ
steps = 0 ∷ 1 ∷ 2 ∷ 3 ∷ 4 ∷ 5 ∷ 6 ∷ 7 ∷ []

sovereign_steps :
    (map (λ e. map (λ c. map (λ s. terms_refusal (terms_in (500 ∷ c ∷ 0 ∷ s ∷ 978 ∷ 3 ∷ 1 ∷ 1800 ∷ 1 ∷ 0 ∷ 0 ∷ e ∷ []))) steps) (0 ∷ 1 ∷ 2 ∷ 3 ∷ 4 ∷ 5 ∷ [])) (1 ∷ 2 ∷ [])
    ≡ replicate 2 (replicate 8 2 ∷ (0 ∷ replicate 7 3) ∷ (replicate 7 0 ++ 3 ∷ []) ∷ (replicate 7 0 ++ 3 ∷ []) ∷ (0 ∷ replicate 7 3) ∷ replicate 8 2 ∷ []))
    × (map (λ c. map (λ s. backing (5 ∷ c ∷ 0 ∷ s ∷ 978 ∷ 1 ∷ 1 ∷ 1 ∷ 1 ∷ 1 ∷ [])) steps) (0 ∷ 1 ∷ 2 ∷ 3 ∷ 4 ∷ [])
    ≡ replicate 8 2 ∷ (0 ∷ replicate 7 3) ∷ (replicate 7 0 ++ 3 ∷ []) ∷ (replicate 7 0 ++ 3 ∷ []) ∷ replicate 8 2 ∷ [])
unfolding terms_refusal terms_tests guarantee_refusal guarantee_tests first_or within party_step_allowed sovereign_step_allowed party_steps_allowed asset_step_allowed life_allowed
sovereign_steps = (refl, refl)

-- whether the party is rated or not
rated_sovereign_steps :
    (map (λ step. map (λ c. map (λ s. terms_refusal (terms_in (500 ∷ c ∷ step ∷ s ∷ 978 ∷ 3 ∷ 1 ∷ 1800 ∷ 1 ∷ 0 ∷ 0 ∷ 2 ∷ []))) steps) (1 ∷ 2 ∷ 3 ∷ [])) (1 ∷ 2 ∷ 3 ∷ 4 ∷ 5 ∷ 6 ∷ [])
    ≡ replicate 6 ((0 ∷ replicate 7 3) ∷ replicate 2 (replicate 7 0 ++ 3 ∷ [])))
    × (map (λ step. map (λ c. map (λ s. backing (5 ∷ c ∷ step ∷ s ∷ 978 ∷ 1 ∷ 1 ∷ 1 ∷ 1 ∷ 1 ∷ [])) steps) (1 ∷ 2 ∷ 3 ∷ [])) (1 ∷ 2 ∷ 3 ∷ 4 ∷ 5 ∷ 6 ∷ [])
    ≡ replicate 6 ((0 ∷ replicate 7 3) ∷ replicate 2 (replicate 7 0 ++ 3 ∷ [])))
unfolding terms_refusal terms_tests guarantee_refusal guarantee_tests first_or within party_step_allowed sovereign_step_allowed party_steps_allowed asset_step_allowed life_allowed
rated_sovereign_steps = (refl, refl)

-- an unknown edition is 2: behind 1, before 3
editions :
    map (λ e. terms_refusal (terms_in (500 ∷ 2 ∷ 0 ∷ 6 ∷ 978 ∷ 3 ∷ 1 ∷ 1800 ∷ 1 ∷ 0 ∷ 0 ∷ e ∷ []))) (0 ∷ 1 ∷ 2 ∷ 3 ∷ 4 ∷ 5 ∷ 257 ∷ 4294967299 ∷ [])
    ∷ map (λ e. terms_refusal (terms_in (1000000000001 ∷ 2 ∷ 0 ∷ 7 ∷ 0 ∷ 3 ∷ 1 ∷ 1800 ∷ 1 ∷ 0 ∷ 0 ∷ e ∷ []))) (0 ∷ 1 ∷ [])
    ∷ map (λ e. terms_refusal (terms_in (500 ∷ 2 ∷ 0 ∷ 7 ∷ 0 ∷ 3 ∷ 1 ∷ 1800 ∷ 1 ∷ 0 ∷ 0 ∷ e ∷ []))) (0 ∷ 1 ∷ [])
    ∷ []
    ≡ (2 ∷ 0 ∷ 0 ∷ 0 ∷ 2 ∷ 2 ∷ 2 ∷ 2 ∷ []) ∷ (1 ∷ 1 ∷ []) ∷ (2 ∷ 3 ∷ []) ∷ []
unfolding terms_refusal terms_tests first_or within party_step_allowed sovereign_step_allowed party_steps_allowed asset_step_allowed life_allowed
editions = refl

-- in a record an unknown edition, or a wrong step of a sovereign in a counted place, is 40; past the count it is not tested
records :
    map (λ d. add_collateral_refusal d (pledge 5 1 360 360 1)) (
    deal_with (terms_in (500 ∷ 2 ∷ 0 ∷ 6 ∷ 978 ∷ 3 ∷ 1 ∷ 1800 ∷ 1 ∷ 0 ∷ 0 ∷ 2 ∷ [])) [] []
    ∷ deal_with (terms_in (500 ∷ 2 ∷ 0 ∷ 6 ∷ 978 ∷ 3 ∷ 1 ∷ 1800 ∷ 1 ∷ 0 ∷ 0 ∷ 3 ∷ [])) [] []
    ∷ deal_with (terms_in (500 ∷ 2 ∷ 0 ∷ 6 ∷ 978 ∷ 3 ∷ 1 ∷ 1800 ∷ 1 ∷ 0 ∷ 0 ∷ 4 ∷ [])) [] []
    ∷ deal_with (terms_in (500 ∷ 1 ∷ 0 ∷ 6 ∷ 978 ∷ 3 ∷ 1 ∷ 1800 ∷ 1 ∷ 0 ∷ 0 ∷ 2 ∷ [])) [] []
    ∷ guaranteed 1 (guarantee_in (5 ∷ 1 ∷ 0 ∷ 1 ∷ 978 ∷ 1 ∷ 1 ∷ 1 ∷ 1 ∷ 1 ∷ []))
    ∷ guaranteed 0 (guarantee_in (5 ∷ 1 ∷ 0 ∷ 1 ∷ 978 ∷ 1 ∷ 1 ∷ 1 ∷ 1 ∷ 1 ∷ []))
    ∷ [])
    ≡ 0 ∷ 0 ∷ 40 ∷ 40 ∷ 40 ∷ 0 ∷ []
unfolding add_collateral_refusal add_collateral_tests record_allowed collateral_list_tests collateral_list_allowed guarantee_list_allowed terms_refusal terms_tests collateral_refusal collateral_tests guarantee_refusal guarantee_tests first_or within party_step_allowed sovereign_step_allowed party_steps_allowed asset_step_allowed life_allowed
records = refl
