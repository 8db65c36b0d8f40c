-- Swaps and the instruments of a list at their edges, computed. 02: L1. Assumes nothing.
use Prim.Native.Nat.{ℕ}
use mathlib.Core.Path.{◌≡◌, refl}
use mathlib.Core.Bool.{true, false}
use mathlib.Core.List.{List, [], ◌∷◌, ◌++◌, map}
use lib.ListN.{replicate}
use Rattle.base.specs.FirstMet.{first_or}
use Rattle.base.specs.Range.{within}
use Rattle.deal.specs.Adding.{add_guarantee_refusal, add_guarantee_tests, add_swap_refusal, with_guarantee, with_swap}
use Rattle.deal.specs.Assets.{asset_step_allowed, life_allowed}
use Rattle.deal.specs.Collateral.{collateral_list_allowed}
use Rattle.deal.specs.Fields.{guarantee_fields, guarantee_in, guarantee_sent, swap_sent, terms_in}
use Rattle.deal.specs.Guarantees.{guarantee_list_allowed, guarantee_list_tests, guarantee_refusal, guarantee_tests}
use Rattle.deal.specs.Instruments.{as_swap, instrument_allowed, swap_with}
use Rattle.deal.specs.Opening.{opened_deal}
use Rattle.deal.specs.Parties.{party_step_allowed, party_steps_allowed, sovereign_step_allowed}
use Rattle.deal.specs.Records.{accepted, deal_with, record_allowed}
use Rattle.deal.specs.Terms.{terms_refusal, terms_tests}
use Rattle.deal.specs.declared.terms.Terms.{Terms}
use Rattle.deal.specs.declared.guarantee.Guarantee.{Guarantee}
use Rattle.deal.specs.declared.deal.Deal.{Deal}

-- the three instruments, and what entries of the condition give, one that a narrower number would cut among them
instruments :
    (map instrument_allowed (0 ∷ 1 ∷ 2 ∷ 3 ∷ 4 ∷ 256 ∷ 18446744073709551615 ∷ []) ≡ true ∷ true ∷ true ∷ false ∷ false ∷ false ∷ false ∷ [])
    × (map swap_with (0 ∷ 1 ∷ 2 ∷ 3 ∷ 256 ∷ 257 ∷ 4294967297 ∷ 18446744073709551615 ∷ []) ≡ 1 ∷ 2 ∷ 3 ∷ 3 ∷ 3 ∷ 3 ∷ 3 ∷ 3 ∷ [])
instruments = (refl, refl)

-- what a G and an S send, and what a record holds of them: ten numbers alike, and the instrument
abbrev ten : List ℕ
ten = 100 ∷ 1 ∷ 2 ∷ 3 ∷ 4 ∷ 5 ∷ 6 ∷ 7 ∷ 8 ∷ 9 ∷ []

held_as :
    (guarantee_fields (guarantee_sent ten) ≡ ten ++ (0 ∷ []))
    × ((map (λ r. guarantee_fields (swap_sent (ten ++ (r ∷ [])))) (0 ∷ 1 ∷ 2 ∷ []) ≡ (ten ++ (1 ∷ [])) ∷ (ten ++ (2 ∷ [])) ∷ (ten ++ (3 ∷ [])) ∷ [])
    × ((guarantee_in (ten ++ (0 ∷ [])) ≡ guarantee_sent ten)
    × ((guarantee_in (ten ++ (1 ∷ [])) ≡ swap_sent (ten ++ (0 ∷ []))) × (guarantee_in (ten ++ (2 ∷ [])) ≡ swap_sent (ten ++ (1 ∷ []))))))
held_as = (refl, (refl, (refl, (refl, refl))))

-- of an item whatever it is: the same fields, and this entry
made_swaps : map (λ instrument. map (λ r. guarantee_fields (as_swap r (guarantee_in (ten ++ (instrument ∷ []))))) (0 ∷ 1 ∷ 2 ∷ [])) (0 ∷ 1 ∷ 2 ∷ 7 ∷ [])
    ≡ replicate 4 ((ten ++ (1 ∷ [])) ∷ (ten ++ (2 ∷ [])) ∷ (ten ++ (3 ∷ [])) ∷ [])
made_swaps = refl

abbrev swap : List ℕ → ℕ
swap fields = guarantee_refusal (swap_sent fields)

-- a swap with every fault, and one less each time, as a guarantee; its own condition is the last that 8 asks for
swap_in_order :
    swap (1000000000001 ∷ 4 ∷ 7 ∷ 0 ∷ 0 ∷ 2 ∷ 0 ∷ 2 ∷ 2 ∷ 2 ∷ 2 ∷ [])
    ∷ swap (5 ∷ 4 ∷ 7 ∷ 0 ∷ 0 ∷ 2 ∷ 0 ∷ 2 ∷ 2 ∷ 2 ∷ 2 ∷ [])
    ∷ swap (5 ∷ 3 ∷ 7 ∷ 0 ∷ 0 ∷ 2 ∷ 0 ∷ 2 ∷ 2 ∷ 2 ∷ 2 ∷ [])
    ∷ swap (5 ∷ 3 ∷ 6 ∷ 7 ∷ 0 ∷ 2 ∷ 0 ∷ 2 ∷ 2 ∷ 2 ∷ 2 ∷ [])
    ∷ swap (5 ∷ 3 ∷ 6 ∷ 0 ∷ 0 ∷ 2 ∷ 0 ∷ 2 ∷ 2 ∷ 2 ∷ 2 ∷ [])
    ∷ swap (5 ∷ 3 ∷ 6 ∷ 0 ∷ 999 ∷ 2 ∷ 0 ∷ 2 ∷ 2 ∷ 2 ∷ 2 ∷ [])
    ∷ swap (5 ∷ 3 ∷ 6 ∷ 0 ∷ 999 ∷ 2 ∷ 1 ∷ 2 ∷ 2 ∷ 2 ∷ 2 ∷ [])
    ∷ swap (5 ∷ 3 ∷ 6 ∷ 0 ∷ 999 ∷ 100000 ∷ 100000 ∷ 2 ∷ 1 ∷ 1 ∷ 1 ∷ [])
    ∷ swap (5 ∷ 3 ∷ 6 ∷ 0 ∷ 999 ∷ 100000 ∷ 100000 ∷ 1 ∷ 2 ∷ 1 ∷ 1 ∷ [])
    ∷ swap (5 ∷ 3 ∷ 6 ∷ 0 ∷ 999 ∷ 100000 ∷ 100000 ∷ 1 ∷ 1 ∷ 2 ∷ 1 ∷ [])
    ∷ []
    ≡ 1 ∷ 2 ∷ 3 ∷ 3 ∷ 4 ∷ 5 ∷ 7 ∷ 8 ∷ 8 ∷ 8 ∷ []
unfolding guarantee_refusal guarantee_tests first_or within party_step_allowed sovereign_step_allowed party_steps_allowed
swap_in_order = refl

-- by the entry of its own condition, whether the others are met or not
restructuring_entries :
    (map (λ r. swap (5 ∷ 3 ∷ 6 ∷ 0 ∷ 999 ∷ 1 ∷ 1 ∷ 1 ∷ 1 ∷ 1 ∷ r ∷ [])) (0 ∷ 1 ∷ 2 ∷ 3 ∷ 256 ∷ 9999999999999 ∷ 18446744073709551615 ∷ []) ≡ 0 ∷ 0 ∷ 8 ∷ 8 ∷ 8 ∷ 8 ∷ 8 ∷ [])
    × (map (λ r. swap (5 ∷ 3 ∷ 6 ∷ 0 ∷ 999 ∷ 1 ∷ 1 ∷ 0 ∷ 0 ∷ 0 ∷ r ∷ [])) (0 ∷ 1 ∷ 2 ∷ []) ≡ 0 ∷ 0 ∷ 8 ∷ [])
unfolding guarantee_refusal guarantee_tests first_or within party_step_allowed sovereign_step_allowed party_steps_allowed
restructuring_entries = (refl, refl)

-- one list of sixteen, in order of arrival: a swap, a guarantee, a swap; a refused one leaves the deal as it was
abbrev loan : Terms
loan = terms_in (1000000 ∷ 3 ∷ 0 ∷ 0 ∷ 978 ∷ 3 ∷ 1 ∷ 1800 ∷ 1 ∷ 0 ∷ 0 ∷ 1 ∷ [])

abbrev given : ℕ → Guarantee
given amount = guarantee_sent (amount ∷ 1 ∷ 1 ∷ 0 ∷ 978 ∷ 1800 ∷ 1800 ∷ 1 ∷ 1 ∷ 1 ∷ [])

abbrev held : ℕ → ℕ → Guarantee
held amount instrument = guarantee_in (amount ∷ 1 ∷ 1 ∷ 0 ∷ 978 ∷ 1800 ∷ 1800 ∷ 1 ∷ 1 ∷ 1 ∷ instrument ∷ [])

one_order :
    with_swap (with_swap (with_guarantee (with_swap (opened_deal loan) 0 (given 1)) (given 2)) 1 (given 3)) 2 (given 4)
    ≡ deal_with loan [] (held 1 1 ∷ held 2 0 ∷ held 3 2 ∷ [])
unfolding opened_deal with_guarantee add_guarantee_refusal add_guarantee_tests record_allowed guarantee_list_tests collateral_list_allowed guarantee_list_allowed terms_refusal terms_tests guarantee_refusal guarantee_tests first_or within party_step_allowed sovereign_step_allowed party_steps_allowed asset_step_allowed life_allowed
one_order = refl

-- the seventeenth among both is 6, before its own fields; a record with an instrument that is none is 40, where it is counted
abbrev holding : ℕ → ℕ → Deal
holding count last = record {
  terms = loan;
  collateral = (opened_deal loan).collateral;
  guarantees = record { items = replicate 8 (held 5 0) ++ replicate 7 (held 5 1) ++ (held 5 last ∷ []); count = count };
}

shared_list :
    add_swap_refusal (holding 15 3) 0 (given 5)
    ∷ add_swap_refusal (holding 15 3) 2 (given 5)
    ∷ add_swap_refusal (holding 16 2) 2 (given 1000000000001)
    ∷ add_guarantee_refusal (holding 16 1) (given 5)
    ∷ add_swap_refusal (holding 17 2) 0 (given 5)
    ∷ add_swap_refusal (holding 16 3) 0 (given 5)
    ∷ []
    ≡ 0 ∷ 8 ∷ 6 ∷ 6 ∷ 40 ∷ 40 ∷ []
unfolding opened_deal add_guarantee_refusal add_guarantee_tests record_allowed guarantee_list_tests collateral_list_allowed guarantee_list_allowed terms_refusal terms_tests guarantee_refusal guarantee_tests first_or within party_step_allowed sovereign_step_allowed party_steps_allowed asset_step_allowed life_allowed
shared_list = refl

accepted_by_instrument : map (λ k. accepted (holding 16 k)) (0 ∷ 1 ∷ 2 ∷ 3 ∷ 4 ∷ 256 ∷ []) ≡ true ∷ true ∷ true ∷ false ∷ false ∷ false ∷ []
unfolding opened_deal accepted record_allowed collateral_list_allowed guarantee_list_allowed terms_refusal terms_tests guarantee_refusal guarantee_tests first_or within party_step_allowed sovereign_step_allowed party_steps_allowed asset_step_allowed life_allowed
accepted_by_instrument = refl
