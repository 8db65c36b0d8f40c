-- Adding an item to a deal. 01: The four operations, Adding an item; 02: L1
use Rattle.std.specs.Prelude.{ℕ, not, List, ◌∷◌}
use Rattle.base.specs.FirstMet.{Test, ◌when◌, first_met}
use Rattle.deal.specs.Collateral.{append_collateral, collateral_list_tests}
use Rattle.deal.specs.Guarantees.{append_guarantee, guarantee_list_tests}
use Rattle.deal.specs.Instruments.{as_swap}
use Rattle.deal.specs.Lists.{unless_refused}
use Rattle.deal.specs.Records.{deal_of, record_allowed}
use Rattle.deal.specs.declared.collateral.Collateral.{Collateral}
use Rattle.deal.specs.declared.guarantee.Guarantee.{Guarantee}
use Rattle.deal.specs.declared.deal.Deal.{Deal}

-- "40 .. adding's before 6"; then what adding to its list tests
abbrev pub record_tests : Deal → List (Test ℕ) → List (Test ℕ)
record_tests d tests = 40 when not (record_allowed d) ∷ tests

unfoldable pub add_collateral_tests : Deal → Collateral → List (Test ℕ)
add_collateral_tests d c = record_tests d (collateral_list_tests d.collateral c)

-- an item of the list of guarantees: a guarantee, or the swap that its instrument says it is
unfoldable pub add_guarantee_tests : Deal → Guarantee → List (Test ℕ)
add_guarantee_tests d g = record_tests d (guarantee_list_tests d.guarantees g)

unfoldable pub add_collateral_refusal : Deal → Collateral → ℕ
add_collateral_refusal d c = first_met (add_collateral_tests d c)

unfoldable pub add_guarantee_refusal : Deal → Guarantee → ℕ
add_guarantee_refusal d g = first_met (add_guarantee_tests d g)

-- the deal after it: "A refused line leaves the deal as it was before it"
unfoldable pub with_collateral : Deal → Collateral → Deal
with_collateral d c = unless_refused (add_collateral_refusal d c) (deal_of d.terms (append_collateral d.collateral c) d.guarantees) d

unfoldable pub with_guarantee : Deal → Guarantee → Deal
with_guarantee d g = unless_refused (add_guarantee_refusal d g) (deal_of d.terms d.collateral (append_guarantee d.guarantees g)) d

-- a swap: a guarantee's fields, and the entry of its further condition. "(A line S is refused as a G is.)"
abbrev pub add_swap_refusal : Deal → ℕ → Guarantee → ℕ
add_swap_refusal d restructuring g = add_guarantee_refusal d (as_swap restructuring g)

abbrev pub with_swap : Deal → ℕ → Guarantee → Deal
with_swap d restructuring g = with_guarantee d (as_swap restructuring g)
