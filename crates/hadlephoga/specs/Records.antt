-- A deal's record as numbers, for callers in other languages, both ways; they are inverse to each other (proofs/Records). 01: What a deal
-- holds
use Rattle.std.specs.Prelude.{ℕ, zero, suc, ◌+◌, ◌*◌, List, [], ◌∷◌, ◌++◌, map, take, drop, get_or}
use Rattle.deal.specs.Fields.{collateral_fields, collateral_in, collateral_width, guarantee_fields, guarantee_in, guarantee_width, terms_fields, terms_in, terms_width}
use Rattle.deal.specs.Lists.{list_limit}
use Rattle.deal.specs.declared.deal.Deal.{Deal}

-- so many slices of this width, one behind the other
unfoldable pub slices : ℕ → ℕ → List ℕ → List (List ℕ)
slices width zero numbers = []
slices width (suc k) numbers = take width numbers ∷ slices width k (drop width numbers)

-- for each of a list's elements its numbers, one behind the other
unfoldable pub in_order : {A : Type 0} → (A → List ℕ) → List A → List ℕ
in_order f [] = []
in_order f (x ∷ xs) = f x ++ in_order f xs

-- the numbers of a list's sixteen places
abbrev pub collateral_length : ℕ
collateral_length = list_limit * collateral_width

abbrev pub guarantees_length : ℕ
guarantees_length = list_limit * guarantee_width

-- where the parts stand: the terms, from place 0; the count of collateral, and its items; the count of guarantees, and its items
abbrev pub collateral_count_at : ℕ
collateral_count_at = terms_width

abbrev pub first_collateral : ℕ
first_collateral = collateral_count_at + 1

abbrev pub guarantee_count_at : ℕ
guarantee_count_at = first_collateral + collateral_length

abbrev pub first_guarantee : ℕ
first_guarantee = guarantee_count_at + 1

abbrev pub record_length : ℕ
record_length = first_guarantee + guarantees_length

-- the record that these numbers are
unfoldable pub deal_in : List ℕ → Deal
deal_in numbers = record {
  terms = terms_in (take terms_width numbers);
  collateral = record {
    items = map collateral_in (slices collateral_width list_limit (take collateral_length (drop first_collateral numbers)));
    count = get_or numbers collateral_count_at 0;
  };
  guarantees = record {
    items = map guarantee_in (slices guarantee_width list_limit (drop first_guarantee numbers));
    count = get_or numbers guarantee_count_at 0;
  };
}

-- the numbers of a record
unfoldable pub deal_numbers : Deal → List ℕ
deal_numbers d =
    terms_fields d.terms
    ++ (d.collateral.count ∷ [])
    ++ in_order collateral_fields d.collateral.items
    ++ (d.guarantees.count ∷ [])
    ++ in_order guarantee_fields d.guarantees.items
