-- The same items, or lines, in any order are those of which there are as many of every kind. Assumes nothing.
use Prim.Native.Nat.{ℕ}
use mathlib.Core.Path.{◌≡◌, refl, sym, ap, ◌∙◌}
use mathlib.Core.List.{List}
use Rattle.base.specs.Reordered.{Reordered, SameCounts}
use Rattle.base.proofs.Reordered.{counts_same}
use Rattle.text.specs.Text.{same_bytes}
use Rattle.text.proofs.Equal.{equal_same, same_equal}
use Rattle.deal.specs.Fields.{collateral_fields, collateral_in, guarantee_fields, guarantee_in}
use Rattle.deal.specs.declared.collateral.Collateral.{Collateral}
use Rattle.deal.specs.declared.guarantee.Guarantee.{Guarantee}
use Rattle.deal.proofs.BothWays.{collateral_back, guarantee_back}

-- what has numbers from which it is read back is told apart by them
by_numbers : {A : Type 0} (numbers : A → List ℕ) (read : List ℕ → A) → ((x : A) → read (numbers x) ≡ x) → (xs ys : List A) → SameCounts xs ys → Reordered xs ys
by_numbers numbers read back xs ys h =
    counts_same (λ x y. same_bytes (numbers x) (numbers y)) (λ x. equal_same _ _ refl)
    (λ x y e. sym (back x) ∙ ap read (same_equal (numbers x) (numbers y) e) ∙ back y) xs ys h

pub collateral_by_counts : (xs ys : List Collateral) → SameCounts xs ys → Reordered xs ys
collateral_by_counts = by_numbers collateral_fields collateral_in collateral_back

pub guarantees_by_counts : (xs ys : List Guarantee) → SameCounts xs ys → Reordered xs ys
guarantees_by_counts = by_numbers guarantee_fields guarantee_in guarantee_back

pub lines_by_counts : (xs ys : List (List ℕ)) → SameCounts xs ys → Reordered xs ys
lines_by_counts = by_numbers (λ line. line) (λ line. line) (λ line. refl)
