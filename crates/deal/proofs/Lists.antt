-- What the lists of a deal have in common, whatever their items are: counted items that adding takes, and one more of them.
-- Assumes nothing.
use Prim.Native.Nat.{ℕ, ◌+◌, ◌≤◌, ◌<◌}
use Rattle.std.proofs.Common.{if◌then◌else◌}
use mathlib.Core.Path.{◌≡◌, refl, ap, ◌∙◌}
use mathlib.Core.Bool.{Bool, true, false}
use mathlib.Core.List.{List}
use native.Mathlib.Omega.{arith}
use lib.Dec.{leb, eqb}
use lib.ListN.{length}
use borrow.Author.Tests.{le-leb, lt-leb, leb-true, leb-false, eq-eqb}
use Rattle.base.specs.FirstMet.{Test, first_met, first_or}
use Rattle.base.proofs.All.{all_set}
use Rattle.base.proofs.Every.{both}
use Rattle.base.proofs.FirstMet.{distinct, met_first, none_exactly, none_met, not_met}
use Rattle.base.proofs.Tests.{and_true}
use Rattle.deal.specs.Lists.{items_with, list_allowed, list_limit, list_tests, unless_refused}

module _ {A : Type 0} (refusal : A → ℕ) (items : List A) (count : ℕ) where
  -- the count of a list that is allowed
  pub count_fits : list_allowed refusal items count ≡ true → count ≤ list_limit
  count_fits e = leb-true _ list_limit (both (leb count list_limit) _ e).0

-- 6 first, then the item's own tests
module _ {A : Type 0} (tests : A → List (Test ℕ)) (count : ℕ) (x : A) where
  pub full_first : list_limit ≤ count → first_met (list_tests tests count x) ≡ 6
  full_first h = met_first 6 _ _ (le-leb list_limit count h)

  pub own_tests : count < list_limit → first_met (list_tests tests count x) ≡ first_met (tests x)
  own_tests h = not_met 6 _ _ (lt-leb list_limit count h)

-- an item that is not refused leaves the list allowed
pub still_allowed : {A : Type 0} (tests : A → List (Test ℕ)) (items : List A) (count : ℕ) (x : A) → distinct (list_tests tests count x) ≡ true →
    first_met (list_tests tests count x) ≡ 0 → list_allowed (λ y. first_met (tests y)) items count ≡ true →
    list_allowed (λ y. first_met (tests y)) (items_with items count x) (count + 1) ≡ true
still_allowed tests items count x d e h =
    let n = none_exactly (list_tests tests count x) d e in
    let counted = (both (leb count list_limit) _ h).1 in
    and_true _ _ (le-leb (count + 1) list_limit (omega (arith, leb-false list_limit count n.0)))
    (all_set (λ y. eqb (first_met (tests y)) 0) count items x counted (eq-eqb _ 0 (none_met (tests x) n.1)))

-- what adding answers, told by whether the list is full and what its item's tests give
pub answered_by_list : {A : Type 0} (tests : A → List (Test ℕ)) (items : List A) (count : ℕ) (x : A) {n : ℕ} → length items ≡ list_limit →
    n ≡ (if leb (length items) count then 6 else first_met (tests x)) → n ≡ first_met (list_tests tests count x)
unfolding first_or
answered_by_list tests items count x fits e = e ∙ ap (λ l. if leb l count then 6 else first_met (tests x)) fits

-- parts of which each stays beside a refusal
pub parts_unless_refused : {A B C : Type 0} (whole : A → B → C) (refusal : ℕ) (a₁ a₀ : A) (b₁ b₀ : B) {a : A} {b : B} → a ≡ unless_refused refusal a₁ a₀ →
    b ≡ unless_refused refusal b₁ b₀ → whole a b ≡ unless_refused refusal (whole a₁ b₁) (whole a₀ b₀)
parts_unless_refused whole refusal a₁ a₀ b₁ b₀ p q = rw (p, q) (go (eqb refusal 0))
  where
    go : (t : Bool) → whole (if t then a₁ else a₀) (if t then b₁ else b₀) ≡ (if t then whole a₁ b₁ else whole a₀ b₀)
    go true = refl
    go false = refl
