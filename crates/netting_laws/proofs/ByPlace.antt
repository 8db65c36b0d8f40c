-- Tests of a list by places: whether an element passes, and whether two do. Assumes nothing.
use Prim.Native.Nat.{ℕ, zero, suc, ◌<◌}
use mathlib.Core.Path.{◌≡◌, refl, ◌∙◌}
use mathlib.Core.Bool.{Bool, true, false, ◌||◌}
use mathlib.Core.List.{List, [], ◌∷◌}
use native.Mathlib.Nat.{le_of_suc-le-suc, not-suc-le-zero}
use native.Mathlib.Omega.{arith}
use lib.Dec.{eqb}
use lib.ListN.{get_or, length}
use Rattle.base.specs.Any.{any, any_two}
use Rattle.base.specs.Each.{Each}
use Rattle.base.specs.FirstMet.{first_met}
use Rattle.base.proofs.Tests.{or_false, or_first}
use Rattle.netting.specs.Fields.{zero_position}
use Rattle.netting.specs.Positions.{fields_of_each, position_refusal}
use Rattle.netting.specs.declared.position.Position.{Position}
use Rattle.netting.proofs.Refusing.{fields_met, fields_none}

module _ {A : Type 0} (d : A) where
  or_later : (a b : Bool) → b ≡ true → (a || b) ≡ true
  or_later true b e = refl
  or_later false b e = e

  pub any_at : (test : A → Bool) (xs : List A) (i : ℕ) → i < length xs → test (get_or xs i d) ≡ true → any xs test ≡ true
  unfolding any
  any_at test [] i h e = absurd (not-suc-le-zero h)
  any_at test (x ∷ xs) zero h e = or_first (test x) _ e
  any_at test (x ∷ xs) (suc i) h e = or_later (test x) _ (any_at test xs i (le_of_suc-le-suc h) e)

  pub none_at : (test : A → Bool) (xs : List A) → ((i : ℕ) → i < length xs → test (get_or xs i d) ≡ false) → any xs test ≡ false
  unfolding any
  none_at test [] h = refl
  none_at test (x ∷ xs) h = or_false (test x) _ (h zero (omega arith)) (none_at test xs (λ i k. h (suc i) (omega arith)))

  pub two_at : (test : A → A → Bool) (xs : List A) (i j : ℕ) → i < j → j < length xs → test (get_or xs i d) (get_or xs j d) ≡ true → any_two xs test ≡ true
  unfolding any_two
  two_at test [] i j h k e = absurd (not-suc-le-zero k)
  two_at test (x ∷ xs) i zero h k e = absurd (not-suc-le-zero h)
  two_at test (x ∷ xs) zero (suc j) h k e = or_first (any xs (test x)) _ (any_at (test x) xs j (le_of_suc-le-suc k) e)
  two_at test (x ∷ xs) (suc i) (suc j) h k e = or_later (any xs (test x)) _ (two_at test xs i j (le_of_suc-le-suc h) (le_of_suc-le-suc k) e)

  pub no_two_at : (test : A → A → Bool) (xs : List A) → ((i j : ℕ) → i < j → j < length xs → test (get_or xs i d) (get_or xs j d) ≡ false) → any_two xs test ≡ false
  unfolding any_two
  no_two_at test [] h = refl
  no_two_at test (x ∷ xs) h =
      or_false (any xs (test x)) _ (none_at (test x) xs (λ j k. h zero (suc j) (omega arith) (omega arith)))
      (no_two_at test xs (λ i j l k. h (suc i) (suc j) (omega arith) (omega arith)))

  -- what holds of each holds at each place
  pub each_at_place : (P : A → Type 0) (xs : List A) → Each P xs → (i : ℕ) → i < length xs → P (get_or xs i d)
  each_at_place P [] h i k = absurd (not-suc-le-zero k)
  each_at_place P (x ∷ xs) h zero k = h.0
  each_at_place P (x ∷ xs) h (suc i) k = each_at_place P xs h.1 i (le_of_suc-le-suc k)

  pub each_from : (P : A → Type 0) (xs : List A) → ((i : ℕ) → i < length xs → P (get_or xs i d)) → Each P xs
  each_from P [] h = tt
  each_from P (x ∷ xs) h = (h zero (omega arith), each_from P xs (λ i k. h (suc i) (omega arith)))

-- the first position that is refused decides
pub first_refused : (ps : List Position) (i : ℕ) → i < length ps → ((j : ℕ) → j < i → position_refusal (get_or ps j zero_position) ≡ 0) →
    eqb (position_refusal (get_or ps i zero_position)) 0 ≡ false → first_met (fields_of_each ps) ≡ position_refusal (get_or ps i zero_position)
first_refused [] i h before here = absurd (not-suc-le-zero h)
first_refused (p ∷ ps) zero h before here = fields_met p ps here
first_refused (p ∷ ps) (suc i) h before here =
    fields_none p ps (before zero (omega arith)) ∙ first_refused ps i (le_of_suc-le-suc h) (λ j k. before (suc j) (omega arith)) here
