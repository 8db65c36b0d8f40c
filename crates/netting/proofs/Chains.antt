-- What iterators give, in the words of the definitions. Assumes nothing.
use Rattle.std.proofs.Common.{◌≡◌, ℕ, Bool, true, false, ◌||◌, List, [], ◌∷◌, length, refl, sym, ap, arith}
use Rattle.std.specs.List.{list_any, sum_by}
use Rattle.std.proofs.lemmas.List.Recursion.{is_sum_by}
use Rattle.base.specs.Any.{any, any_two}
use Rattle.base.specs.Sum.{sum_of}

pub any_is : {A : Type 0} (p : A → Bool) (xs : List A) → list_any p xs ≡ any xs p
unfolding any
any_is p [] = refl
any_is p (x ∷ xs) = ap (λ t. p x || t) (any_is p xs)

pub sum_is : {A : Type 0} (f : A → ℕ) (xs : List A) → sum_by f xs ≡ sum_of f xs
unfolding sum_of
sum_is f xs = sym (is_sum_by (sum_of f) f refl (λ _ _. refl) xs)

-- the first of some, and the later ones
module _ {A : Type 0} (test : A → A → Bool) (xs : List A) (x : A) (rest : List A) (e : xs ≡ x ∷ rest) where
  pub two_here : any rest (test x) ≡ true → any_two xs test ≡ true
  unfolding any_two
  two_here t = rw (e, t) refl

  pub two_later : any rest (test x) ≡ false → any_two xs test ≡ any_two rest test
  unfolding any_two
  two_later t = rw (e, t) refl

pub two_none : {A : Type 0} (test : A → A → Bool) (xs : List A) → length xs ≡ 0 → any_two xs test ≡ false
unfolding any_two
two_none test [] e = refl
two_none test (x ∷ xs) e = absurd (omega arith)
