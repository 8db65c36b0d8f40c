-- The laws of what holds of each element of a list. Assumes nothing.
use mathlib.Core.List.{List, [], ◌∷◌, ◌++◌, map}
use Rattle.base.specs.Each.{Each}

-- of a list that is mapped
pub each_map : {A B : Type 0} (P : B → Type 0) (f : A → B) → ((x : A) → P (f x)) → (xs : List A) → Each P (map f xs)
each_map P f h [] = tt
each_map P f h (x ∷ xs) = (h x, each_map P f h xs)

module _ {A : Type 0} where
  pub each_of : {P : A → Type 0} → ((x : A) → P x) → (xs : List A) → Each P xs
  each_of h [] = tt
  each_of h (x ∷ xs) = (h x, each_of h xs)

  -- what follows from it, element by element
  pub each_then : {P Q : A → Type 0} → ((x : A) → P x → Q x) → (xs : List A) → Each P xs → Each Q xs
  each_then f [] h = tt
  each_then f (x ∷ xs) h = (f x h.0, each_then f xs h.1)

  pub each_both : {P Q R : A → Type 0} → ((x : A) → P x → Q x → R x) → (xs : List A) → Each P xs → Each Q xs → Each R xs
  each_both f [] h k = tt
  each_both f (x ∷ xs) h k = (f x h.0 k.0, each_both f xs h.1 k.1)

  -- the one in the middle, and another in its place
  pub each_at : (P : A → Type 0) (xs ys : List A) (x : A) → Each P (xs ++ x ∷ ys) → P x
  each_at P [] ys x h = h.0
  each_at P (z ∷ xs) ys x h = each_at P xs ys x h.1

  pub each_replaced : (P : A → Type 0) (xs ys : List A) (x y : A) → Each P (xs ++ x ∷ ys) → P y → Each P (xs ++ y ∷ ys)
  each_replaced P [] ys x y h k = (k, h.1)
  each_replaced P (z ∷ xs) ys x y h k = (h.0, each_replaced P xs ys x y h.1 k)
