-- Signed numbers, computed. Assumes nothing.
use mathlib.Core.Path.{◌≡◌, refl}
use mathlib.Core.List.{[], ◌∷◌, map}
use lib.IntN.{pos, negsuc, nat_abs}
use Rattle.base.specs.Rounding.{round_up}
use Rattle.signed.specs.Signed.{◌less◌, at_least_zero, ceiling}

-- `negsuc n` is - (n + 1)
differences : (5 less 3) ∷ (3 less 3) ∷ (3 less 5) ∷ [] ≡ pos 2 ∷ pos 0 ∷ negsuc 1 ∷ []
unfolding ◌less◌
differences = refl

-- rounded up: to the next whole number above zero, to the one before it below; a whole number is itself
pub rounded :
    map (λ x. ceiling x 10) (pos 0 ∷ pos 1 ∷ pos 10 ∷ pos 11 ∷ negsuc 0 ∷ negsuc 8 ∷ negsuc 9 ∷ negsuc 10 ∷ [])
    ≡ pos 0 ∷ pos 1 ∷ pos 1 ∷ pos 2 ∷ pos 0 ∷ pos 0 ∷ negsuc 0 ∷ negsuc 0 ∷ []
unfolding ceiling round_up
rounded = refl

not_below_zero : map at_least_zero (pos 7 ∷ pos 0 ∷ negsuc 0 ∷ negsuc 6 ∷ []) ≡ 7 ∷ 0 ∷ 0 ∷ 0 ∷ []
unfolding at_least_zero
not_below_zero = refl

absolute_values : map nat_abs (pos 7 ∷ pos 0 ∷ negsuc 6 ∷ []) ≡ 7 ∷ 0 ∷ 7 ∷ []
absolute_values = refl
