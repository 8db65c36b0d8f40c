-- Laws of decimal digits. Assumes nothing.
use Prim.Native.Nat.{ℕ, ◌+◌, ◌*◌, ◌-◌}
use mathlib.Core.Path.{◌≡◌, refl}
use mathlib.Core.List.{List, [], ◌∷◌, ◌++◌}
use Rattle.text.specs.Decimal.{decimal_from}

-- one digit more
pub decimal_more : (made : ℕ) (ds : List ℕ) (d : ℕ) → decimal_from made (ds ++ d ∷ []) ≡ decimal_from made ds * 10 + (d - 48)
unfolding decimal_from
decimal_more made [] d = refl
decimal_more made (x ∷ ds) d = decimal_more (made * 10 + (x - 48)) ds d
