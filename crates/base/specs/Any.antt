-- Whether an element of a list passes a test, and whether two of them do.
use Rattle.std.specs.Prelude.{Bool, false, ◌||◌, List, [], ◌∷◌}

unfoldable pub any : {A : Type 0} → List A → (A → Bool) → Bool
any [] test = false
any (x ∷ xs) test = test x || any xs test

-- two of them, one before the other
unfoldable pub any_two : {A : Type 0} → List A → (A → A → Bool) → Bool
any_two [] test = false
any_two (x ∷ xs) test = any xs (test x) || any_two xs test
