-- Sums that count each number once.
use Rattle.std.specs.Prelude.{ℕ, ◌+◌, Bool, List, [], ◌∷◌, eqb, if◌then◌else◌}
use Rattle.base.specs.Any.{any}

-- whether an element has this number
abbrev pub occurs : {A : Type 0} → (A → ℕ) → ℕ → List A → Bool
occurs number k xs = any xs (λ x. eqb (number x) k)

-- a figure summed once for each number: an element counts where no later one has its number (`once_numbers`: it is the sum over all numbers)
unfoldable pub sum_once : {A : Type 0} → (A → ℕ) → (A → ℕ) → List A → ℕ
sum_once number figure [] = 0
sum_once number figure (x ∷ xs) = (if occurs number (number x) xs then 0 else figure x) + sum_once number figure xs
