-- What is said of a list of line numbers, and of a book that needs no repair. 02: L14
use Rattle.std.specs.Prelude.{ℕ, suc, ◌≡◌, Bool, false, ◌&&◌, ◌||◌, List, [], ◌∷◌, eqb, get_or}

-- whether a number is in a list
abbrev pub listed : ℕ → List ℕ → Bool
listed k [] = false
listed k (x ∷ xs) = eqb k x || listed k xs

-- "A book with neither": no place of it holds a space, and none a carriage return with a line feed right behind it; past the end every place
-- reads as 0
pub record Neither (text : List ℕ) : Type 0 where
  pub no_space : (i : ℕ) → eqb (get_or text i 0) 32 ≡ false
  pub no_return : (i : ℕ) → (eqb (get_or text i 0) 13 && eqb (get_or text (suc i) 0) 10) ≡ false
