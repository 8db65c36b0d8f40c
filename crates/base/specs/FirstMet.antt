-- Tests in order, of which the first one met decides. 01: The four operations, "Refusals are tested in the order written, and the
-- first one met is given"; Grounds for leaving an item out, "First that applies".
use Rattle.std.specs.Prelude.{ℕ, ◌≡◌, Bool, true, false, List, [], ◌∷◌, eqb, if◌then◌else◌}

-- what a test gives, and whether its condition is met
infix 70 ◌when◌
pub data Test (A : Type 0) : Type 0 where
  ◌when◌ : A → Bool → Test A

-- what the first test that is met gives, or else what is given where none is
unfoldable pub first_or : {A : Type 0} → A → List (Test A) → A
first_or none [] = none
first_or none ((given when met) ∷ tests) = if met then given else first_or none tests

-- of numbered tests, 0 where none is met
abbrev pub first_met : List (Test ℕ) → ℕ
first_met tests = first_or 0 tests

-- EXACTLY WHERE IT IS DUE

-- no test is met
abbrev pub NoneMet : {A : Type 0} → List (Test A) → Type 0
NoneMet [] = Unit {0}
NoneMet ((n when met) ∷ ts) = (met ≡ false) × NoneMet ts

-- a test is met, where it is the one asked for; else it is not, and what is asked of the later ones holds
abbrev pub Here : Bool → Bool → Type 0 → Type 0
Here true met later = met ≡ true
Here false met later = (met ≡ false) × later

-- the test with this number is met, and none before it
abbrev pub FirstIs : ℕ → List (Test ℕ) → Type 0
FirstIs k [] = ⊥
FirstIs k ((n when met) ∷ ts) = Here (eqb k n) met (FirstIs k ts)

-- n is the number that the tests give: one other than 0 exactly if its test is met and none before it, 0 exactly if none is met
abbrev pub ExactFor : ℕ → List (Test ℕ) → Type 0
ExactFor n ts =
    ((k : ℕ) → eqb k 0 ≡ false → (n ≡ k → FirstIs k ts) × (FirstIs k ts → n ≡ k))
    × (n ≡ 0 → NoneMet ts)
    × (NoneMet ts → n ≡ 0)

abbrev pub Exact : List (Test ℕ) → Type 0
Exact ts = ExactFor (first_met ts) ts
