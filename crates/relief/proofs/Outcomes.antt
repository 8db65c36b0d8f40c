-- The laws of outcomes: what is left out is worth nothing, and has its ground by its number. Assumes nothing.
use Rattle.std.proofs.Common.{if◌then◌else◌}
use Prim.Native.Nat.{ℕ, ◌≤◌}
use mathlib.Core.Path.{◌≡◌, refl}
use mathlib.Core.Bool.{Bool, true, false}
use mathlib.Core.List.{List}
use mathlib.Core.Logic.{◌⊎◌, inl, inr, ⊎_elim}
use native.Mathlib.Omega.{arith}
use lib.Dec.{eqb}
use Rattle.base.specs.FirstMet.{Test, first_met, NoneMet}
use Rattle.base.proofs.Choice.{never}
use Rattle.base.proofs.FirstMet.{EachGives, none_met, first_holds, gives_more}
use Rattle.valuation.specs.Valuation.{no_valuation}
use Rattle.valuation.specs.declared.protection.Valuation.{Valuation}
use Rattle.relief.specs.declared.outcome.Outcome.TheVariants.{Valued, LeftOut}
use Rattle.relief.specs.Grounds.{ground_number, ground_with}
use Rattle.relief.specs.ByNumber.{place_of, place_with}
use Rattle.relief.specs.Outcomes.{outcome_valuation, outcome_value, outcome_ground, outcome_left_out, outcome_for}

-- the computed cases are checked before the laws

-- the ground with this number has this number
abbrev pub Known : ℕ → Type 0
Known ground' = ground_number (ground_with ground') ≡ ground'

-- an outcome by the paper's numbers, where its ground is 0 or a ground's number
pub place_for : (ground' amount : ℕ) (v : Valuation) → (eqb ground' 0 ≡ false → Known ground') → place_of (outcome_for ground' amount v) ≡ place_with ground' amount v
unfolding outcome_for outcome_ground outcome_valuation outcome_left_out place_with
place_for ground' amount v = go (eqb ground' 0)
  where
    go : (b : Bool) → (b ≡ false → Known ground') →
        place_of (if b then Valued v else LeftOut (ground_with ground') amount)
        ≡ (if b then record { ground' = 0; valuation = v; left_out = 0 } else record { ground' = ground'; valuation = no_valuation; left_out = amount })
    go true known = refl
    go false known = λ i. record { ground' = known refl i; valuation = no_valuation; left_out = amount }

-- every test is a ground for leaving the item out, and has its number
pub record LeaveOut (a : ℕ) (v : Valuation) (ts : List (Test ℕ)) : Type 0 where
  pub worthless : EachGives (λ n. outcome_value (outcome_for n a v) ≡ 0) ts
  pub known : EachGives Known ts

module _ (a : ℕ) (v : Valuation) (ts : List (Test ℕ)) where
  -- the place that its tests give
  pub place_given : LeaveOut a v ts → place_of (outcome_for (first_met ts) a v) ≡ place_with (first_met ts) a v
  place_given out =
      place_for (first_met ts) a v
      (first_holds 0 (λ n. eqb n 0 ≡ false → Known n) ts (gives_more (λ n k e. k) ts out.known) (λ none e. absurd (never refl e)))

  -- the item's value where no ground is met
  pub value_recognised : NoneMet ts → outcome_value (outcome_for (first_met ts) a v) ≡ v.value
  unfolding outcome_for outcome_valuation
  value_recognised n = rw (none_met ts n)

  -- and 0 where one is
  pub value_or_none : LeaveOut a v ts → (outcome_value (outcome_for (first_met ts) a v) ≡ 0) ⊎ NoneMet ts
  value_or_none out =
      first_holds 0 (λ n. (outcome_value (outcome_for n a v) ≡ 0) ⊎ NoneMet ts) ts (gives_more (λ n z. inl z) ts out.worthless) (λ n. inr n)

  -- no more than a bound of the value
  pub value_bound : (bound : ℕ) → LeaveOut a v ts → v.value ≤ bound → outcome_value (outcome_for (first_met ts) a v) ≤ bound
  value_bound bound out h = ⊎_elim (λ z. omega (arith, z)) (λ n. omega (arith, value_recognised n)) (value_or_none out)
