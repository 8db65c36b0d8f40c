-- The laws of tests in order, and of numbered ones. Assumes nothing.
use Prim.Native.Nat.{ℕ}
use mathlib.Core.Path.{◌≡◌, refl, sym, ◌∙◌}
use mathlib.Core.Bool.{Bool, true, false, not, ◌&&◌}
use mathlib.Core.List.{List, [], ◌∷◌, ◌++◌}
use lib.Dec.{eqb}
use borrow.Author.Tests.{eqb-true, eq-eqb}
use Rattle.base.specs.FirstMet.{Test, ◌when◌, first_or, first_met, NoneMet, Here, FirstIs, Exact}
use Rattle.base.proofs.Choice.{never, either, if_true, if_false}
use Rattle.base.proofs.Every.{both}
use Rattle.base.proofs.Tests.{and_true}

-- whatever a test gives has this property
abbrev pub EachGives : {A : Type 0} → (A → Type 0) → List (Test A) → Type 0
EachGives P [] = Unit {0}
EachGives P ((given when met) ∷ ts) = P given × EachGives P ts

pub gives_more : {A : Type 0} {P Q : A → Type 0} → ((a : A) → P a → Q a) → (ts : List (Test A)) → EachGives P ts → EachGives Q ts
gives_more f [] h = tt
gives_more f ((given when met) ∷ ts) h = (f given h.0, gives_more f ts h.1)

-- no test has this number
abbrev absent : ℕ → List (Test ℕ) → Bool
absent k [] = true
absent k ((n when met) ∷ ts) = not (eqb k n) && absent k ts

-- the numbers differ, and none is 0
abbrev pub distinct : List (Test ℕ) → Bool
distinct [] = true
distinct ((n when met) ∷ ts) = not (eqb n 0) && (absent n ts && distinct ts)

-- none has the number 0
abbrev pub nonzero : List (Test ℕ) → Bool
nonzero [] = true
nonzero ((n when met) ∷ ts) = not (eqb n 0) && nonzero ts

unequal : (t : Bool) → not t ≡ true → t ≡ false
unequal true e = absurd (never e refl)
unequal false e = refl

-- for code that makes the tests one by one
module _ {A : Type 0} (none : A) where
  pub first_given : (given : A) (met : Bool) (ts : List (Test A)) → met ≡ true → first_or none ((given when met) ∷ ts) ≡ given
  unfolding first_or
  first_given given met ts e = if_true met given (first_or none ts) e

  pub first_later : (given : A) (met : Bool) (ts : List (Test A)) → met ≡ false → first_or none ((given when met) ∷ ts) ≡ first_or none ts
  unfolding first_or
  first_later given met ts e = if_false met given (first_or none ts) e

  pub none_given : (ts : List (Test A)) → NoneMet ts → first_or none ts ≡ none
  unfolding first_or
  none_given [] h = refl
  none_given ((given when met) ∷ ts) h = if_false met given (first_or none ts) h.0 ∙ none_given ts h.1

  -- what holds of all that may be given, and of the other where no test is met, holds of the one given
  pub first_holds : (P : A → Type 0) (ts : List (Test A)) → EachGives P ts → (NoneMet ts → P none) → P (first_or none ts)
  unfolding first_or
  first_holds P [] each n = n tt
  first_holds P ((given when met) ∷ ts) each n =
      either P met (λ e. each.0) (λ e. first_holds P ts each.1 (λ later. n (e, later)))

pub met_first : (n : ℕ) (met : Bool) (ts : List (Test ℕ)) → met ≡ true → first_met ((n when met) ∷ ts) ≡ n
met_first n met ts e = first_given 0 n met ts e

pub not_met : (n : ℕ) (met : Bool) (ts : List (Test ℕ)) → met ≡ false → first_met ((n when met) ∷ ts) ≡ first_met ts
not_met n met ts e = first_later 0 n met ts e

-- exactly then is the number given: the one way
pub first_is : (k : ℕ) (ts : List (Test ℕ)) → FirstIs k ts → first_met ts ≡ k
unfolding first_or
first_is k [] h = absurd h
first_is k ((n when met) ∷ ts) h = go (eqb k n) refl h (first_is k ts)
  where
    go : (b : Bool) → eqb k n ≡ b → Here b met (FirstIs k ts) → (FirstIs k ts → first_met ts ≡ k) → first_met ((n when met) ∷ ts) ≡ k
    go true e h later = rw h (sym (eqb-true k n e))
    go false e h later = rw h.0 (later h.1)

missing : (k : ℕ) (ts : List (Test ℕ)) → eqb k 0 ≡ false → absent k ts ≡ true → first_met ts ≡ k → ⊥
unfolding first_or
missing k [] z a e = never (eq-eqb k 0 (sym e)) z
missing k ((n when true) ∷ ts) z a e = never (eq-eqb k n (sym e)) (unequal (eqb k n) (both (not (eqb k n)) _ a).0)
missing k ((n when false) ∷ ts) z a e = missing k ts z (both (not (eqb k n)) _ a).1 e

-- and the other
pub first_exactly : (k : ℕ) (ts : List (Test ℕ)) → eqb k 0 ≡ false → distinct ts ≡ true → first_met ts ≡ k → FirstIs k ts
unfolding first_or
first_exactly k [] z d e = never (eq-eqb k 0 (sym e)) z
first_exactly k ((n when true) ∷ ts) z d e = rw (eq-eqb k n (sym e)) refl
first_exactly k ((n when false) ∷ ts) z d e =
    let later = both (absent n ts) (distinct ts) (both (not (eqb n 0)) _ d).1 in
    go (eqb k n) refl later.0 (first_exactly k ts z later.1 e)
  where
    go : (b : Bool) → eqb k n ≡ b → absent n ts ≡ true → FirstIs k ts → Here b false (FirstIs k ts)
    go true q a later = absurd (missing k ts z (rw (eqb-true k n q) a) e)
    go false q a later = (refl, later)

-- 0 is given exactly where no test is met
pub none_met : (ts : List (Test ℕ)) → NoneMet ts → first_met ts ≡ 0
none_met ts h = none_given 0 ts h

pub none_of : (ts : List (Test ℕ)) → nonzero ts ≡ true → first_met ts ≡ 0 → NoneMet ts
unfolding first_or
none_of [] d e = tt
none_of ((n when true) ∷ ts) d e = absurd (never (eq-eqb n 0 e) (unequal (eqb n 0) (both (not (eqb n 0)) _ d).0))
none_of ((n when false) ∷ ts) d e = (refl, none_of ts (both (not (eqb n 0)) _ d).1 e)

distinct_nonzero : (ts : List (Test ℕ)) → distinct ts ≡ true → nonzero ts ≡ true
distinct_nonzero [] d = refl
distinct_nonzero ((n when met) ∷ ts) d =
    let b = both (not (eqb n 0)) _ d in
    and_true _ _ b.0 (distinct_nonzero ts (both (absent n ts) _ b.1).1)

pub none_exactly : (ts : List (Test ℕ)) → distinct ts ≡ true → first_met ts ≡ 0 → NoneMet ts
none_exactly ts d e = none_of ts (distinct_nonzero ts d) e

pub exact : (ts : List (Test ℕ)) → distinct ts ≡ true → Exact ts
exact ts d = (λ k z. (first_exactly k ts z d, first_is k ts), none_exactly ts d, none_met ts)

-- TESTS BEHIND OTHERS

pub none_append : (ts us : List (Test ℕ)) → NoneMet (ts ++ us) → NoneMet ts × NoneMet us
none_append [] us h = (tt, h)
none_append ((n when met) ∷ ts) us h = let later = none_append ts us h.1 in ((h.0, later.0), later.1)

pub nonzero_append : (ts us : List (Test ℕ)) → nonzero ts ≡ true → nonzero us ≡ true → nonzero (ts ++ us) ≡ true
nonzero_append [] us h k = k
nonzero_append ((n when met) ∷ ts) us h k = let b = both (not (eqb n 0)) _ h in and_true _ _ b.0 (nonzero_append ts us b.1 k)

-- where one of the first is met, it decides; where none is, the others do
pub append_met : (ts us : List (Test ℕ)) → eqb (first_met ts) 0 ≡ false → first_met (ts ++ us) ≡ first_met ts
unfolding first_or
append_met [] us e = absurd (never refl e)
append_met ((n when true) ∷ ts) us e = refl
append_met ((n when false) ∷ ts) us e = append_met ts us e

pub append_none : (ts us : List (Test ℕ)) → nonzero ts ≡ true → first_met ts ≡ 0 → first_met (ts ++ us) ≡ first_met us
append_none ts us d e = go ts (none_of ts d e)
  where
    go : (ts : List (Test ℕ)) → NoneMet ts → first_met (ts ++ us) ≡ first_met us
    go [] h = refl
    go ((n when met) ∷ ts) h = not_met n met (ts ++ us) h.0 ∙ go ts h.1
