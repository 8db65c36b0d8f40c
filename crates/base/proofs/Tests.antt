-- What the branches of a function tell, as rules for `search`: `search tests` closes most returns of a chain of tests. Assumes nothing.
use mathlib.Core.Path.{◌≡◌, refl, sym, ◌∙◌}
use mathlib.Core.Bool.{Bool, true, false, not, ◌&&◌, ◌||◌}
use borrow.Author.Rules.{rules}
use borrow.Author.Tests.{le-leb, lt-leb, lt-ltb, le-ltb, eq-eqb, ne_eqb}
use Rattle.base.proofs.Choice.{if_true, if_false, never}

pub not_true : (t : Bool) → t ≡ false → not t ≡ true
not_true t e = rw e

pub not_false : (t : Bool) → t ≡ true → not t ≡ false
not_false t e = rw e

pub and_true : (a b : Bool) → a ≡ true → b ≡ true → (a && b) ≡ true
and_true a b p q = rw (p, q)

pub and_first : (a b : Bool) → a ≡ false → (a && b) ≡ false
and_first a b p = rw p

pub and_second : (a b : Bool) → a ≡ true → b ≡ false → (a && b) ≡ false
and_second a b p q = rw (p, q)

pub or_both : (a b : Bool) → (a || b) ≡ false → (a ≡ false) × (b ≡ false)
or_both true b e = absurd (never refl e)
or_both false b e = (refl, e)

pub or_false : (a b : Bool) → a ≡ false → b ≡ false → (a || b) ≡ false
or_false a b p q = rw (p, q)

pub or_first : (a b : Bool) → a ≡ true → (a || b) ≡ true
or_first a b p = rw p

pub or_second : (a b : Bool) → a ≡ false → b ≡ true → (a || b) ≡ true
or_second a b p q = rw (p, q)

-- a call's result, known to be what its definition gives, was tested
pub told_true : (r x : Bool) → r ≡ x → r ≡ true → x ≡ true
told_true r x e h = sym e ∙ h

pub told_false : (r x : Bool) → r ≡ x → r ≡ false → x ≡ false
told_false r x e h = sym e ∙ h

pub told_not : {r x b : Bool} → r ≡ x → not r ≡ b → not x ≡ b
told_not e h = rw e at h

pub told_not_true : (r x : Bool) → r ≡ x → not r ≡ false → x ≡ true
told_not_true true x e h = sym e
told_not_true false x e h = absurd (never refl h)

pub told_not_false : (r x : Bool) → r ≡ x → not r ≡ true → x ≡ false
told_not_false true x e h = absurd (never h refl)
told_not_false false x e h = sym e

pub ruleset told = (told_true, told_false, told_not_true, told_not_false)

pub ruleset joined = (and_true, and_first, and_second, or_false, or_first, or_second)

pub ruleset tests = (rules, if_true, if_false, not_true, not_false, le-leb, lt-leb, lt-ltb, le-ltb, eq-eqb, ne_eqb)
