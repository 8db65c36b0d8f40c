-- The lent positions of an accepted set are an accepted set. Assumes nothing.
use Prim.Native.Nat.{ℕ, ◌+◌, ◌≤◌}
use mathlib.Core.Path.{◌≡◌, refl}
use mathlib.Core.Bool.{Bool, false}
use mathlib.Core.List.{List, [], ◌∷◌}
use native.Mathlib.Nat.{le_trans}
use native.Mathlib.Omega.{arith}
use lib.ListN.{length, length-take}
use Rattle.base.specs.Any.{any, any_two}
use Rattle.base.specs.Each.{Each}
use Rattle.base.specs.Sum.{sum_of}
use Rattle.base.proofs.Choice.{either}
use Rattle.base.proofs.Tests.{or_both, or_false}
use Rattle.netting.specs.Positions.{amount_of, is_lent, position_refusal}
use Rattle.netting.specs.Refusals.{disagree, received_not_eligible, set_refusal}
use Rattle.netting.specs.Reply.{positions_of}
use Rattle.netting.specs.declared.position.Position.{Position}
use Rattle.netting.specs.declared.set.NettingSet.{NettingSet}
use Rattle.netting.specs.declared.terms.SetTerms.{SetTerms}
use Rattle.netting.proofs.Refusing.{PlainSet, each_fields, fields_each, plain_set, set_plain}
use Rattle.netting_laws.specs.Betterments.{lent_only}

-- what holds of each position holds of each lent one
lent_each : (P : Position → Type 0) (ps : List Position) → Each P ps → Each P (lent_only ps)
unfolding lent_only
lent_each P [] h = tt
lent_each P (p ∷ ps) h = either (Each P) (is_lent p) {a = p ∷ lent_only ps} {b = lent_only ps} (λ e. (h.0, lent_each P ps h.1)) (λ e. lent_each P ps h.1)

lent_any : (test : Position → Bool) (ps : List Position) → any ps test ≡ false → any (lent_only ps) test ≡ false
unfolding lent_only any
lent_any test [] e = refl
lent_any test (p ∷ ps) e =
    let b = or_both (test p) (any ps test) e in
    either (λ qs. any qs test ≡ false) (is_lent p) (λ t. or_false _ _ b.0 (lent_any test ps b.1)) (λ t. lent_any test ps b.1)

lent_two : (test : Position → Position → Bool) (ps : List Position) → any_two ps test ≡ false → any_two (lent_only ps) test ≡ false
unfolding lent_only any_two
lent_two test [] e = refl
lent_two test (p ∷ ps) e =
    let b = or_both (any ps (test p)) (any_two ps test) e in
    either (λ qs. any_two qs test ≡ false) (is_lent p) (λ t. or_false _ _ (lent_any (test p) ps b.0) (lent_two test ps b.1)) (λ t. lent_two test ps b.1)

-- no more of them, and no larger a sum
lent_sum : (f : Position → ℕ) (ps : List Position) → sum_of f (lent_only ps) ≤ sum_of f ps
unfolding lent_only sum_of
lent_sum f [] = omega arith
lent_sum f (p ∷ ps) = either (λ qs. sum_of f qs ≤ f p + sum_of f ps) (is_lent p) (λ t. omega (arith, lent_sum f ps)) (λ t. omega (arith, lent_sum f ps))

pub lent_length : (ps : List Position) → length (lent_only ps) ≤ length ps
unfolding lent_only
lent_length [] = omega arith
lent_length (p ∷ ps) = either (λ qs. length qs ≤ length (p ∷ ps)) (is_lent p) {a = p ∷ lent_only ps} {b = lent_only ps} (λ t. omega (arith, lent_length ps)) (λ t. omega (arith, lent_length ps))

pub lent_plain : (t : SetTerms) (n m : ℕ) (ps : List Position) → m ≤ 32 → PlainSet t n ps → PlainSet t m (lent_only ps)
lent_plain t n m ps h s =
    record {
      terms = s.terms;
      count = h;
      fields = each_fields (lent_only ps) (lent_each (λ p. position_refusal p ≡ 0) ps (fields_each ps s.fields));
      agree = lent_two disagree ps s.agree;
      eligible = lent_any received_not_eligible ps s.eligible;
      amounts = le_trans (lent_sum amount_of ps) s.amounts;
    }

-- so the set with its lent positions alone is not refused
pub lent_accepted : (s : NettingSet) → set_refusal s.terms s.count (positions_of s) ≡ 0 →
    set_refusal s.terms (length (lent_only (positions_of s))) (lent_only (positions_of s)) ≡ 0
lent_accepted s e =
    let plain = plain_set s.terms s.count (positions_of s) e in
    let short : length (lent_only (positions_of s)) ≤ 32 = omega (arith, lent_length (positions_of s), length-take s.count s.positions, plain.count) in
    set_plain s.terms _ (lent_only (positions_of s)) (lent_plain s.terms s.count _ (positions_of s) short plain)
