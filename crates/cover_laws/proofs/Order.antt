-- The portions are those of one pass over the pieces in rising order of weight, equal weights in order of adding. Assumes nothing.
use Rattle.std.proofs.Common.{if◌then◌else◌}
use Prim.Native.Nat.{ℕ, suc, ◌+◌, ◌-◌, ◌≤◌, min}
use mathlib.Core.Path.{◌≡◌, refl, sym, ◌∙◌, ap, ap₂}
use mathlib.Core.Bool.{Bool, true, false}
use mathlib.Core.List.{List, [], ◌∷◌, ◌++◌}
use mathlib.Core.Logic.{◌≢◌}
use native.Mathlib.Nat.{sub-zero}
use native.Mathlib.Decide.{ℕ_discrete}
use native.Mathlib.Omega.{arith}
use lib.Dec.{leb, eqb}
use borrow.Author.Tests.{leb-true, leb-false, eq-eqb, ne_eqb}
use Rattle.base.specs.Sum.{sum_of}
use Rattle.base.proofs.Choice.{if_true, if_false}
use Rattle.cover.specs.Cover.{lower_weighted, before, portion, covered_after, covered}
use Rattle.base.specs.Each.{Each}
use Rattle.cover_laws.specs.Sorted.{insert, sort, Rising, of_weight, pass}
use Rattle.cover.specs.declared.protection.Protection.{Protection}
use Rattle.cover.proofs.Levels.{lower_weighted_in, lower_weighted_out, lower_weighted_next, equal_out, before_none, before_next}
use Rattle.cover.proofs.Portions.{piece}

-- ---- the sort puts the weights in rising order, keeps the order of each weight, and so every sum
each_insert : (P : Protection → Type 0) (p : Protection) (qs : List Protection) → P p → Each P qs → Each P (insert p qs)
unfolding insert
each_insert P p [] h a = (h, tt)
each_insert P p (q ∷ qs) h a = go (each_insert P p qs h a.1) (leb p.weight q.weight)
  where
    go : Each P (insert p qs) → (b : Bool) → Each P (if b then p ∷ q ∷ qs else q ∷ insert p qs)
    go later true = (h, a)
    go later false = (a.0, later)

each_heavier : (v w : ℕ) (ps : List Protection) → v ≤ w → Each (λ p. w ≤ p.weight) ps → Each (λ p. v ≤ p.weight) ps
each_heavier v w [] h a = tt
each_heavier v w (p ∷ ps) h a = (omega (arith, a.0), each_heavier v w ps h a.1)

rising_insert : (p : Protection) (qs : List Protection) → Rising qs → Rising (insert p qs)
unfolding Rising insert
rising_insert p [] r = (tt, tt)
rising_insert p (q ∷ qs) r = go (rising_insert p qs r.1) (leb p.weight q.weight) refl
  where
    go : Rising (insert p qs) → (b : Bool) → leb p.weight q.weight ≡ b → Rising (if b then p ∷ q ∷ qs else q ∷ insert p qs)
    go later true e = let h = leb-true p.weight q.weight e in ((h, each_heavier _ _ qs h r.0), r)
    go later false e =
        let h = leb-false p.weight q.weight e in
        (each_insert (λ x. q.weight ≤ x.weight) p qs (omega arith) r.0, later)

pub rising_sort : (ps : List Protection) → Rising (sort ps)
unfolding Rising sort
rising_sort [] = tt
rising_sort (p ∷ ps) = rising_insert p (sort ps) (rising_sort ps)

weight_in : (w : ℕ) (p : Protection) (ps : List Protection) → p.weight ≡ w → of_weight w (p ∷ ps) ≡ p ∷ of_weight w ps
unfolding of_weight
weight_in w p ps e = if_true (eqb p.weight w) (p ∷ of_weight w ps) (of_weight w ps) (eq-eqb p.weight w e)

weight_out : (w : ℕ) (p : Protection) (ps : List Protection) → p.weight ≢ w → of_weight w (p ∷ ps) ≡ of_weight w ps
unfolding of_weight
weight_out w p ps n = if_false (eqb p.weight w) (p ∷ of_weight w ps) (of_weight w ps) (ne_eqb p.weight w n)

weight_cons : (w : ℕ) (p : Protection) (ps qs : List Protection) → of_weight w ps ≡ of_weight w qs → of_weight w (p ∷ ps) ≡ of_weight w (p ∷ qs)
unfolding of_weight
weight_cons w p ps qs e = rw e

-- pieces of two weights may change places
weight_swap : (w : ℕ) (p q : Protection) (ps : List Protection) → p.weight ≢ q.weight → of_weight w (q ∷ p ∷ ps) ≡ of_weight w (p ∷ q ∷ ps)
weight_swap w p q ps n = go (ℕ_discrete p.weight w)
  where
    go : Dec (p.weight ≡ w) → of_weight w (q ∷ p ∷ ps) ≡ of_weight w (p ∷ q ∷ ps)
    go (yes e) =
        let m : q.weight ≢ w = λ k. n (e ∙ sym k) in
        weight_out w q (p ∷ ps) m ∙ weight_in w p ps e ∙ sym (weight_in w p (q ∷ ps) e ∙ ap (λ (l : List Protection). p ∷ l) (weight_out w q ps m))
    go (no m) = weight_cons w q (p ∷ ps) ps (weight_out w p ps m) ∙ sym (weight_out w p (q ∷ ps) m)

insert_keeps : (w : ℕ) (p : Protection) (qs : List Protection) → of_weight w (insert p qs) ≡ of_weight w (p ∷ qs)
unfolding insert
insert_keeps w p [] = refl
insert_keeps w p (q ∷ qs) = go (insert_keeps w p qs) (leb p.weight q.weight) refl
  where
    go : of_weight w (insert p qs) ≡ of_weight w (p ∷ qs) → (b : Bool) → leb p.weight q.weight ≡ b →
        of_weight w (if b then p ∷ q ∷ qs else q ∷ insert p qs) ≡ of_weight w (p ∷ q ∷ qs)
    go later true e = refl
    go later false e =
        let h = leb-false p.weight q.weight e in
        weight_cons w q (insert p qs) (p ∷ qs) later ∙ weight_swap w p q qs (λ k. omega arith)

pub sort_keeps : (w : ℕ) (ps : List Protection) → of_weight w (sort ps) ≡ of_weight w ps
unfolding sort
sort_keeps w [] = refl
sort_keeps w (p ∷ ps) = insert_keeps w p (sort ps) ∙ weight_cons w p (sort ps) ps (sort_keeps w ps)

sum_insert : (f : Protection → ℕ) (p : Protection) (qs : List Protection) → sum_of f (insert p qs) ≡ f p + sum_of f qs
unfolding sum_of insert
sum_insert f p [] = refl
sum_insert f p (q ∷ qs) = go (sum_insert f p qs) (leb p.weight q.weight)
  where
    go : sum_of f (insert p qs) ≡ f p + sum_of f qs → (b : Bool) → sum_of f (if b then p ∷ q ∷ qs else q ∷ insert p qs) ≡ f p + (f q + sum_of f qs)
    go later true = refl
    go later false = omega arith

pub sum_sort : (f : Protection → ℕ) (ps : List Protection) → sum_of f (sort ps) ≡ sum_of f ps
unfolding sum_of sort
sum_sort f [] = refl
sum_sort f (p ∷ ps) = omega (arith, sum_insert f p (sort ps), sum_sort f ps)

none_lower_weighted : (w : ℕ) (ps : List Protection) → Each (λ p. w ≤ p.weight) ps → sum_of (lower_weighted w) ps ≡ 0
unfolding sum_of
none_lower_weighted w [] a = refl
none_lower_weighted w (p ∷ ps) a = omega (arith, none_lower_weighted w ps a.1, lower_weighted_out w p a.0)

from_zero : (ps : List Protection) → Each (λ p. 0 ≤ p.weight) ps
from_zero [] = tt
from_zero (p ∷ ps) = (omega arith, from_zero ps)

-- ---- to sort before covering or after it is the same
module _ (E : ℕ) (all : List Protection) where
  -- of the earlier pieces only the sums by weight count
  same_earlier : (before₁ before₂ ps : List Protection) → ((w : ℕ) → before w all before₁ ≡ before w all before₂) →
      covered_after E all before₁ ps ≡ covered_after E all before₂ ps
  unfolding covered_after portion
  same_earlier e₁ e₂ [] h = refl
  same_earlier e₁ e₂ (p ∷ ps) h =
      ap₂ {C = List Protection} ◌∷◌
      (ap {B = Protection} (λ (x : ℕ). record { value = min p.value (E - x); weight = p.weight }) (h p.weight))
      (same_earlier (e₁ ++ p ∷ []) (e₂ ++ p ∷ []) ps (λ w. omega (arith, h w, before_next w all e₁ p, before_next w all e₂ p)))

  swapped : (earlier : List Protection) (p q : Protection) (w : ℕ) →
      before w all ((earlier ++ p ∷ []) ++ q ∷ []) ≡ before w all ((earlier ++ q ∷ []) ++ p ∷ [])
  swapped earlier p q w =
      omega (
        arith,
        before_next w all earlier p,
        before_next w all earlier q,
        before_next w all (earlier ++ p ∷ []) q,
        before_next w all (earlier ++ q ∷ []) p,
      )

  -- an earlier piece of another weight does not count
  piece_past : (earlier : List Protection) (p q : Protection) → p.weight ≢ q.weight → piece E all (earlier ++ p ∷ []) q ≡ piece E all earlier q
  unfolding portion
  piece_past earlier p q n =
      let e : before q.weight all (earlier ++ p ∷ []) ≡ before q.weight all earlier =
      omega (arith, before_next q.weight all earlier p, equal_out q.weight p n) in
      ap {B = Protection} (λ (x : ℕ). record { value = min q.value (E - x); weight = q.weight }) e

  insert_covered : (earlier : List Protection) (p : Protection) (qs : List Protection) →
      insert (piece E all earlier p) (covered_after E all (earlier ++ p ∷ []) qs) ≡ covered_after E all earlier (insert p qs)
  unfolding insert covered_after
  insert_covered earlier p [] = refl
  insert_covered earlier p (q ∷ qs) =
      go (leb p.weight q.weight) refl
      (insert_covered (earlier ++ q ∷ []) p qs)
    where
      go : (b : Bool) → leb p.weight q.weight ≡ b →
          insert (piece E all (earlier ++ q ∷ []) p) (covered_after E all ((earlier ++ q ∷ []) ++ p ∷ []) qs) ≡ covered_after E all (earlier ++ q ∷ []) (insert p qs) →
          (if b then piece E all earlier p ∷ covered_after E all (earlier ++ p ∷ []) (q ∷ qs)
          else piece E all (earlier ++ p ∷ []) q ∷ insert (piece E all earlier p) (covered_after E all ((earlier ++ p ∷ []) ++ q ∷ []) qs))
          ≡ covered_after E all earlier (if b then p ∷ q ∷ qs else q ∷ insert p qs)
      go true e later = refl
      go false e later =
          let h = leb-false p.weight q.weight e in
          ap₂ {C = List Protection} ◌∷◌ (piece_past earlier p q (λ k. omega arith))
          (ap₂ insert (sym (piece_past earlier q p (λ k. omega arith))) (same_earlier _ _ qs (swapped earlier p q)) ∙ later)

  sort_covered : (earlier ps : List Protection) → sort (covered_after E all earlier ps) ≡ covered_after E all earlier (sort ps)
  unfolding sort covered_after
  sort_covered earlier [] = refl
  sort_covered earlier (p ∷ ps) = ap (insert (piece E all earlier p)) (sort_covered (earlier ++ p ∷ []) ps) ∙ insert_covered earlier p (sort ps)

  -- ---- over a rising list, cover is one pass: u is covered so far
  rising_pass : (u low : ℕ) (earlier ps : List Protection) → Each (λ p. low ≤ p.weight) ps → Rising ps →
      ((w : ℕ) → low ≤ w → before w all earlier ≡ u + sum_of (lower_weighted w) ps) → covered_after E all earlier ps ≡ pass (E - u) ps
  unfolding covered_after portion pass Rising sum_of
  rising_pass u low earlier [] a r h = refl
  rising_pass u low earlier (p ∷ ps) a r h =
      let e : before p.weight all earlier ≡ u =
      omega (arith, h p.weight a.0, lower_weighted_out p.weight p (omega arith), none_lower_weighted p.weight ps r.0) in
      let left : E - (u + p.value) ≡ E - u - p.value = omega arith in
      ap₂ {C = List Protection} ◌∷◌
      (ap {B = Protection} (λ (x : ℕ). record { value = min p.value (E - x); weight = p.weight }) e)
      (rising_pass (u + p.value) p.weight (earlier ++ p ∷ []) ps r.0 r.1
      (λ w k. omega (arith, h w (omega (arith, a.0)), before_next w all earlier p, lower_weighted_next w p, lower_weighted_in (suc w) p (omega arith))) ∙
      ap (λ x. pass x ps) left)

-- THE CHECK: the pieces as covered, sorted, are those of a pass over the pieces sorted
pub in_rising_order : (E : ℕ) (ps : List Protection) → sort (covered E ps) ≡ pass E (sort ps)
unfolding covered
in_rising_order E ps =
    sort_covered E ps [] ps ∙
    rising_pass E ps 0 0 [] (sort ps) (from_zero (sort ps)) (rising_sort ps) (λ w k. omega (arith, before_none w ps, sum_sort (lower_weighted w) ps)) ∙
    ap (λ x. pass x (sort ps)) (sub-zero E)
