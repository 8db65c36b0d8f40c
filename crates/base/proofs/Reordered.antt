-- The laws of lists in another order: what does not depend on it, and that it is what it says. Assumes nothing.
use Rattle.std.proofs.Common.{if◌then◌else◌}
use Prim.Native.Nat.{ℕ, suc, ◌+◌, ◌<◌}
use mathlib.Core.Path.{◌≡◌, refl, sym, ap, subst}
use mathlib.Core.Bool.{Bool, true, false}
use mathlib.Core.List.{List, [], ◌∷◌, ◌++◌, map}
use native.Mathlib.Omega.{arith}
use lib.ListN.{length}
use Rattle.base.specs.All.{all_pass}
use Rattle.base.specs.Reordered.{Inserted, Reordered, SameCounts, how_many}
use Rattle.base.specs.Sum.{sum_of}
use Rattle.base.proofs.Choice.{if_true}
use Rattle.base.proofs.Every.{both}
use Rattle.base.proofs.Tests.{and_true}

-- ---- one element put in
module _ {A : Type 0} {x : A} where
  pub sum_inserted : (f : A → ℕ) {xs ys : List A} → Inserted x xs ys → sum_of f ys ≡ f x + sum_of f xs
  unfolding sum_of
  sum_inserted f Inserted.here = refl
  sum_inserted f (Inserted.later i) = omega (arith, sum_inserted f i)

  pub length_inserted : {xs ys : List A} → Inserted x xs ys → length ys ≡ suc (length xs)
  length_inserted Inserted.here = refl
  length_inserted (Inserted.later i) = ap suc (length_inserted i)

  pub map_inserted : {B : Type 0} (f : A → B) {xs ys : List A} → Inserted x xs ys → Inserted (f x) (map f xs) (map f ys)
  map_inserted f Inserted.here = Inserted.here
  map_inserted f (Inserted.later i) = Inserted.later (map_inserted f i)

  pub all_inserted : (p : A → Bool) {xs ys : List A} → Inserted x xs ys → p x ≡ true → all_pass xs p ≡ true → all_pass ys p ≡ true
  all_inserted p Inserted.here e h = and_true _ _ e h
  all_inserted p (Inserted.later {y} {xs} i) e h =
      let b = both (p y) (all_pass xs p) h in and_true _ _ b.0 (all_inserted p i e b.1)

  -- and taken out again
  pub inserted_all : (p : A → Bool) {xs ys : List A} → Inserted x xs ys → all_pass ys p ≡ true → (p x ≡ true) × (all_pass xs p ≡ true)
  inserted_all p {xs} Inserted.here h = both (p x) (all_pass xs p) h
  inserted_all p (Inserted.later {y} {xs} {ys} i) h =
      let b = both (p y) (all_pass ys p) h in
      let k = inserted_all p i b.1 in
      (k.0, and_true _ _ b.0 k.1)

-- the elements before it and those behind it
pub record Between {A : Type 0} (x : A) (xs ys : List A) : Type 0 where
  pub before : List A
  pub behind : List A
  pub without : xs ≡ before ++ behind
  pub with_it : ys ≡ before ++ x ∷ behind

pub between : {A : Type 0} {x : A} {xs ys : List A} → Inserted x xs ys → Between x xs ys
between Inserted.here = record { before = []; behind = _; without = refl; with_it = refl }
between {A} (Inserted.later {y} i) =
    let b = between i in
    record { before = y ∷ b.before; behind = b.behind; without = ap (λ (l : List A). y ∷ l) b.without; with_it = ap (λ (l : List A). y ∷ l) b.with_it }

-- ---- any order
pub sum_reordered : {A : Type 0} (f : A → ℕ) {xs ys : List A} → Reordered xs ys → sum_of f xs ≡ sum_of f ys
unfolding sum_of
sum_reordered f Reordered.none = refl
sum_reordered f (Reordered.put r i) = omega (arith, sum_reordered f r, sum_inserted f i)

pub length_reordered : {A : Type 0} {xs ys : List A} → Reordered xs ys → length xs ≡ length ys
length_reordered Reordered.none = refl
length_reordered (Reordered.put r i) = omega (arith, length_reordered r, length_inserted i)

pub map_reordered : {A B : Type 0} (f : A → B) {xs ys : List A} → Reordered xs ys → Reordered (map f xs) (map f ys)
map_reordered f Reordered.none = Reordered.none
map_reordered f (Reordered.put r i) = Reordered.put (map_reordered f r) (map_inserted f i)

pub all_reordered : {A : Type 0} (p : A → Bool) {xs ys : List A} → Reordered xs ys → all_pass xs p ≡ true → all_pass ys p ≡ true
all_reordered p Reordered.none h = h
all_reordered p (Reordered.put {x} {xs} r i) h = let b = both (p x) (all_pass xs p) h in all_inserted p i b.0 (all_reordered p r b.1)

module _ {A : Type 0} where
  pub same_order : (xs : List A) → Reordered xs xs
  same_order [] = Reordered.none
  same_order (x ∷ xs) = Reordered.put (same_order xs) Inserted.here

  -- the same first element
  pub kept : {x : A} {xs ys : List A} → Reordered xs ys → Reordered (x ∷ xs) (x ∷ ys)
  kept r = Reordered.put r Inserted.here

  pub exchanged : (x y : A) (xs : List A) → Reordered (x ∷ y ∷ xs) (y ∷ x ∷ xs)
  exchanged x y xs = Reordered.put (same_order (y ∷ xs)) (Inserted.later Inserted.here)

  -- the other way
  taken_back : {x : A} {ys zs ws : List A} → Inserted x ys zs → Reordered ys ws → Reordered zs (x ∷ ws)
  taken_back Inserted.here r = kept r
  taken_back (Inserted.later i) (Reordered.put r j) = Reordered.put (taken_back i r) (Inserted.later j)

  pub backwards : {xs ys : List A} → Reordered xs ys → Reordered ys xs
  backwards Reordered.none = Reordered.none
  backwards (Reordered.put r i) = taken_back i (backwards r)

  -- ---- one order after another
  -- two elements put in one after the other, in either succession
  record PutEither (x y : A) (xs zs : List A) : Type 0 where
    without : List A
    second : Inserted y xs without
    first : Inserted x without zs

  either_first : {x y : A} {ys zs xs : List A} → Inserted x xs ys → Inserted y ys zs → PutEither x y xs zs
  either_first i Inserted.here = record { without = _; second = Inserted.here; first = Inserted.later i }
  either_first Inserted.here (Inserted.later j) = record { without = _; second = j; first = Inserted.here }
  either_first (Inserted.later i) (Inserted.later j) =
      let e = either_first i j in record { without = _; second = Inserted.later e.second; first = Inserted.later e.first }

  -- an element taken out of a list is somewhere in any order of it
  record TakenOut (x : A) (ys zs : List A) : Type 0 where
    others : List A
    order : Reordered ys others
    place : Inserted x others zs

  taken_out : {x : A} {ys xs zs : List A} → Inserted x ys xs → Reordered xs zs → TakenOut x ys zs
  taken_out Inserted.here (Reordered.put r i) = record { others = _; order = r; place = i }
  taken_out (Inserted.later i) (Reordered.put r j) =
      let t = taken_out i r in
      let e = either_first t.place j in
      record { others = _; order = Reordered.put t.order e.second; place = e.first }

  pub and_then : {xs ys zs : List A} → Reordered xs ys → Reordered ys zs → Reordered xs zs
  and_then Reordered.none s = s
  and_then (Reordered.put r i) s = let t = taken_out i s in Reordered.put (and_then r t.order) t.place

  -- ---- lists behind one another
  pub kept_front : (front : List A) {xs ys : List A} → Reordered xs ys → Reordered (front ++ xs) (front ++ ys)
  kept_front [] r = r
  kept_front (x ∷ front) r = kept (kept_front front r)

  pub inserted_behind : (x : A) (front xs : List A) → Inserted x (front ++ xs) (front ++ x ∷ xs)
  inserted_behind x [] xs = Inserted.here
  inserted_behind x (y ∷ front) xs = Inserted.later (inserted_behind x front xs)

  inserted_before : {x : A} {xs ys : List A} (behind : List A) → Inserted x xs ys → Inserted x (xs ++ behind) (ys ++ behind)
  inserted_before behind Inserted.here = Inserted.here
  inserted_before behind (Inserted.later i) = Inserted.later (inserted_before behind i)

  pub kept_behind : {xs ys : List A} (behind : List A) → Reordered xs ys → Reordered (xs ++ behind) (ys ++ behind)
  kept_behind behind Reordered.none = same_order behind
  kept_behind behind (Reordered.put r i) = Reordered.put (kept_behind behind r) (inserted_before behind i)

  -- two lists in front of a third exchanged
  fronts_exchanged : (a b xs : List A) → Reordered (a ++ (b ++ xs)) (b ++ (a ++ xs))
  fronts_exchanged [] b xs = same_order (b ++ xs)
  fronts_exchanged (x ∷ a) b xs = Reordered.put (fronts_exchanged a b xs) (inserted_behind x b (a ++ xs))

-- what the elements of a list bring, each any number of things, one behind the other
unfoldable pub brought : {A B : Type 0} → (A → List B) → List A → List B
brought f [] = []
brought f (x ∷ xs) = f x ++ brought f xs

-- in any order of the elements the same things in some order
module _ {A B : Type 0} (f : A → List B) where
  pub brought_inserted : {x : A} {xs ys : List A} → Inserted x xs ys → Reordered (f x ++ brought f xs) (brought f ys)
  unfolding brought
  brought_inserted {x} {xs} Inserted.here = same_order (f x ++ brought f xs)
  brought_inserted {x} (Inserted.later {y} {xs} i) =
      and_then (fronts_exchanged (f x) (f y) (brought f xs)) (kept_front (f y) (brought_inserted i))

  pub brought_reordered : {xs ys : List A} → Reordered xs ys → Reordered (brought f xs) (brought f ys)
  unfolding brought
  brought_reordered Reordered.none = Reordered.none
  brought_reordered (Reordered.put {x} r i) = and_then (kept_front (f x) (brought_reordered r)) (brought_inserted i)

-- ---- it is what it says: the same counts
pub same_counts : {A : Type 0} {xs ys : List A} → Reordered xs ys → SameCounts xs ys
same_counts r test = sum_reordered (λ x. if test x then 1 else 0) r

pub inserted_counts : {A : Type 0} {x : A} {xs ys : List A} → Inserted x xs ys → SameCounts (x ∷ xs) ys
unfolding sum_of
inserted_counts i test = sym (sum_inserted (λ x. if test x then 1 else 0) i)

-- and with the same counts one list is the other in some order, where a test tells elements apart
module _ {A : Type 0} (same : A → A → Bool) (itself : (x : A) → same x x ≡ true) (only : (x y : A) → same x y ≡ true → x ≡ y) where
  record Found (x : A) (xs : List A) : Type 0 where
    others : List A
    place : Inserted x others xs

  found : (x : A) (xs : List A) → 0 < how_many (same x) xs → Found x xs
  unfolding sum_of
  found x [] h = absurd (omega arith)
  found x (y ∷ ys) h = go (λ k. found x ys k) (same x y) refl h
    where
      go : (0 < how_many (same x) ys → Found x ys) → (b : Bool) → same x y ≡ b → 0 < (if b then 1 else 0) + how_many (same x) ys → Found x (y ∷ ys)
      go later true e k = record { others = ys; place = subst (λ z. Inserted x ys (z ∷ ys)) (only x y e) Inserted.here }
      go later false e k = let f = later (omega arith) in record { others = _; place = Inserted.later f.place }

  pub counts_same : (xs ys : List A) → SameCounts xs ys → Reordered xs ys
  unfolding sum_of
  counts_same [] [] h = Reordered.none
  counts_same [] (y ∷ ys) h = absurd (omega (arith, h (λ z. true)))
  counts_same (x ∷ xs) ys h =
      let f = found x ys (omega (arith, h (same x), if_true {A = ℕ} (same x x) 1 0 (itself x))) in
      Reordered.put (counts_same xs f.others (λ test. omega (arith, h test, sum_inserted (λ z. if test z then 1 else 0) f.place))) f.place
