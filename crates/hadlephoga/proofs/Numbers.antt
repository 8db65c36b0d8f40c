-- The numbers of a list's elements, one behind the other, and lists into which a loop puts them. Assumes nothing.
use Prim.Native.Nat.{ℕ, zero, suc, ◌+◌, ◌*◌, ◌≤◌, ◌<◌}
use mathlib.Core.Path.{◌≡◌, refl, sym, ap, ◌∙◌}
use mathlib.Core.List.{List, [], ◌∷◌, ◌++◌, append_assoc, append-nil}
use native.Mathlib.Nat.{le_of_suc-le-suc, not-suc-le-zero, zero-add}
use native.Mathlib.Numerals.{add-one}
use native.Mathlib.Omega.{arith}
use lib.ListN.{length, take, get_or}
use lib.Seq.{take_all}
use Rattle.base.specs.Writing.{Placed, placed_at, overwrite}
use Rattle.base.proofs.Writing.{placed_none, placed_joined}
use Rattle.hadlephoga.specs.Records.{in_order}

module _ {A : Type 0} (f : A → List ℕ) where
  next : (d : A) (i : ℕ) (xs : List A) → i < length xs → in_order f (take (suc i) xs) ≡ in_order f (take i xs) ++ f (get_or xs i d)
  unfolding in_order
  next d i [] h = absurd (not-suc-le-zero h)
  next d zero (x ∷ xs) h = append-nil (f x)
  next d (suc i) (x ∷ xs) h = ap (λ (l : List ℕ). f x ++ l) (next d i xs (le_of_suc-le-suc h)) ∙ sym (append_assoc (f x) _ _)

  -- one element more
  in_order_next : (d : A) (i : ℕ) (xs : List A) → i < length xs → in_order f (take (i + 1) xs) ≡ in_order f (take i xs) ++ f (get_or xs i d)
  in_order_next d i xs h = rw add-one (next d i xs h)

  -- those of the first ones are no more than all
  in_order_part : (i : ℕ) (xs : List A) → length (in_order f (take i xs)) ≤ length (in_order f xs)
  unfolding in_order
  in_order_part zero [] = omega arith
  in_order_part (suc i) [] = omega arith
  in_order_part zero (x ∷ xs) = omega arith
  in_order_part (suc i) (x ∷ xs) = omega (arith, lib.ListN.length-append (f x) (in_order f (take i xs)), lib.ListN.length-append (f x) (in_order f xs), in_order_part i xs)

  -- so many numbers for each
  pub length_in_order : (width : ℕ) → ((x : A) → length (f x) ≡ width) → (xs : List A) → length (in_order f xs) ≡ length xs * width
  unfolding in_order
  length_in_order width each [] = omega arith
  length_in_order width each (x ∷ xs) = omega (arith, lib.ListN.length-append (f x) (in_order f xs), each x, length_in_order width each xs)

  -- the numbers of the first i elements are put, from this place on
  pub record Put (xs : List A) (before : List ℕ) (at : ℕ) (list : List ℕ) (place i : ℕ) : Type 0 where
    pub inside : i ≤ length xs
    pub same : length list ≡ length before
    pub held : Placed at (in_order f (take i xs)) before list place

  pub put_none : (xs : List A) (before : List ℕ) (at : ℕ) → Put xs before at before at 0
  unfolding in_order
  put_none xs before at = record { inside = omega arith; same = refl; held = placed_none at before }

  -- with the item that stands there
  in_order_item : (x : A) (i : ℕ) (xs : List A) → i < length xs → x ≡ get_or xs i x → in_order f (take (i + 1) xs) ≡ in_order f (take i xs) ++ f x
  in_order_item x i xs h e = in_order_next x i xs h ∙ ap (λ y. in_order f (take i xs) ++ f y) (sym e)

  -- the next item's numbers have room
  pub put_room : {xs : List A} {before : List ℕ} {at : ℕ} {list : List ℕ} {place i : ℕ} → Put xs before at list place i → (x : A) → x ≡ get_or xs i x → i < length xs →
      at + length (in_order f xs) ≤ length before → place + length (f x) ≤ length list
  put_room {xs} {i = i} p x e h room =
      omega (arith, p.same, p.held.ends, ap length (in_order_item x i xs h e), lib.ListN.length-append (in_order f (take i xs)) (f x), in_order_part (i + 1) xs, room)

  pub put_next : {xs : List A} {before : List ℕ} {at : ℕ} {list : List ℕ} {place i : ℕ} → Put xs before at list place i →
      (x : A) {after : List ℕ} {end : ℕ} → x ≡ get_or xs i x → i < length xs → at ≤ length before → length after ≡ length list →
      Placed place (f x) list after end → Put xs before at after end (i + 1)
  put_next {xs} {before} {at} {list} {place} {i} p x {after} {end} e h r s q =
      record {
        inside = omega arith;
        same = s ∙ p.same;
        held = rw (in_order_item x i xs h e) (placed_joined at _ _ before list after place end r p.held q);
      }

  pub put_all : {xs : List A} {before : List ℕ} {at : ℕ} {list : List ℕ} {place i : ℕ} → Put xs before at list place i → i ≡ length xs →
      Placed at (in_order f xs) before list place
  put_all {xs = xs} {i = i} p e =
      let all : take i xs ≡ xs = take_all i xs (omega (arith, e)) in
      rw all at p.held

-- plain numbers
abbrev pub single : ℕ → List ℕ
single n = n ∷ []

pub in_order_single : (ns : List ℕ) → in_order single ns ≡ ns
unfolding in_order
in_order_single [] = refl
in_order_single (n ∷ ns) = ap (λ (l : List ℕ). n ∷ l) (in_order_single ns)

-- numbers from the front of a list are written over it
pub over : (text before after : List ℕ) (end : ℕ) → Placed 0 text before after end → after ≡ overwrite text before
unfolding placed_at
over text before after end p = p.holds ∙ rw zero-add

-- five parts one behind the other, as a report and a record have
pub five_parts :
    {a b c d e l₀ l₁ l₂ l₃ l₄ l₅ : List ℕ} {p₁ p₂ p₃ p₄ p₅ : ℕ} → Placed 0 a l₀ l₁ p₁ → Placed p₁ b l₁ l₂ p₂ → Placed p₂ c l₂ l₃ p₃ →
    Placed p₃ d l₃ l₄ p₄ → Placed p₄ e l₄ l₅ p₅ → l₅ ≡ overwrite (a ++ b ++ c ++ d ++ e) l₀
five_parts {l₀ = l₀} a b c d e =
    let joined = placed_joined 0 in
    let z : 0 ≤ length l₀ = omega arith in
    over _ _ _ _ (joined _ _ _ _ _ _ _ z (joined _ _ _ _ _ _ _ z (joined _ _ _ _ _ _ _ z (joined _ _ _ _ _ _ _ z a b) c) d) e)
