-- Texts written into a buffer, one behind the other. Assumes nothing.
use Prim.Native.Nat.{ℕ, suc, ◌+◌, ◌≤◌, ◌<◌}
use mathlib.Core.Path.{◌≡◌, refl, sym, ap, ◌∙◌}
use mathlib.Core.List.{List, [], ◌∷◌, ◌++◌, append_assoc, append-nil}
use native.Mathlib.Nat.{add-zero, add_assoc, add-suc, suc-add}
use native.Mathlib.Numerals.{add-one}
use native.Mathlib.Omega.{arith}
use lib.ListN.{length, take, drop, set, get_or, length-append, take-append-drop}
use lib.Seq.{length-take-le, take_at, drop_at, drop-drop, set_split, set_at, take-suc}
use Rattle.base.specs.Writing.{placed_at, Placed}

-- no text changes nothing
pub placed_none : (at : ℕ) (l : List ℕ) → Placed at [] l l at
unfolding placed_at
placed_none at l = record { ends = omega arith; holds = sym (rw (append-nil, add-zero) (take-append-drop at l)) }

-- a store writes a text of one byte
pub placed_byte : (at : ℕ) (b : ℕ) (l : List ℕ) → at < length l → Placed at (b ∷ []) l (set l at b) (at + 1)
unfolding placed_at
placed_byte at b l h = record { ends = refl; holds = rw (append_assoc, add-one) (set_split l at b h) }

module _ (at : ℕ) (s l : List ℕ) where
  front : at ≤ length l → length (take at l ++ s) ≡ at + length s
  front h = length-append (take at l) s ∙ ap (λ (k : ℕ). k + length s) (length-take-le at l h)

  -- two texts, one behind the other, are their concatenation
  more : (t : List ℕ) → at ≤ length l → placed_at (at + length s) t (placed_at at s l) ≡ placed_at at (s ++ t) l
  unfolding placed_at
  more t h =
      let e = front h in
      rw (
        take_at (take at l ++ s) (drop (at + length s) l) (at + length s) e,
        ← drop-drop (length t) (at + length s) (take at l ++ s ++ drop (at + length s) l),
        drop_at (take at l ++ s) (drop (at + length s) l) (at + length s) e,
        drop-drop (length t) (at + length s) l,
        append_assoc (take at l) s t,
        length-append s t,
        add_assoc at (length s) (length t),
      )

  -- a store in front of a text writes one byte more
  pub placed_front : (b : ℕ) → at < length l → set (placed_at (suc at) s l) at b ≡ placed_at at (b ∷ s) l
  unfolding placed_at
  placed_front b h =
      rw (
        take-suc l at 0 h,
        append_assoc (take at l) (get_or l at 0 ∷ []) s,
        append_assoc (take at l) (get_or l at 0 ∷ s) (drop (suc at + length s) l),
        set_at (take at l) (get_or l at 0) (s ++ drop (suc at + length s) l) b at (length-take-le at l (omega arith)),
        suc-add at (length s),
        ← add-suc at (length s),
        append_assoc (take at l) (b ∷ s) (drop (at + suc (length s)) l),
      )

pub placed_joined : (at : ℕ) (s t l m n : List ℕ) (p q : ℕ) → at ≤ length l → Placed at s l m p → Placed p t m n q → Placed at (s ++ t) l n q
placed_joined at s t l m n p q h a b =
    record {
      ends = omega (arith, length-append s t, a.ends, b.ends);
      holds = b.holds ∙ rw (a.holds, a.ends) (more at s l t h);
    }
