-- Pieces of a list of numbers, one for each place of an array. Assumes nothing.
use Prim.Native.Nat.{ℕ, zero, suc, ◌+◌, ◌*◌, ◌-◌, ◌<◌}
use mathlib.Core.Path.{◌≡◌, refl, ap, ◌∙◌}
use mathlib.Core.List.{List, [], ◌∷◌, map}
use native.Mathlib.Nat.{le_of_suc-le-suc, not-suc-le-zero}
use native.Mathlib.Omega.{arith}
use lib.ListN.{length, take, drop, get_or, length-drop, take-append-drop}
use lib.Seq.{drop_at, drop-drop, length-take-le, take_at}
use Rattle.hadlephoga.specs.Records.{in_order, slices}

pub length_slices : (width k : ℕ) (ns : List ℕ) → length (slices width k ns) ≡ k
unfolding slices
length_slices width zero ns = refl
length_slices width (suc k) ns = ap suc (length_slices width k (drop width ns))

-- the piece in a place
pub piece_at : (width k : ℕ) (ns : List ℕ) (i : ℕ) → i < k → get_or (slices width k ns) i [] ≡ take width (drop (i * width) ns)
unfolding slices
piece_at width zero ns i h = absurd (not-suc-le-zero h)
piece_at width (suc k) ns zero h = let e : 0 ≡ 0 * width = omega arith in ap (λ (n : ℕ). take width (drop n ns)) e
piece_at width (suc k) ns (suc i) h =
    let e : width + i * width ≡ suc i * width = omega arith in
    piece_at width k (drop width ns) i (le_of_suc-le-suc h)
    ∙ ap (take width) (drop-drop (i * width) width ns ∙ ap (λ (n : ℕ). drop n ns) e)

-- the part of the numbers that a place is made from
abbrev pub part : ℕ → List ℕ → ℕ → List ℕ
part width ns at = take (at + width - at) (drop at ns)

-- what is written for each element, one behind the other, and read from the slices
module _ {A : Type 0} (write : A → List ℕ) (read : List ℕ → A) (width : ℕ) where
  pub read_back : ((x : A) → length (write x) ≡ width) → ((x : A) → read (write x) ≡ x) → (xs : List A) →
      map read (slices width (length xs) (in_order write xs)) ≡ xs
  unfolding slices in_order
  read_back wide back [] = refl
  read_back wide back (x ∷ xs) =
      rw (take_at (write x) (in_order write xs) width (wide x), drop_at (write x) (in_order write xs) width (wide x), back x, read_back wide back xs)

  pub written_back : ((ns : List ℕ) → length ns ≡ width → write (read ns) ≡ ns) → (k : ℕ) (ns : List ℕ) → length ns ≡ k * width →
      in_order write (map read (slices width k ns)) ≡ ns
  unfolding slices in_order
  written_back forth zero [] e = refl
  written_back forth zero (n ∷ ns) e = absurd (omega (arith, e))
  written_back forth (suc k) ns e =
      rw (
        forth (take width ns) (length-take-le width ns (omega (arith, e))),
        written_back forth k (drop width ns) (length-drop width ns ∙ omega (arith, e)),
      )
      (take-append-drop width ns)
