-- The laws of the sovereign's step in a line. Assumes nothing.
use Rattle.std.proofs.Common.{if◌then◌else◌}
use Prim.Native.Nat.{ℕ, zero, suc, ◌≤◌}
use mathlib.Core.Path.{◌≡◌, refl, ap, sym, ◌∙◌}
use mathlib.Core.Bool.{Bool, true, false}
use mathlib.Core.List.{List, [], ◌∷◌, ◌++◌}
use native.Mathlib.Omega.{arith}
use lib.ListN.{length, get_or, take, drop}
use Rattle.base.proofs.Arrays.{as_read}
use Rattle.base.proofs.Choice.{either, if_false, if_true}
use Rattle.lines.specs.Fields.{most_fields}
use Rattle.lines.specs.Sovereign.{leaves_out_sovereign, width_under, with_sovereign}

-- no line has more fields than with it
pub width_le : (edition width : ℕ) → width_under edition width ≤ width
unfolding width_under
width_le edition width = either (λ w. w ≤ width) (leaves_out_sovereign edition) (λ e. omega arith) (λ e. omega arith)

-- numbers by their places, with 0 put behind the first n of them
abbrev pub put : ℕ → (ℕ → ℕ) → ℕ → ℕ
put zero number zero = 0
put zero number (suc k) = number k
put (suc n) number zero = number 0
put (suc n) number (suc k) = put n (λ j. number (suc j)) k

put_none : (n k : ℕ) → put n (λ j. 0) k ≡ 0
put_none zero zero = refl
put_none zero (suc k) = refl
put_none (suc n) zero = refl
put_none (suc n) (suc k) = put_none n k

put_same : (n : ℕ) (f g : ℕ → ℕ) → ((k : ℕ) → f k ≡ g k) → (k : ℕ) → put n f k ≡ put n g k
put_same zero f g h zero = refl
put_same zero f g h (suc k) = h k
put_same (suc n) f g h zero = h 0
put_same (suc n) f g h (suc k) = put_same n (λ j. f (suc j)) (λ j. g (suc j)) (λ j. h (suc j)) k

none_at : (k : ℕ) → get_or (0 ∷ []) k 0 ≡ put zero (λ j. 0) k
none_at zero = refl
none_at (suc k) = refl

-- which is what the list holds there
pub put_at : (n : ℕ) (xs : List ℕ) (k : ℕ) → get_or (take n xs ++ 0 ∷ drop n xs) k 0 ≡ put n (λ j. get_or xs j 0) k
put_at zero xs zero = refl
put_at zero xs (suc k) = refl
put_at (suc n) [] k = none_at k ∙ put_none zero k ∙ sym (put_none (suc n) k)
put_at (suc n) (x ∷ xs) zero = refl
put_at (suc n) (x ∷ xs) (suc k) = put_at n xs k

-- fields that agree in every place still do with the sovereign's step among them
pub sovereign_same : (edition : ℕ) (xs ys : List ℕ) → ((k : ℕ) → get_or xs k 0 ≡ get_or ys k 0) → (k : ℕ) → get_or (with_sovereign edition xs) k 0 ≡ get_or (with_sovereign edition ys) k 0
unfolding with_sovereign
sovereign_same edition xs ys h k = go (leaves_out_sovereign edition)
  where
    go : (out : Bool) → get_or (if out then take 3 xs ++ 0 ∷ drop 3 xs else xs) k 0 ≡ get_or (if out then take 3 ys ++ 0 ∷ drop 3 ys else ys) k 0
    go true = put_at 3 xs k ∙ put_same 3 (λ j. get_or xs j 0) (λ j. get_or ys j 0) h k ∙ sym (put_at 3 ys k)
    go false = h k

-- what the code makes of as many fields as are held
pub put_in : (edition : ℕ) (xs : List ℕ) → leaves_out_sovereign edition ≡ true → length xs ≡ most_fields →
    (let x : ℕ → ℕ = λ k. get_or xs k 0 in x 0 ∷ x 1 ∷ x 2 ∷ 0 ∷ x 3 ∷ x 4 ∷ x 5 ∷ x 6 ∷ x 7 ∷ x 8 ∷ x 9 ∷ []) ≡ take most_fields (with_sovereign edition xs)
unfolding with_sovereign
put_in edition xs e h =
    ap (λ (l : List ℕ). take most_fields (take 3 l ++ 0 ∷ drop 3 l)) (rw h at (as_read xs))
    ∙ ap (take most_fields) (sym (if_true _ (take 3 xs ++ 0 ∷ drop 3 xs) xs e))

pub all_there : (edition : ℕ) (xs : List ℕ) → leaves_out_sovereign edition ≡ false → length xs ≡ most_fields → xs ≡ take most_fields (with_sovereign edition xs)
unfolding with_sovereign
all_there edition xs e h =
    sym (ap (take most_fields) (if_false _ (take 3 xs ++ 0 ∷ drop 3 xs) xs e) ∙ ap (take most_fields) (sym (rw h at (as_read xs))) ∙ rw h at (as_read xs))
