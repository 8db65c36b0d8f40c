-- Laws of the lines of a text. Assumes nothing.
use Prim.Native.Nat.{ℕ, suc, ◌+◌, ◌-◌, ◌≤◌, ◌<◌}
use mathlib.Core.Path.{◌≡◌, refl, sym, ◌∙◌, ap}
use mathlib.Core.Bool.{Bool, true, false, not}
use mathlib.Core.List.{List, [], ◌∷◌}
use native.Mathlib.Omega.{arith}
use borrow.Author.Tests.{eqb-true, eqb-false, ne_eqb}
use lib.Dec.{eqb}
use lib.ListN.{length, take, drop, get_or, length-take, length-drop, drop_of_length-le}
use lib.Seq.{drop-cons, drop-drop, take_all}
use Rattle.base.specs.All.{all_pass}
use Rattle.base.proofs.Every.{both}
use Rattle.base.proofs.Tests.{told_not_false}
use Rattle.base.proofs.Choice.{if_true, if_false}
use Rattle.text.specs.Text.{line_feed, starts_with, first_line, extend_first, lines_of}

-- where a byte is a line feed, and where it is none
module _ (b : ℕ) (bs : List ℕ) where
  first_fed : eqb b line_feed ≡ true → first_line (b ∷ bs) ≡ b ∷ []
  unfolding first_line
  first_fed e = if_true _ _ _ e

  first_unfed : eqb b line_feed ≡ false → first_line (b ∷ bs) ≡ b ∷ first_line bs
  unfolding first_line
  first_unfed e = if_false _ _ _ e

  pub lines_fed : eqb b line_feed ≡ true → lines_of (b ∷ bs) ≡ (b ∷ []) ∷ lines_of bs
  unfolding lines_of
  lines_fed e = if_true _ _ _ e

  pub lines_unfed : eqb b line_feed ≡ false → lines_of (b ∷ bs) ≡ extend_first b (lines_of bs)
  unfolding lines_of
  lines_unfed e = if_false _ _ _ e

pub no_lines : lines_of [] ≡ []
unfolding lines_of
no_lines = refl

no_first : first_line [] ≡ []
unfolding first_line
no_first = refl

-- the first line is what the text starts with
pub first_taken : (text : List ℕ) → take (length (first_line text)) text ≡ first_line text
unfolding first_line
first_taken [] = refl
first_taken (b ∷ bs) = go (first_taken bs) (eqb b line_feed) refl
  where
    go : take (length (first_line bs)) bs ≡ first_line bs
        → (t : Bool) → eqb b line_feed ≡ t → take (length (first_line (b ∷ bs))) (b ∷ bs) ≡ first_line (b ∷ bs)
    go h true e = rw (first_fed b bs e)
    go h false e = rw (first_unfed b bs e, h)

pub first_inside : (text : List ℕ) → length (first_line text) ≤ length text
first_inside text =
    let h : length (first_line text) ≡ length (take (length (first_line text)) text) = ap length (sym (first_taken text)) in
    let k = length-take (length (first_line text)) text in
    omega (arith, h, k)

-- a text that is not empty has a first line that is not, and the lines behind it
module _ (b : ℕ) (bs : List ℕ) where
  first_some : 1 ≤ length (first_line (b ∷ bs))
  first_some = go (eqb b line_feed) refl
    where
      go : (t : Bool) → eqb b line_feed ≡ t → 1 ≤ length (first_line (b ∷ bs))
      go true e = rw (first_fed b bs e) (omega arith)
      go false e = rw (first_unfed b bs e) (omega arith)

abbrev first_and_rest : List ℕ → List (List ℕ)
first_and_rest text = first_line text ∷ lines_of (drop (length (first_line text)) text)

pub lines_first : (b : ℕ) (bs : List ℕ) → lines_of (b ∷ bs) ≡ first_and_rest (b ∷ bs)
unfolding extend_first
lines_first b [] = go (eqb b line_feed) refl
  where
    go : (t : Bool) → eqb b line_feed ≡ t → lines_of (b ∷ []) ≡ first_and_rest (b ∷ [])
    go true e = rw (lines_fed b [] e, first_fed b [] e)
    go false e = rw (lines_unfed b [] e, first_unfed b [] e, no_lines, no_first, no_lines)
lines_first b (c ∷ cs) = go (lines_first c cs) (eqb b line_feed) refl
  where
    go : lines_of (c ∷ cs) ≡ first_and_rest (c ∷ cs) → (t : Bool) → eqb b line_feed ≡ t → lines_of (b ∷ c ∷ cs) ≡ first_and_rest (b ∷ c ∷ cs)
    go h true e = rw (lines_fed b (c ∷ cs) e, first_fed b (c ∷ cs) e)
    go h false e = rw (lines_unfed b (c ∷ cs) e, first_unfed b (c ∷ cs) e, h)

-- a start without a line feed is that of the first line
pub starts_first : (prefix text : List ℕ) → all_pass prefix (λ p. not (eqb p line_feed)) ≡ true → starts_with prefix (first_line text) ≡ starts_with prefix text
unfolding starts_with
starts_first [] text h = refl
starts_first (p ∷ ps) [] h = rw no_first
starts_first (p ∷ ps) (b ∷ bs) h =
    let k = both (not (eqb p line_feed)) (all_pass ps (λ p. not (eqb p line_feed))) h in
    go k.0 (starts_first ps bs k.1) (eqb b line_feed) refl
  where
    go : not (eqb p line_feed) ≡ true → starts_with ps (first_line bs) ≡ starts_with ps bs → (t : Bool) → eqb b line_feed ≡ t
        → starts_with (p ∷ ps) (first_line (b ∷ bs)) ≡ starts_with (p ∷ ps) (b ∷ bs)
    go q k true e =
        let q' = eqb-false p line_feed (told_not_false (eqb p line_feed) _ refl q) in
        let e' = eqb-true b line_feed e in
        let n : eqb b p ≡ false = ne_eqb b p (omega (arith, q', e')) in
        rw (first_fed b bs e, n)
    go q k false e = rw (first_unfed b bs e, k)

-- the same of what a text has from a place on
module _ (text : List ℕ) (at : ℕ) where
  abbrev line_end : ℕ
  line_end = at + length (first_line (drop at text))

  pub lines_at : at < length text → lines_of (drop at text) ≡ first_line (drop at text) ∷ lines_of (drop line_end text)
  lines_at h =
      let e = drop-cons text at 0 h in
      ap lines_of e ∙ lines_first (get_or text at 0) (drop (suc at) text) ∙ ap first_and_rest (sym e) ∙ ap (λ r. first_line (drop at text) ∷ lines_of r) (drop-drop _ at text)

  pub first_at_some : at < length text → 1 ≤ length (first_line (drop at text))
  first_at_some h = rw (drop-cons text at 0 h) (first_some (get_or text at 0) (drop (suc at) text))

  pub first_at_inside : at ≤ length text → line_end ≤ length text
  first_at_inside h =
      let k = first_inside (drop at text) in
      let l = length-drop at text in
      omega (arith, k, l)

  -- the part of a text that is a line, and the part that goes to its end, as a callee sees them
  pub line_part : take (line_end - at) (drop at text) ≡ first_line (drop at text)
  line_part =
      let e : line_end - at ≡ length (first_line (drop at text)) = omega arith in
      rw e (first_taken (drop at text))

  pub rest_part : take (length text - at) (drop at text) ≡ drop at text
  rest_part = take_all (length text - at) (drop at text) (rw length-drop (omega arith))

  pub no_lines_at : length text ≤ at → lines_of (drop at text) ≡ []
  no_lines_at h = rw (drop_of_length-le text h) no_lines
