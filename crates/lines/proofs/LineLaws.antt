-- The laws of what a line says. Assumes nothing.
use Prim.Native.Nat.{ℕ, zero, suc, ◌+◌, ◌<◌}
use mathlib.Core.Path.{◌≡◌, refl, sym, ◌∙◌}
use mathlib.Core.List.{List, [], ◌∷◌, ◌++◌}
use Rattle.std.specs.Prelude.{Option, Some, None}
use native.Mathlib.Nat.{not-suc-le-zero}
use native.Mathlib.Omega.{arith}
use lib.ListN.{length, get_or, drop, replicate, take}
use lib.Seq.{get_or-drop, get_or-take}
use Rattle.base.specs.Places.{in_places}
use Rattle.base.proofs.Placed.{places_hold}
use Rattle.deal.specs.Fields.{guarantee_sent, swap_sent, terms_under}
use borrow.Author.Tests.{ne_eqb}
use Rattle.lines.specs.Fields.{fields_held, fields_of, most_fields}
use Rattle.lines.specs.Sovereign.{width_under}
use Rattle.lines.specs.declared.line.Line.TheVariants.{Malformed}
use Rattle.lines.specs.Lines.{deal_line, collateral_line, guarantee_line, swap_line, if_read, line_of}
use Rattle.lines.specs.declared.line.Line.{Line}
use Rattle.lines.proofs.SovereignLaws.{sovereign_same}

-- zeros behind a list change no field of it
zeros_behind : (vs zs : List ℕ) → ((k : ℕ) → get_or zs k 0 ≡ 0) → (k : ℕ) → get_or (vs ++ zs) k 0 ≡ get_or vs k 0
zeros_behind [] zs h k = h k
zeros_behind (v ∷ vs) zs h zero = refl
zeros_behind (v ∷ vs) zs h (suc k) = zeros_behind vs zs h k

held_at : (vs : List ℕ) (k : ℕ) → get_or (in_places 11 0 vs) k 0 ≡ get_or vs k 0
held_at vs k =
    zeros_behind vs (drop (length vs) (replicate 11 0))
    (λ i. get_or-drop (length vs) (replicate 11 0) i 0 ∙ places_hold (λ a. a ≡ 0) 0 11 [] refl (λ j h. absurd (not-suc-le-zero h)) (length vs + i))
    k

-- what is said of fields is said of them in the places that hold them
held : (said : List ℕ → Line) → ((vs : List ℕ) → said (in_places 11 0 vs) ≡ said vs) → (o : Option (List ℕ)) → if_read said (fields_held o) ≡ if_read said o
unfolding if_read fields_held
held said same None = refl
held said same (Some vs) = same vs

-- what a line says, from the fields that could be read
module _ (edition : ℕ) (r o : Option (List ℕ)) (e : r ≡ fields_held o) where
  pub deal_held : if_read (deal_line edition) o ≡ if_read (deal_line edition) r
  unfolding deal_line
  deal_held = rw e (sym (held (deal_line edition) (λ vs. simp (sovereign_same edition (in_places 11 0 vs) vs (held_at vs))) o))

  pub collateral_held : if_read collateral_line o ≡ if_read collateral_line r
  unfolding collateral_line
  collateral_held = rw e (sym (held collateral_line (λ vs. simp (held_at vs)) o))

  pub guarantee_held : if_read (guarantee_line edition) o ≡ if_read (guarantee_line edition) r
  unfolding guarantee_line
  guarantee_held = rw e (sym (held (guarantee_line edition) (λ vs. simp (sovereign_same edition (in_places 11 0 vs) vs (held_at vs))) o))

  pub swap_held : if_read (swap_line edition) o ≡ if_read (swap_line edition) r
  unfolding swap_line
  swap_held = rw e (sym (held (swap_line edition) (λ vs. simp (sovereign_same edition (in_places 11 0 vs) vs (held_at vs))) o))

-- by the letter
module _ (edition letter width : ℕ) (rest : List ℕ) (r : Option (List ℕ)) (e : r ≡ fields_held (fields_of width rest)) where
  pub deal_said : letter ≡ 68 → width ≡ width_under edition 11 → if_read (deal_line edition) r ≡ line_of edition (letter ∷ rest)
  unfolding line_of
  deal_said l w = rw (l, ← w) (sym (deal_held edition r _ e))

  pub collateral_said : letter ≡ 67 → width ≡ 11 → if_read collateral_line r ≡ line_of edition (letter ∷ rest)
  unfolding line_of
  collateral_said l w = rw (l, ← w) (sym (collateral_held edition r _ e))

  pub guarantee_said : letter ≡ 71 → width ≡ width_under edition 10 → if_read (guarantee_line edition) r ≡ line_of edition (letter ∷ rest)
  unfolding line_of
  guarantee_said l w = rw (l, ← w) (sym (guarantee_held edition r _ e))

  pub swap_said : letter ≡ 83 → width ≡ width_under edition 11 → if_read (swap_line edition) r ≡ line_of edition (letter ∷ rest)
  unfolding line_of
  swap_said l w = rw (l, ← w) (sym (swap_held edition r _ e))

module _ (edition : ℕ) where
  pub other_letter : (letter : ℕ) (rest : List ℕ) → (letter ≡ 68 → ⊥) → (letter ≡ 67 → ⊥) → (letter ≡ 71 → ⊥) → (letter ≡ 83 → ⊥) → line_of edition (letter ∷ rest) ≡ Malformed
  unfolding line_of
  other_letter letter rest d c g s = simp (ne_eqb letter 68 d, ne_eqb letter 67 c, ne_eqb letter 71 g, ne_eqb letter 83 s)

  pub empty_line : (line : List ℕ) → length line ≡ 0 → line_of edition line ≡ Malformed
  unfolding line_of
  empty_line [] e = refl
  empty_line (b ∷ bs) e = absurd (omega arith)

-- as many fields as are held say what the whole of them would say
module _ (l : List ℕ) where
  at : (k : ℕ) → k < most_fields → get_or (take most_fields l) k 0 ≡ get_or l k 0
  at k h = get_or-take most_fields l k 0 h

  pub whole_terms : (edition : ℕ) → terms_under edition (take most_fields l) ≡ terms_under edition l
  whole_terms edition = rw (at 0 (omega arith), at 1 (omega arith), at 2 (omega arith), at 3 (omega arith), at 4 (omega arith), at 5 (omega arith), at 6 (omega arith), at 7 (omega arith), at 8 (omega arith), at 9 (omega arith), at 10 (omega arith))

  pub whole_guarantee : guarantee_sent (take most_fields l) ≡ guarantee_sent l
  whole_guarantee = rw (at 0 (omega arith), at 1 (omega arith), at 2 (omega arith), at 3 (omega arith), at 4 (omega arith), at 5 (omega arith), at 6 (omega arith), at 7 (omega arith), at 8 (omega arith), at 9 (omega arith))

  pub whole_swap : swap_sent (take most_fields l) ≡ swap_sent l
  whole_swap = rw (at 0 (omega arith), at 1 (omega arith), at 2 (omega arith), at 3 (omega arith), at 4 (omega arith), at 5 (omega arith), at 6 (omega arith), at 7 (omega arith), at 8 (omega arith), at 9 (omega arith), at 10 (omega arith))
