-- The laws of the fields of a line. Assumes nothing.
use Prim.Native.Nat.{ℕ, suc, ◌+◌, ◌-◌, ◌≤◌, ◌<◌}
use mathlib.Core.Path.{◌≡◌, refl, sym, ◌∙◌, ap}
use mathlib.Core.Bool.{Bool, true, false, ◌&&◌}
use mathlib.Core.List.{List, [], ◌∷◌, ◌++◌, append-nil}
use native.Mathlib.Omega.{arith}
use native.Mathlib.Numerals.{add-one}
use lib.Dec.{eqb}
use lib.Pointwise.{pointwise}
use lib.ListN.{length, take, drop, set, length-drop, length-set}
use lib.Seq.{take-suc-set, append_snoc, take_all}
use Rattle.std.specs.Prelude.{Option, Some, None, nat_eq}
use Rattle.base.proofs.Choice.{either, if_true, if_false}
use Rattle.text.specs.Text.{tab, line_feed}
use Rattle.lines.specs.Numbers.{number_of}
use Rattle.lines.specs.Fields.{field_of, is_end, and_then, with_number, fields_of}
use Rattle.lines.specs.declared.number.Number.{Number}
use Rattle.lines.proofs.NumberLaws.{number_short}

-- the tab and the digits of a field are bytes of the rest
pub field_short : (rest : List ℕ) (number : Number) → field_of rest ≡ Some number → 1 + number.digits ≤ length rest
unfolding field_of
field_short [] number e = absurd (cc)
field_short (b ∷ bs) number e =
    either (λ (r : Option Number). r ≡ Some number → 1 + number.digits ≤ suc (length bs)) (eqb b tab)
    (λ t q. omega (arith, number_short bs number q))
    (λ t q. absurd (cc))
    e

alone : (t : Bool) → t ≡ (t && true)
alone true = refl
alone false = refl

neither : (t : Bool) → false ≡ (t && false)
neither true = refl
neither false = refl

-- as the library compares texts
pub end_told : (rest : List ℕ) → is_end rest ≡ pointwise nat_eq rest (line_feed ∷ [])
unfolding is_end
end_told [] = refl
end_told (b ∷ []) = alone (eqb b line_feed)
end_told (b ∷ c ∷ bs) = neither (eqb b line_feed)

-- behind a tab the number is read
pub untabbed : (rest : List ℕ) → pointwise nat_eq (take 1 rest) (tab ∷ []) ≡ false → field_of rest ≡ None
unfolding field_of
untabbed [] e = refl
untabbed (b ∷ bs) e = if_false _ _ _ (alone (eqb b tab) ∙ e)

pub tabbed : (rest : List ℕ) → pointwise nat_eq (take 1 rest) (tab ∷ []) ≡ true → field_of rest ≡ number_of (drop 1 rest)
unfolding field_of
tabbed [] e = absurd (cc)
tabbed (b ∷ bs) e = if_true _ _ _ (alone (eqb b tab) ∙ e)

-- Fields read one behind the other

-- numbers put before the others, if all could be read
abbrev prepend : List ℕ → Option (List ℕ) → Option (List ℕ)
prepend vs None = None
prepend vs (Some ws) = Some (vs ++ ws)

one_more : (vs : List ℕ) (v : ℕ) (o : Option (List ℕ)) → prepend vs (and_then v o) ≡ prepend (vs ++ v ∷ []) o
unfolding and_then
one_more vs v None = refl
one_more vs v (Some ws) = ap Some (sym (append_snoc vs v ws))

-- the first k places are filled, and this rest is left
pub record Filled (line : List ℕ) (count : ℕ) (values : List ℕ) (rest : List ℕ) (k : ℕ) : Type 0 where
  pub few : k ≤ count
  pub places : length values ≡ count
  pub inside : length rest ≤ length line
  pub passed : fields_of count line ≡ prepend (take k values) (fields_of (count - k) rest)

module _ (line : List ℕ) (count : ℕ) (values rest : List ℕ) (k : ℕ) (held : Filled line count values rest k) where
  -- the next field is no number
  pub bad : k < count → field_of rest ≡ None → fields_of count line ≡ None
  unfolding fields_of with_number
  bad h e =
      let s : count - k ≡ suc (count - (k + 1)) = omega arith in
      held.passed ∙ rw (s, e)

  -- the fields are read and something else than a line feed is left
  pub unended : count ≤ k → is_end rest ≡ false → fields_of count line ≡ None
  unfolding fields_of
  unended h e =
      let z : count - k ≡ 0 = omega arith in
      held.passed ∙ rw (z, e)

  -- or nothing else
  pub ended : count ≤ k → is_end rest ≡ true → fields_of count line ≡ Some values
  unfolding fields_of
  ended h e =
      let z : count - k ≡ 0 = omega arith in
      held.passed ∙ rw (z, e, append-nil, take_all k values (omega (arith, held.places)))

  pub more : (number : Number) → field_of rest ≡ Some number → k < count → Filled line count (set values k number.value) (drop (1 + number.digits) rest) (k + 1)
  unfolding fields_of with_number
  more number e h =
      let s : count - k ≡ suc (count - (k + 1)) = omega arith in
      let t : take (k + 1) (set values k number.value) ≡ take k values ++ (number.value ∷ []) = rw (add-one k) (take-suc-set values k number.value (omega (arith, held.places))) in
      record {
        few = omega arith;
        places = length-set values k number.value ∙ held.places;
        inside = omega (arith, held.inside, length-drop (1 + number.digits) rest);
        passed = held.passed ∙ rw (s, e, t) (one_more _ _ _);
      }
