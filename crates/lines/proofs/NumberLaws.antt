-- The laws of numbers in a line. Assumes nothing.
use Prim.Native.Nat.{ℕ, suc, ◌+◌, ◌*◌, ◌-◌, ◌^◌, ◌≤◌, ◌<◌}
use mathlib.Core.Path.{◌≡◌, refl, ◌∙◌, ap}
use mathlib.Core.Bool.{true, false, not, ◌||◌}
use mathlib.Core.List.{List, [], ◌∷◌, ◌++◌, append-nil}
use native.Mathlib.Omega.{arith}
use native.Mathlib.Nat.{pow-suc, pow-le-pow_right}
use native.Mathlib.Numerals.{add-one}
use borrow.Author.Tests.{eq-eqb, ne_eqb}
use lib.Dec.{eqb}
use lib.ListN.{length, take, drop, get_or, drop_of_length-le, length-append}
use lib.Seq.{drop-cons, take-suc, length-take-le, append_snoc, get_or-take}
use Rattle.std.specs.Prelude.{Some, None}
use Rattle.std.specs.Char.{is_ascii_digit}
use Rattle.base.specs.Range.{within}
use Rattle.base.proofs.Choice.{if_true, if_false, either}
use Rattle.base.proofs.Range.{over, inside, under, bounds}
use Rattle.base.proofs.Tests.{and_first, or_first, or_second, or_false, not_true, not_false}
use Rattle.text.specs.Decimal.{decimal, decimal_from}
use Rattle.text.proofs.Decimal.{decimal_more}
use Rattle.lines.specs.Numbers.{is_digit, digits_of, number_allowed, number_read, number_of}
use Rattle.lines.specs.declared.number.Number.{Number}

-- The digits from a place on

module _ (text : List ℕ) (i : ℕ) where
  pub digits_more : i < length text → is_digit (get_or text i 0) ≡ true → digits_of (drop i text) ≡ get_or text i 0 ∷ digits_of (drop (i + 1) text)
  unfolding digits_of
  digits_more h e = rw (add-one i, drop-cons text i 0 h) (if_true _ _ _ e)

  pub digits_end : i < length text → is_digit (get_or text i 0) ≡ false → digits_of (drop i text) ≡ []
  unfolding digits_of
  digits_end h e = rw (drop-cons text i 0 h) (if_false _ _ _ e)

  pub digits_past : length text ≤ i → digits_of (drop i text) ≡ []
  unfolding digits_of
  digits_past h = rw (drop_of_length-le text h)

pub digits_short : (text : List ℕ) → length (digits_of text) ≤ length text
unfolding digits_of
digits_short [] = omega arith
digits_short (b ∷ bs) = either (λ (ds : List ℕ). length ds ≤ suc (length bs)) (is_digit b) (λ e. omega (arith, digits_short bs)) (λ e. omega arith)

pub too_many : (text : List ℕ) → 13 < length (digits_of text) → number_of text ≡ None
unfolding number_of number_read number_allowed
too_many text h = if_false _ _ _ (and_first _ _ (over 1 13 _ (omega arith) h))

-- the digits of a number are bytes of the text
read_short : (digits : List ℕ) (value count : ℕ) (number : Number) → number_read digits value count ≡ Some number → number.digits ≡ count
unfolding number_read
read_short digits value count number =
    either (λ r. r ≡ Some number → number.digits ≡ count) (number_allowed digits) (λ t e. cc) (λ t e. cc)

pub number_short : (text : List ℕ) (number : Number) → number_of text ≡ Some number → number.digits ≤ length text
unfolding number_of
number_short text number e = omega (arith, read_short _ _ _ number e, digits_short text)

-- how many the digits are and what the first one is decides
module _ (text : List ℕ) (n : ℕ) where
  none_allowed : n ≤ length text → n ≡ 0 → number_allowed (take n text) ≡ false
  unfolding number_allowed
  none_allowed h e = and_first _ _ (under 1 13 _ (omega (arith, length-take-le n text h)))

  some_allowed : n ≤ length text → n ≤ 13 → 0 < n → number_allowed (take n text) ≡ (eqb n 1 || not (eqb (get_or text 0 0) 48))
  unfolding number_allowed
  some_allowed h few k = rw (length-take-le n text h, get_or-take n text 0 0 k, inside 1 13 n k few)

module _ (text : List ℕ) (value n : ℕ) where
  pub no_digit : n ≤ length text → n ≡ 0 → number_read (take n text) value n ≡ None
  unfolding number_read
  no_digit h e = if_false _ _ _ (none_allowed text n h e)

  pub zero_led : n ≤ length text → n ≤ 13 → 1 < n → get_or text 0 0 ≡ 48 → number_read (take n text) value n ≡ None
  unfolding number_read
  zero_led h few k e = if_false _ _ _ (some_allowed text n h few (omega arith) ∙ or_false _ _ (ne_eqb n 1 (λ o. omega (arith, o))) (not_false _ (eq-eqb _ 48 e)))

  pub one_digit : n ≤ length text → n ≡ 1 → number_read (take n text) value n ≡ Some (record { value = value; digits = n })
  unfolding number_read
  one_digit h e = if_true _ _ _ (some_allowed text n h (omega arith) (omega arith) ∙ or_first _ _ (eq-eqb n 1 e))

  pub led : n ≤ length text → n ≤ 13 → 1 < n → (get_or text 0 0 ≡ 48 → ⊥) → number_read (take n text) value n ≡ Some (record { value = value; digits = n })
  unfolding number_read
  led h few k e = if_true _ _ _ (some_allowed text n h few (omega arith) ∙ or_second _ _ (ne_eqb n 1 (λ o. omega (arith, o))) (not_true _ (ne_eqb _ 48 e)))

-- The digits passed, and their value

pub record Passed (text : List ℕ) (value i : ℕ) : Type 0 where
  pub within : i ≤ length text
  pub few : i ≤ 13
  pub passed : digits_of text ≡ take i text ++ digits_of (drop i text)
  pub made : value ≡ decimal (take i text)
  pub small : value < 10 ^ i

pub none_passed : (text : List ℕ) → Passed text 0 0
unfolding decimal_from
none_passed text = record { within = omega arith; few = omega arith; passed = refl; made = refl; small = omega arith }

module _ (text : List ℕ) (value i : ℕ) (held : Passed text value i) where
  pub fits : value < 10 ^ 13
  fits = omega (arith, held.small, pow-le-pow_right {n = 10} (omega arith) held.few)

  ended : digits_of (drop i text) ≡ [] → number_read (take i text) value i ≡ number_of text
  unfolding number_of
  ended e =
      let d : digits_of text ≡ take i text = held.passed ∙ ap (λ (l : List ℕ). take i text ++ l) e ∙ append-nil (take i text) in
      rw (d, length-take-le i text held.within, ← held.made)

  -- no digit is left
  pub ended_by_other : i < length text → is_digit (get_or text i 0) ≡ false → number_read (take i text) value i ≡ number_of text
  ended_by_other h e = ended (digits_end text i h e)

  pub ended_by_end : length text ≤ i → number_read (take i text) value i ≡ number_of text
  ended_by_end h = ended (digits_past text i h)

  -- one is left
  pub full : i < length text → 13 ≤ i → is_digit (get_or text i 0) ≡ true → number_of text ≡ None
  full h k e =
      let d = digits_more text i h e in
      too_many text (rw (held.passed, length-append, d) (omega (arith, length-take-le i text held.within)))

  pub more : (v : ℕ) → i < length text → i < 13 → is_digit (get_or text i 0) ≡ true → v ≡ value * 10 + (get_or text i 0 - 48) → Passed text v (i + 1)
  more v h k e q =
      let t : take (i + 1) text ≡ take i text ++ (get_or text i 0 ∷ []) = rw (add-one i, take-suc text i 0 h) in
      record {
        within = omega arith;
        few = omega arith;
        passed = rw (t, append_snoc, ← digits_more text i h e) held.passed;
        made = q ∙ rw (t, decimal_more, ← held.made);
        small = rw (add-one i, pow-suc) (omega (arith, q, held.small, bounds 48 57 _ e));
      }

-- as the library tests a byte
pub digit_told : (b : ℕ) → is_digit b ≡ is_ascii_digit b
unfolding within
digit_told b = refl
