-- The digits of a number, one by one from the last. Assumes nothing.
use Prim.Native.Nat.{ℕ, zero, suc, ◌+◌, ◌*◌, ◌/◌, ◌%◌, ◌^◌, ◌≤◌, ◌<◌, max}
use mathlib.Core.Path.{◌≡◌, refl, sym}
use native.Mathlib.Nat.{pow-suc, one-le-pow}
use mathlib.Core.List.{List, [], ◌∷◌, ◌++◌}
use borrow.Author.Tests.{lt-ltb, le-ltb, ltb-true, ltb-false}
use native.Mathlib.Omega.{arith}
use native.Mathlib.Numerals.{add-one}
use lib.Dec.{ltb}
use lib.ListN.{length, length-append}
use Rattle.base.proofs.Choice.{if_true, if_false, either}
use Rattle.result.specs.Numbers.{digit_text, number_text}

-- the two cases of the definition
pub digits_one : (k n : ℕ) → n < 10 → digit_text (suc k) n ≡ (48 + n) ∷ []
unfolding digit_text
digits_one k n h = if_true _ _ _ (lt-ltb _ _ h)

digits_more : (k n : ℕ) → 10 ≤ n → digit_text (suc k) n ≡ digit_text k (n / 10) ++ (48 + n % 10) ∷ []
unfolding digit_text
digits_more k n h = if_false _ _ _ (le-ltb _ _ h)

pub by_size : (P : List ℕ → Type 0) (k n : ℕ) → (n < 10 → P ((48 + n) ∷ [])) → (10 ≤ n → P (digit_text k (n / 10) ++ (48 + n % 10) ∷ [])) → P (digit_text (suc k) n)
unfolding digit_text
by_size P k n p q = either P (ltb n 10) (λ e. p (ltb-true _ _ e)) (λ e. q (ltb-false _ _ e))

-- a last digit is one more
length_last : (xs : List ℕ) (d : ℕ) → length (xs ++ d ∷ []) ≡ length xs + 1
length_last xs d = length-append xs (d ∷ [])

pub length_more : (k n : ℕ) → 10 ≤ n → length (digit_text (suc k) n) ≡ length (digit_text k (n / 10)) + 1
length_more k n h = rw (digits_more k n h) (length_last (digit_text k (n / 10)) (48 + n % 10))

digits_short : (k n : ℕ) → length (digit_text k n) ≤ k
unfolding digit_text
digits_short zero n = omega arith
digits_short (suc k) n =
    by_size (λ t. length t ≤ suc k) k n (λ h. omega arith) (λ h. omega (arith, length_last (digit_text k (n / 10)) (48 + n % 10), digits_short k (n / 10)))

pub number_short : (n : ℕ) → length (number_text n) ≤ 20
unfolding number_text
number_short n = digits_short 20 n

-- so many digits of a number, from its last one
unfoldable pub last_digits : ℕ → ℕ → List ℕ
last_digits zero n = []
last_digits (suc k) n = last_digits k (n / 10) ++ (48 + n % 10) ∷ []

pub last_more : (j k n : ℕ) → k ≡ suc j → last_digits k n ≡ last_digits j (n / 10) ++ (48 + n % 10) ∷ []
unfolding last_digits
last_more j k n e = rw e

digits_last : (k n : ℕ) → digit_text k n ≡ last_digits (length (digit_text k n)) n
unfolding digit_text last_digits
digits_last zero n = refl
digits_last (suc k) n =
    by_size (λ t. t ≡ last_digits (length t) n) k n
    (λ h. let e : n % 10 ≡ n = omega arith in rw e)
    (λ h. rw (length_last (digit_text k (n / 10)) (48 + n % 10), add-one, ← digits_last k (n / 10)))

pub number_last : (n : ℕ) → number_text n ≡ last_digits (length (number_text n)) n
unfolding number_text
number_last n = digits_last 20 n

-- how many digits, by powers of ten
digits_by_power : (k r n : ℕ) → r < k → 10 ^ r ≤ n → n < 10 * 10 ^ r → length (digit_text k n) ≡ r + 1
digits_by_power zero r n l h j = absurd (omega arith)
digits_by_power (suc k) zero n l h j = rw (digits_one k n j)
digits_by_power (suc k) (suc r) n l h j =
    let few : 10 ^ r ≤ n / 10 = omega (arith, pow-suc 10 r) in
    let more : n / 10 < 10 * 10 ^ r = omega (arith, pow-suc 10 r) in
    omega (arith, length_more k n (omega (arith, pow-suc 10 r, one-le-pow r 10 (omega arith))), digits_by_power k r (n / 10) (omega arith) few more)

pub count_by_power : (r n : ℕ) → r < 20 → 10 ^ r ≤ max n 1 → max n 1 < 10 * 10 ^ r → r + 1 ≡ length (number_text n)
unfolding number_text
count_by_power zero zero l h j = rw (digits_one 19 0 (omega arith))
count_by_power (suc r) zero l h j = absurd (omega (arith, pow-suc 10 r, one-le-pow r 10 (omega arith)))
count_by_power r (suc n) l h j =
    let m : max (suc n) 1 ≡ suc n = omega arith in
    sym (digits_by_power 20 r (suc n) l (omega arith) (omega arith))
