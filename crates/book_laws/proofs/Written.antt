-- A number that was written is digits, reads back, and starts with no zero. Assumes nothing.
use Prim.Native.Nat.{ℕ, zero, suc, ◌+◌, ◌/◌, ◌%◌, ◌^◌, ◌<◌}
use mathlib.Core.Path.{◌≡◌, refl}
use mathlib.Core.Bool.{Bool, true, ◌&&◌}
use mathlib.Core.List.{List, [], ◌∷◌, ◌++◌}
use native.Mathlib.Nat.{pow-suc}
use native.Mathlib.Omega.{arith}
use borrow.Author.Tests.{le-leb}
use lib.Dec.{leb}
use lib.ListN.{length, length-append, get_or, get_or-append}
use Rattle.base.specs.All.{all_pass}
use Rattle.base.proofs.Every.{both}
use Rattle.base.proofs.Tests.{and_true}
use Rattle.text.specs.Decimal.{decimal, decimal_from}
use Rattle.text.proofs.Decimal.{decimal_more}
use Rattle.result.specs.Numbers.{digit_text, number_text}
use Rattle.result.proofs.Digits.{by_size}

digits_read : (k n : ℕ) → n < 10 ^ k → decimal (digit_text k n) ≡ n
unfolding decimal_from digit_text
digits_read zero n h = omega arith
digits_read (suc k) n h =
    by_size (λ t. decimal t ≡ n) k n
    (λ s. omega arith)
    (λ l. omega (arith, decimal_more 0 (digit_text k (n / 10)) (48 + n % 10), digits_read k (n / 10) (omega (arith, pow-suc 10 k))))

pub number_read : (n : ℕ) → n < 18446744073709551616 → decimal (number_text n) ≡ n
unfolding number_text
number_read n h = digits_read 20 n (omega arith)

some_digit : (k n : ℕ) → 0 < length (digit_text (suc k) n)
some_digit k n = by_size (λ t. 0 < length t) k n (λ s. omega arith) (λ l. omega (arith, length-append (digit_text k (n / 10)) ((48 + n % 10) ∷ [])))

digits_start : (k n : ℕ) → 0 < n → n < 10 ^ k → get_or (digit_text k n) 0 0 ≡ 48 → ⊥
unfolding digit_text
digits_start zero n h b = absurd (omega arith)
digits_start (suc zero) n h b = by_size (λ t. get_or t 0 0 ≡ 48 → ⊥) zero n (λ s e. omega arith) (λ l e. omega arith)
digits_start (suc (suc k)) n h b =
    by_size (λ t. get_or t 0 0 ≡ 48 → ⊥) (suc k) n
    (λ s e. omega arith)
    (λ l e. digits_start (suc k) (n / 10) (omega arith) (omega (arith, pow-suc 10 (suc k))) (rw (get_or-append (digit_text (suc k) (n / 10)) ((48 + n % 10) ∷ []) 0 0 (some_digit k (n / 10))) at e))

-- of any number but 0 itself
pub no_leading_zero : (n : ℕ) → 0 < n → n < 18446744073709551616 → get_or (number_text n) 0 0 ≡ 48 → ⊥
unfolding number_text
no_leading_zero n h b = digits_start 20 n h (omega arith)

-- a byte "0" to "9"
abbrev pub is_digit : ℕ → Bool
is_digit b = leb 48 b && leb b 57

digit : (n : ℕ) → n < 10 → is_digit (48 + n) ≡ true
digit n h = and_true _ _ (le-leb 48 (48 + n) (omega arith)) (le-leb (48 + n) 57 (omega arith))

one_more : (xs : List ℕ) (d : ℕ) → all_pass xs is_digit ≡ true → is_digit d ≡ true → all_pass (xs ++ d ∷ []) is_digit ≡ true
one_more [] d h e = and_true _ _ e refl
one_more (x ∷ xs) d h e = let b = both (is_digit x) (all_pass xs is_digit) h in and_true _ _ b.0 (one_more xs d b.1 e)

digits_only : (k n : ℕ) → all_pass (digit_text k n) is_digit ≡ true
unfolding digit_text
digits_only zero n = refl
digits_only (suc k) n =
    by_size (λ t. all_pass t is_digit ≡ true) k n
    (λ s. and_true _ _ (digit n s) refl)
    (λ l. one_more (digit_text k (n / 10)) (48 + n % 10) (digits_only k (n / 10)) (digit (n % 10) (omega arith)))

-- and nothing but digits
pub number_digits : (n : ℕ) → all_pass (number_text n) is_digit ≡ true
unfolding number_text
number_digits n = digits_only 20 n
