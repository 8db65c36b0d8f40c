-- A number's digits written from the last one to the first: those still to write and those written make up the number. Assumes nothing.
use Prim.Native.Nat.{ℕ, suc, ◌+◌, ◌-◌, ◌/◌, ◌%◌, ◌≤◌, ◌<◌}
use mathlib.Core.Path.{◌≡◌, refl, ap, ◌∙◌}
use mathlib.Core.List.{List, [], ◌∷◌, ◌++◌, append_assoc, append-nil}
use native.Mathlib.Omega.{arith}
use lib.ListN.{length, set, length-set}
use Rattle.result.specs.Numbers.{number_text}
use Rattle.base.specs.Writing.{placed_at}
use Rattle.result.proofs.Digits.{number_short, number_last, last_digits, last_more}
use Rattle.base.proofs.Writing.{placed_none, placed_front}

pub record DigitsWritten (before : List ℕ) (at n end : ℕ) (out : List ℕ) (place rest : ℕ) : Type 0 where
  pub behind : List ℕ
  pub starts : at ≤ place
  pub ends : end ≡ place + length behind
  pub inside : end ≤ length before
  pub same : length out ≡ length before
  pub text : number_text n ≡ last_digits (place - at) rest ++ behind
  pub held : out ≡ placed_at place behind before

pub no_digits : (before : List ℕ) (at n count : ℕ) → at + 20 ≤ length before → count ≡ length (number_text n) → DigitsWritten before at n (at + count) before (at + count) n
no_digits before at n count h e =
    let k : at + count - at ≡ length (number_text n) = omega (arith, e) in
    record {
      behind = [];
      starts = omega arith;
      ends = omega arith;
      inside = omega (arith, e, number_short n);
      same = refl;
      text = rw (append-nil, k) (number_last n);
      held = (placed_none _ _).holds;
    }

module _ (before : List ℕ) (at n end : ℕ) (out : List ℕ) (place rest : ℕ) (h : DigitsWritten before at n end out place rest) where
  -- one digit more, in front of those written
  pub one_digit : (digit : ℕ) → at < place → digit ≡ 48 + rest % 10 → DigitsWritten before at n end (set out (place - 1) digit) (place - 1) (rest / 10)
  one_digit digit k d =
      let p : place ≡ suc (place - 1) = omega arith in
      record {
        behind = digit ∷ h.behind;
        starts = omega arith;
        ends = omega (arith, h.ends);
        inside = h.inside;
        same = length-set out (place - 1) digit ∙ h.same;
        text = rw (last_more (place - 1 - at) (place - at) rest (omega arith), append_assoc, ← d) at h.text;
        held = rw h.held (ap (λ (q : ℕ). set (placed_at q h.behind before) (place - 1) digit) p ∙ placed_front (place - 1) h.behind before digit (omega (arith, h.ends, h.inside)));
      }
