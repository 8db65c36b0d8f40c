-- What the contract of `write_result` says: nothing, the heading and the lines behind it, or the refusal. Assumes nothing.
use Prim.Native.Nat.{ℕ, ◌*◌, ◌≤◌, ◌<◌}
use mathlib.Core.Path.{◌≡◌}
use mathlib.Core.List.{List, ◌++◌}
use lib.ListN.{length}
use Rattle.base.specs.Writing.{Placed}
use Rattle.result.specs.Result.{heading, refused_text, rows, result_text, room, fits, written}
use Rattle.result.proofs.Lent.{Right, short_buffer, short_list, accepted, refused}

module _ (refusal deals : ℕ) (results out : List ℕ) where
  abbrev Ends : ℕ → List ℕ → Type 0
  Ends = Right out (written refusal deals results (length out))

  pub result_too_short : length out < room deals → Ends 0 out
  unfolding written fits
  result_too_short h = short_buffer _ _ (4 * deals) (length results) (result_text refusal deals results) out h

  pub result_too_few : room deals ≤ length out → length results < 4 * deals → Ends 0 out
  unfolding written fits
  result_too_few h k = short_list _ _ _ _ _ out h k

  module _ (enough : room deals ≤ length out) (listed : 4 * deals ≤ length results) (after : List ℕ) (end : ℕ) where
    pub result_lines : refusal ≡ 0 → Placed 0 (heading ++ rows deals results) out after end → Ends end after
    unfolding written fits result_text
    result_lines e p = accepted _ _ _ _ enough listed _ _ out after end e p

    pub result_refused : (refusal ≡ 0 → ⊥) → Placed 0 (refused_text refusal) out after end → Ends end after
    unfolding written fits result_text
    result_refused e p = refused _ _ _ _ enough listed _ (heading ++ rows deals results) out after end e p
