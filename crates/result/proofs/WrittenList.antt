-- What the contract of `write_list` says: nothing, the lines of the numbers, or the refusal. Assumes nothing.
use Prim.Native.Nat.{ℕ, ◌≤◌, ◌<◌}
use mathlib.Core.Path.{◌≡◌}
use mathlib.Core.List.{List}
use lib.ListN.{length}
use Rattle.base.specs.Writing.{Placed}
use Rattle.result.specs.Result.{refused_text}
use Rattle.result.specs.List.{number_lines, list_text, list_room, list_fits, list_written}
use Rattle.result.proofs.Lent.{Right, short_buffer, short_list, accepted, refused}

module _ (refusal count : ℕ) (numbers out : List ℕ) where
  abbrev Ends : ℕ → List ℕ → Type 0
  Ends = Right out (list_written refusal count numbers (length out))

  pub list_too_short : length out < list_room count → Ends 0 out
  unfolding list_written list_fits
  list_too_short h = short_buffer _ _ count (length numbers) (list_text refusal count numbers) out h

  pub list_too_few : list_room count ≤ length out → length numbers < count → Ends 0 out
  unfolding list_written list_fits
  list_too_few h k = short_list _ _ _ _ _ out h k

  module _ (enough : list_room count ≤ length out) (listed : count ≤ length numbers) (after : List ℕ) (end : ℕ) where
    pub list_lines : refusal ≡ 0 → Placed 0 (number_lines count numbers) out after end → Ends end after
    unfolding list_written list_fits list_text
    list_lines e p = accepted _ _ _ _ enough listed _ _ out after end e p

    pub list_refused : (refusal ≡ 0 → ⊥) → Placed 0 (refused_text refusal) out after end → Ends end after
    unfolding list_written list_fits list_text
    list_refused e p = refused _ _ _ _ enough listed _ (number_lines count numbers) out after end e p
