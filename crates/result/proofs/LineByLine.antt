-- A text written line by line: the lines written and those left are all. Assumes nothing.
use Prim.Native.Nat.{ℕ, ◌+◌, ◌≤◌}
use mathlib.Core.Path.{◌≡◌, refl, ◌∙◌}
use mathlib.Core.List.{List, [], ◌++◌, append_assoc, append-nil}
use native.Mathlib.Omega.{arith}
use lib.ListN.{length, length-append}
use Rattle.base.specs.Writing.{Placed}
use Rattle.base.proofs.Writing.{placed_none, placed_joined}

-- of the whole text, what is written, at most so many bytes up to this place, and what is left
pub record PartWritten (whole before : List ℕ) (at most : ℕ) (out : List ℕ) (place : ℕ) (left : List ℕ) : Type 0 where
  pub done : List ℕ
  pub few : length done ≤ most
  pub same : length out ≡ length before
  pub text : whole ≡ done ++ left
  pub held : Placed at done before out place

module _ (whole before : List ℕ) (at : ℕ) where
  pub none_written : PartWritten whole before at 0 before at whole
  none_written = record { done = []; few = omega arith; same = refl; text = refl; held = placed_none at before }

  module _ (most : ℕ) (out : List ℕ) (place : ℕ) (left : List ℕ) (h : PartWritten whole before at most out place left) where
    pub line_written : (line behind after : List ℕ) (end longest : ℕ) → at ≤ length before → left ≡ line ++ behind → length line ≤ longest → length after ≡ length out →
        Placed place line out after end → PartWritten whole before at (most + longest) after end behind
    line_written line behind after end longest r e l s p =
        record {
          done = h.done ++ line;
          few = omega (arith, h.few, length-append h.done line);
          same = s ∙ h.same;
          text = h.text ∙ rw (e, append_assoc h.done line behind);
          held = placed_joined at h.done line before out after place end r h.held p;
        }

    pub whole_written : left ≡ [] → Placed at whole before out place
    whole_written e = rw (h.text, e, append-nil) h.held
