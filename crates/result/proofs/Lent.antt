-- A text, or a refusal's, written from the front of a lent buffer where buffer and list are long enough; elsewhere nothing. Assumes nothing.
use Rattle.std.proofs.Common.{if◌then◌else◌}
use Prim.Native.Nat.{ℕ, ◌≤◌, ◌<◌}
use mathlib.Core.Path.{◌≡◌, refl}
use mathlib.Core.Bool.{false, ◌&&◌}
use mathlib.Core.List.{List, [], ◌++◌}
use borrow.Author.Tests.{le-leb, lt-leb, eq-eqb, ne_eqb}
use native.Mathlib.Nat.{zero-add}
use native.Mathlib.Omega.{arith}
use lib.Dec.{eqb, leb}
use lib.ListN.{length, drop}
use Rattle.base.specs.Writing.{placed_at, Placed}
use Rattle.base.proofs.Choice.{if_true, if_false}
use Rattle.base.proofs.Tests.{and_true, and_first, and_second}
use Rattle.result.specs.Result.{refused_text}

-- what a contract says of a text, a length and a buffer
abbrev pub Right : List ℕ → List ℕ → ℕ → List ℕ → Type 0
Right out text end after = (end ≡ length text) × (after ≡ text ++ drop (length text) out)

-- the text where the room wanted is lent, and the list has the places wanted
abbrev pub fitting : ℕ → ℕ → ℕ → ℕ → List ℕ → List ℕ
fitting room space wanted places text = if leb room space && leb wanted places then text else []

-- a text, or a refusal's
abbrev pub or_refused : ℕ → List ℕ → List ℕ
or_refused refusal text = if eqb refusal 0 then text else refused_text refusal

module _ (room space wanted places : ℕ) (text out : List ℕ) where
  nothing : (leb room space && leb wanted places) ≡ false → Right out (fitting room space wanted places text) 0 out
  nothing e = rw (if_false _ text [] e) (refl, refl)

  pub short_buffer : space < room → Right out (fitting room space wanted places text) 0 out
  short_buffer h = nothing (and_first _ _ (lt-leb _ _ h))

  pub short_list : room ≤ space → places < wanted → Right out (fitting room space wanted places text) 0 out
  short_list h k = nothing (and_second _ _ (le-leb _ _ h) (lt-leb _ _ k))

module _ (room space wanted places : ℕ) (enough : room ≤ space) (listed : wanted ≤ places) where
  pub fitting_whole : (text : List ℕ) → fitting room space wanted places text ≡ text
  fitting_whole text = if_true _ _ _ (and_true _ _ (le-leb _ _ enough) (le-leb _ _ listed))

  module _ (refusal : ℕ) (text out after : List ℕ) (end : ℕ) where
    whole : Placed 0 (or_refused refusal text) out after end → Right out (fitting room space wanted places (or_refused refusal text)) end after
    unfolding placed_at
    whole p = rw (fitting_whole (or_refused refusal text)) (omega (arith, p.ends), rw zero-add at p.holds)

    pub accepted : refusal ≡ 0 → Placed 0 text out after end → Right out (fitting room space wanted places (or_refused refusal text)) end after
    accepted e p = whole (rw (if_true _ text (refused_text refusal) (eq-eqb _ _ e)) p)

    pub refused : (refusal ≡ 0 → ⊥) → Placed 0 (refused_text refusal) out after end → Right out (fitting room space wanted places (or_refused refusal text)) end after
    refused e p = whole (rw (if_false _ text (refused_text refusal) (ne_eqb _ _ e)) p)
