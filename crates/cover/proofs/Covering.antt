-- The state of the loop that covers: the portions of the first i pieces are placed, taken off the exposure, and weighed. Assumes nothing.
use Prim.Native.Nat.{ℕ, ◌+◌, ◌*◌, ◌-◌, ◌≤◌, ◌<◌, min}
use mathlib.Core.Path.{◌≡◌, refl, sym, ◌∙◌}
use mathlib.Core.Bool.{true}
use mathlib.Core.List.{List, ◌++◌, map}
use native.Mathlib.Omega.{arith}
use lib.ListN.{length, take, drop, set, get_or, replicate, length-map}
use lib.Seq.{take_all}
use Rattle.base.specs.All.{all_pass}
use Rattle.base.specs.Places.{in_places}
use Rattle.base.specs.Sum.{sum_of}
use Rattle.base.proofs.Places.{fill_more, placed}
use Rattle.base.proofs.Sum.{sum_take, sum_take_le}
use Rattle.cover.specs.Cover.{before, portion, covered, uncovered, weighted_sum, cover_of}
use Rattle.cover.specs.Limits.{within_limits}
use Rattle.cover.specs.declared.protection.Cover.{Cover}
use Rattle.cover.specs.declared.protection.Protection.{Protection}
use Rattle.cover.proofs.Ahead.{none}
use Rattle.cover.proofs.Bounds.{pieces_bound}
use Rattle.cover.proofs.Limits.{each_small}
use Rattle.cover.proofs.Portions.{conserved, portions_le, covered_at, covered_length}

pub record Covering (E : ℕ) (ps : List Protection) (portions : List ℕ) (left sum i : ℕ) : Type 0 where
  pub in_place : portions ≡ map (λ p. p.value) (take i (covered E ps)) ++ drop i (replicate 16 0)
  pub taken_off : left + sum_of (λ p. p.value) (take i (covered E ps)) ≡ E
  pub weighed : sum ≡ sum_of (λ p. p.value * p.weight) (take i (covered E ps))

pub covering_none : (E : ℕ) (ps : List Protection) → Covering E ps (replicate 16 0) E 0 0
unfolding sum_of
covering_none E ps = record { in_place = refl; taken_off = omega arith; weighed = refl }

module _ {E : ℕ} {ps : List Protection} {portions : List ℕ} {left sum i : ℕ} (s : Covering E ps portions left sum i) where
  pub left_le : left ≤ E
  left_le = omega (arith, s.taken_off)

  pub sum_le : E ≤ 1000000000000 → all_pass ps within_limits ≡ true → sum ≤ 1000000000000000
  sum_le h a =
      omega (
        arith,
        s.weighed,
        sum_take_le (λ p. p.value * p.weight) i (covered E ps),
        pieces_bound 1000 E ps (each_small ps a),
      )

  -- one piece more, of portion r and weight w
  module _ {r w : ℕ} (next : get_or (covered E ps) i none ≡ record { value = r; weight = w }) (h : i < length ps) where
    more_covered : sum_of (λ p. p.value) (take (i + 1) (covered E ps)) ≡ sum_of (λ p. p.value) (take i (covered E ps)) + r
    more_covered = rw next at (sum_take (λ p. p.value) (covered E ps) i none (omega (arith, covered_length E ps)))

    more_weighed : sum_of (λ p. p.value * p.weight) (take (i + 1) (covered E ps)) ≡ sum + r * w
    more_weighed = rw s.weighed (rw next at (sum_take (λ p. p.value * p.weight) (covered E ps) i none (omega (arith, covered_length E ps))))

    -- it is there to be taken off: all portions together are no more than E
    pub portion_left : r ≤ left
    portion_left = omega (arith, s.taken_off, more_covered, sum_take_le (λ p. p.value) (i + 1) (covered E ps), portions_le E ps)

    pub covering_more : i < 16 → Covering E ps (set portions i r) (left - r) (sum + r * w) (i + 1)
    covering_more k = record {
      in_place = rw s.in_place (rw next at (fill_more (λ p. p.value) none i (covered E ps) (replicate 16 0) (omega (arith, covered_length E ps)) k));
      taken_off = omega (arith, s.taken_off, more_covered, portion_left);
      weighed = sym more_weighed;
    }

  -- after the last piece: what is left is the rest, and all is weighed but that
  pub covering_all : (W total : ℕ) → length ps ≡ i → total ≡ sum + left * W →
      ◌≡◌ {A = Cover} (record { portions = portions; uncovered = left; weighted_sum = total }) (cover_of W E ps)
  unfolding weighted_sum
  covering_all W total e t =
      let whole : take i (covered E ps) ≡ covered E ps = take_all i (covered E ps) (omega (arith, covered_length E ps)) in
      let all_placed : portions ≡ in_places 16 0 (map (λ p. p.value) (covered E ps)) =
      (rw whole at s.in_place) ∙
      placed 16 i 0 (map (λ p. p.value) (covered E ps)) (length-map (covered E ps) (λ p. p.value) ∙ covered_length E ps ∙ e) in
      let off : left ≡ uncovered E ps = omega (arith, rw whole at s.taken_off, conserved E ps) in
      rw (all_placed, t, off, s.weighed, whole)

-- the next piece, as the code finds it
pub next_piece : (E : ℕ) (ps : List Protection) (i b r : ℕ) → i < length ps → b ≡ before (get_or ps i none).weight ps (take i ps) → r ≡ min (get_or ps i none).value (E - b) →
    get_or (covered E ps) i none ≡ record { value = r; weight = (get_or ps i none).weight }
unfolding portion
next_piece E ps i b r h e f = covered_at E ps i none h ∙ rw (f, e)
