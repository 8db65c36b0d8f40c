-- The weighted sum depends on nothing but what weighs less than each weight: so not on the order of the pieces, nor on whether one comes whole
-- or in two. 02: L7. Assumes nothing.
use Prim.Native.Nat.{ℕ, suc, ◌+◌, ◌*◌, ◌-◌, ◌≤◌, ◌<◌, max}
use mathlib.Core.Path.{◌≡◌, sym, ap, ◌∙◌}
use mathlib.Core.List.{List, [], ◌∷◌}
use mathlib.Core.Logic.{inr, ⊎_elim}
use native.Mathlib.Omega.{arith}
use Rattle.base.specs.Reordered.{Inserted, Reordered}
use Rattle.base.specs.Sum.{sum_of}
use Rattle.base.proofs.Compare.{side}
use Rattle.base.proofs.Reordered.{sum_inserted, sum_reordered}
use Rattle.base.proofs.SumBelow.{below_eq}
use Rattle.cover.specs.Cover.{covered, equal, lower_weighted, uncovered, weighted_sum}
use Rattle.cover.specs.declared.protection.Protection.{Protection}
use Rattle.cover.proofs.Levels.{level_next, level_top, lower_weighted_in, lower_weighted_out, top}
use Rattle.cover.proofs.Portions.{filled}
use Rattle.cover_laws.specs.ByHand.{sum_by_hand}
use Rattle.cover_laws.specs.Layers.{EachLowerWeighted}
use Rattle.cover_laws.proofs.Layers.{weighted_layers}
use Rattle.cover_laws.proofs.Order.{in_rising_order, sum_sort}

-- the worked examples are checked before the laws

-- THE SUM BY HAND IS THE WEIGHTED SUM
pub by_hand : (W E : ℕ) (ps : List Protection) → sum_by_hand W E ps ≡ weighted_sum W E ps
unfolding sum_by_hand weighted_sum uncovered
by_hand W E ps =
    let f : Protection → ℕ = λ p. p.value * p.weight in
    omega (arith, ap (sum_of f) (in_rising_order E ps), sum_sort f (covered E ps))

-- every piece weighs less than one above all of them
below_top : (B : ℕ) (ps : List Protection) → top ps ≤ B → EachLowerWeighted B ps
unfolding top
below_top B [] h = tt
below_top B (p ∷ ps) h = (inr (omega arith), below_top B ps (omega arith))

-- the counterparty's weight is borne by the rest alone
exchange : (W B E : ℕ) (ps : List Protection) → weighted_sum W E ps + uncovered E ps * B ≡ weighted_sum B E ps + uncovered E ps * W
unfolding weighted_sum
exchange W B E ps = omega arith

-- the rest depends on the sum of all values
pub same_rest : (E : ℕ) (ps ps' : List Protection) → sum_of (λ p. p.value) ps ≡ sum_of (λ p. p.value) ps' → uncovered E ps ≡ uncovered E ps'
unfolding uncovered
same_rest E ps ps' e = ap (λ x. E - x) e

-- THE LAW: two lists of which as much weighs less than each weight, whatever their pieces weigh
pub same_levels : (W E : ℕ) (ps ps' : List Protection) → ((w : ℕ) → sum_of (lower_weighted w) ps ≡ sum_of (lower_weighted w) ps') → weighted_sum W E ps ≡ weighted_sum W E ps'
same_levels W E ps ps' h =
    let B = max (top ps) (top ps') in
    let left = same_rest E ps ps' (omega (arith, h B, level_top B ps (omega arith), level_top B ps' (omega arith))) in
    omega (
      arith,
      exchange W B E ps,
      exchange W B E ps',
      ap (λ x. x * B) left,
      ap (λ x. x * W) left,
      weighted_layers B E ps (below_top B ps (omega arith)),
      weighted_layers B E ps' (below_top B ps' (omega arith)),
      below_eq B (λ l. E - sum_of (lower_weighted (suc l)) ps) (λ l. E - sum_of (lower_weighted (suc l)) ps') (λ l k. omega (arith, h (suc l))),
    )

-- any order, and so of the sum by hand
module _ (W E : ℕ) {ps ps' : List Protection} (r : Reordered ps ps') where
  pub any_order : weighted_sum W E ps ≡ weighted_sum W E ps'
  any_order = same_levels W E ps ps' (λ w. sum_reordered (lower_weighted w) r)

  pub any_order_by_hand : sum_by_hand W E ps ≡ sum_by_hand W E ps'
  any_order_by_hand = by_hand W E ps ∙ any_order ∙ sym (by_hand W E ps')

  pub rest_any_order : uncovered E ps ≡ uncovered E ps'
  rest_any_order = same_rest E ps ps' (sum_reordered (λ p. p.value) r)

  -- and what the pieces of each weight cover together: so one of a weight of its own covers what it did
  below_any_order : (w : ℕ) → sum_of (lower_weighted w) (covered E ps) ≡ sum_of (lower_weighted w) (covered E ps')
  below_any_order w = omega (arith, filled E ps w, filled E ps' w, sum_reordered (lower_weighted w) r)

  pub each_weight_any_order : (w : ℕ) → sum_of (equal w) (covered E ps) ≡ sum_of (equal w) (covered E ps')
  each_weight_any_order w =
      omega (arith, level_next w (covered E ps), level_next w (covered E ps'), below_any_order w, below_any_order (suc w))

-- one piece, or two of its weight whose values add up to its own, wherever they stand
lower_weighted_split : (w : ℕ) (p q r : Protection) → q.weight ≡ p.weight → r.weight ≡ p.weight → q.value + r.value ≡ p.value →
    lower_weighted w q + lower_weighted w r ≡ lower_weighted w p
lower_weighted_split w p q r eq er e =
    ⊎_elim
    (λ (h : p.weight < w). omega (arith, lower_weighted_in w p h, lower_weighted_in w q (omega arith), lower_weighted_in w r (omega arith)))
    (λ (h : w ≤ p.weight). omega (arith, lower_weighted_out w p h, lower_weighted_out w q (omega arith), lower_weighted_out w r (omega arith)))
    (side p.weight w)

pub split_piece : (W E : ℕ) {p q r : Protection} {others whole some both : List Protection} →
    q.weight ≡ p.weight → r.weight ≡ p.weight → q.value + r.value ≡ p.value →
    Inserted p others whole → Inserted q others some → Inserted r some both → weighted_sum W E whole ≡ weighted_sum W E both
split_piece W E {p} {q} {r} {others} {whole} {some} {both} eq er e i j k =
    same_levels W E whole both
    (λ w. omega (
      arith,
      sum_inserted (lower_weighted w) i,
      sum_inserted (lower_weighted w) j,
      sum_inserted (lower_weighted w) k,
      lower_weighted_split w p q r eq er e,
    ))
