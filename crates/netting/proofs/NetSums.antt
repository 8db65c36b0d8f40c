-- Nets summed one position at a time, and their range. Assumes nothing.
use Rattle.std.proofs.Common.{if◌then◌else◌}
use Prim.Native.Nat.{ℕ, ◌+◌, ◌≤◌, ◌<◌}
use mathlib.Core.Path.{◌≡◌, refl, sym, ap, ◌∙◌}
use mathlib.Core.Bool.{Bool, true, false}
use lib.Seq.{take_all}
use mathlib.Core.List.{List, [], ◌∷◌}
use native.Mathlib.Omega.{arith}
use lib.IntN.{ℤ, pos, nat_abs, ◌+ℤ◌}
use lib.ListN.{length, take, get_or}
use mir.Syntax.{w64}
use mir.Val.{SFits}
use Rattle.base.specs.Sum.{sum_of}
use Rattle.base.proofs.Sum.{sum_part, sum_take, sum_mono, sum_add, sum_eq}
use Rattle.signed.specs.Signed.{◌less◌}
use Rattle.netting.specs.Nets.{lent, received, only, net}
use Rattle.netting.specs.Positions.{amount_of}
use Rattle.netting.specs.declared.position.Position.{Position}
use Rattle.signed.proofs.Less.{less_zero, less_fits, less_abs, less_same}
use Rattle.signed.proofs.Machine.{added}
-- the worked sets are checked before the laws
use Rattle.netting.proofs.Sides.{sides, only_in, only_out, only_le, only_sides, lent_in, lent_out, received_in, received_out}

-- one amount is within their sum
pub amount_le : (ps : List Position) (i : ℕ) (d : Position) → i < length ps → sum_of amount_of ps ≤ 1000000000000 → (get_or ps i d).amount ≤ 1000000000000
amount_le ps i d k b = omega (arith, sum_take amount_of ps i d k, sum_part amount_of (i + 1) (length ps) ps (omega arith), ap (sum_of amount_of) (take_all (length ps) ps (omega arith)))

-- what was lent is within the amounts
pub lent_le : (ps : List Position) → sum_of lent ps ≤ sum_of amount_of ps
lent_le ps = sum_mono lent amount_of (λ p. omega (arith, sides p)) ps

module _ (p : Position) where
  pub signed_lent : p.side ≡ 1 → lent p less received p ≡ pos p.amount
  signed_lent s = rw (lent_in p s, received_out p s) (less_zero p.amount)

  pub signed_received : (p.side ≡ 1 → ⊥) → lent p less received p ≡ 0 less p.amount
  signed_received s = rw (lent_out p s, received_in p s) refl

-- what a position adds to a net
abbrev pub signed_amount : Bool → Position → ℤ
signed_amount counts p = if counts then lent p less received p else pos 0

module _ (counts : Position → Bool) where
  -- both sides of a net make up the amounts that count
  pub by_side : (ps : List Position) → sum_of (only counts lent) ps + sum_of (only counts received) ps ≡ sum_of (only counts amount_of) ps
  by_side ps =
      omega (
        arith,
        sum_add (only counts lent) (only counts received) ps,
        sum_eq (λ p. only counts lent p + only counts received p) (only counts amount_of) (only_sides counts) ps,
      )

  pub counted_le : (ps : List Position) → sum_of (only counts amount_of) ps ≤ sum_of amount_of ps
  counted_le ps = sum_mono (only counts amount_of) amount_of (only_le counts amount_of) ps

  pub net_fits : (ps : List Position) → sum_of amount_of ps ≤ 1000000000000 → SFits w64 (net counts ps)
  unfolding net
  net_fits ps h = less_fits _ _ (omega (arith, by_side ps, counted_le ps)) (omega (arith, by_side ps, counted_le ps))

  pub net_abs_le : (ps : List Position) → nat_abs (net counts ps) ≤ sum_of (only counts amount_of) ps
  unfolding net
  net_abs_le ps = omega (arith, less_abs (sum_of (only counts lent) ps) (sum_of (only counts received) ps), by_side ps)

  -- within the program's limits
  pub net_small : (ps : List Position) → sum_of amount_of ps ≤ 1000000000000 → nat_abs (net counts ps) ≤ 1000000000000
  net_small ps h = omega (arith, net_abs_le ps, counted_le ps, h)

  pub net_none : pos 0 ≡ net counts []
  unfolding net sum_of
  net_none = sym (less_zero 0)

  -- one position more
  by_sides : (p : Position) → signed_amount (counts p) p ≡ only counts lent p less only counts received p
  unfolding only
  by_sides p = go (counts p)
    where
      go : (t : Bool) → (if t then lent p less received p else pos 0) ≡ (if t then lent p else 0) less (if t then received p else 0)
      go true = refl
      go false = sym (less_zero 0)

  module _ (ps : List Position) (i : ℕ) (d : Position) (h : i < length ps) (x : ℤ) (e : x ≡ net counts (take i ps)) where
    pub net_more : (y : ℤ) → y ≡ lent (get_or ps i d) less received (get_or ps i d) → counts (get_or ps i d) ≡ true → x +ℤ y ≡ net counts (take (i + 1) ps)
    unfolding net
    net_more y f t =
        added x y _ _ _ _ e f
        ∙ less_same _ _ _ _ (omega (arith, sum_take (only counts lent) ps i d h, sum_take (only counts received) ps i d h, only_in counts lent (get_or ps i d) t, only_in counts received (get_or ps i d) t))

    pub net_same : counts (get_or ps i d) ≡ false → x ≡ net counts (take (i + 1) ps)
    unfolding net
    net_same t =
        e
        ∙ less_same _ _ _ _ (omega (arith, sum_take (only counts lent) ps i d h, sum_take (only counts received) ps i d h, only_out counts lent (get_or ps i d) t, only_out counts received (get_or ps i d) t))

  -- so a net is a signed sum: lent amounts with a plus, received ones with a minus
  pub net_sum : (p : Position) (ps : List Position) → net counts (p ∷ ps) ≡ signed_amount (counts p) p +ℤ net counts ps
  unfolding net sum_of
  net_sum p ps = sym (added _ _ _ _ _ _ (by_sides p) refl)
