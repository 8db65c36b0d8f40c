-- How far the absolute nets grow where one received amount grows. Assumes nothing.
use Rattle.std.proofs.Common.{if◌then◌else◌}
use Prim.Native.Nat.{ℕ, ◌+◌, ◌*◌, ◌≤◌}
use mathlib.Core.Path.{◌≡◌, refl, ap}
use mathlib.Core.Bool.{Bool, true, false}
use mathlib.Core.List.{List, ◌∷◌, ◌++◌}
use native.Mathlib.Nat.{mul-le-mul_left, mul-le-mul_right}
use native.Mathlib.Omega.{arith}
use lib.Dec.{eqb}
use lib.IntN.{nat_abs}
use Rattle.base.specs.Sum.{sum_of}
use Rattle.base.proofs.Choice.{if_false, either, either₂}
use Rattle.base.proofs.Sum.{sum_middle}
use Rattle.netting.specs.Groups.{member}
use Rattle.netting.specs.Positions.{is_lent}
use Rattle.netting.specs.Nets.{lent, received, only, net}
use Rattle.netting.specs.Exposure.{security_of, currency_of, security_figure, currency_figure}
use Rattle.netting_laws.specs.Betterments.{with_amount}
use Rattle.netting.specs.declared.group.Group.{Group}
use Rattle.netting.specs.declared.position.Position.{Position}
use Rattle.signed.proofs.Less.{less_abs}
use Rattle.base.proofs.Compare.{eqb_turned}
use Rattle.netting.proofs.Counting.{at}

-- ps' is ps with d more received in every group of p
pub record More (ps ps' : List Position) (p : Position) (d : ℕ) : Type 0 where
  pub lent_same : (g : Group) → sum_of (only (member g) lent) ps' ≡ sum_of (only (member g) lent) ps
  pub received_more : (g : Group) → sum_of (only (member g) received) ps' ≡ sum_of (only (member g) received) ps + (if member g p then d else 0)

module _ (p : Position) (r : is_lent p ≡ false) (g : Group) where
  -- a received position adds to one side alone
  lent_none : only (member g) lent p ≡ 0
  unfolding only lent
  lent_none = either (λ x. x ≡ 0) (member g p) (λ t. if_false (is_lent p) p.amount 0 r) (λ t. refl)

  received_all : only (member g) received p ≡ (if member g p then p.amount else 0)
  unfolding only received
  received_all = ap (λ x. if member g p then x else 0) (if_false (is_lent p) 0 p.amount r)

same_groups : (g : Group) (p : Position) (d : ℕ) → member g (with_amount (p.amount + d) p) ≡ member g p
same_groups (Group.Security k) p d = refl
same_groups (Group.Currency k) p d = refl
same_groups Group.All p d = refl

split_choice : (t : Bool) (a d : ℕ) → (if t then (a + d) else 0) ≡ (if t then a else 0) + (if t then d else 0)
split_choice true a d = refl
split_choice false a d = omega arith

module _ (xs ys : List Position) (p : Position) (r : is_lent p ≡ false) where
  -- one more received position
  pub more_inserted : More (xs ++ ys) (xs ++ p ∷ ys) p p.amount
  more_inserted = record {
    lent_same = λ g. omega (arith, sum_middle (only (member g) lent) xs ys p, lent_none p r g);
    received_more = λ g. omega (arith, sum_middle (only (member g) received) xs ys p, received_all p r g);
  }

  -- a larger one
  pub more_larger : (d : ℕ) → More (xs ++ p ∷ ys) (xs ++ with_amount (p.amount + d) p ∷ ys) p d
  more_larger d = record {
    lent_same =
        λ g. omega (
          arith,
          sum_middle (only (member g) lent) xs ys p,
          sum_middle (only (member g) lent) xs ys (with_amount (p.amount + d) p),
          lent_none p r g,
          lent_none (with_amount (p.amount + d) p) r g,
        );
    received_more =
        λ g. omega (
          arith,
          sum_middle (only (member g) received) xs ys p,
          sum_middle (only (member g) received) xs ys (with_amount (p.amount + d) p),
          received_all p r g,
          received_all (with_amount (p.amount + d) p) r g,
          ap (λ t. if t then (p.amount + d) else 0) (same_groups g p d),
          split_choice (member g p) p.amount d,
        );
  }

-- a product with a number that has grown
grown : (t : Bool) (n n' d c w : ℕ) → n' ≤ n + (if t then d else 0) → c ≤ w → n' * c ≤ n * c + (if t then (d * w) else 0)
grown true n n' d c w h k = omega (arith, mul-le-mul_right c h, mul-le-mul_left d k)
grown false n n' d c w h k = omega (arith, mul-le-mul_right c h)

module _ {ps ps' : List Position} {p : Position} {d : ℕ} (more : More ps ps' p d) where
  -- an absolute net grows by d at most, and only in the groups of p
  pub abs_grows : (g : Group) → nat_abs (net (member g) ps') ≤ nat_abs (net (member g) ps) + (if member g p then d else 0)
  unfolding net
  abs_grows g =
      omega (
        arith,
        less_abs (sum_of (only (member g) lent) ps) (sum_of (only (member g) received) ps),
        less_abs (sum_of (only (member g) lent) ps') (sum_of (only (member g) received) ps'),
        more.lent_same g,
        more.received_more g,
      )

  pub security_grows : (cut : Position → ℕ) (w : ℕ) (q : Position) → cut q ≤ w →
      security_figure cut ps' q ≤ security_figure cut ps q + only (at security_of p.security) (λ x. d * w) q
  unfolding security_figure only
  security_grows cut w q h =
      either₂ (λ a b. a ≤ b + (if eqb q.security p.security then (d * w) else 0)) (eqb q.security 0) {a = 0} {c = 0} (λ t. omega arith)
      (λ t. rw (eqb_turned q.security p.security) (grown (eqb p.security q.security) _ _ d (cut q) w (abs_grows (Group.Security q.security)) h))

  pub currency_grows : (settlement fx : ℕ) (q : Position) →
      currency_figure settlement fx ps' q ≤ currency_figure settlement fx ps q + only (at currency_of p.currency) (λ x. d * fx) q
  unfolding currency_figure only
  currency_grows settlement fx q =
      either₂ (λ a b. a ≤ b + (if eqb q.currency p.currency then (d * fx) else 0)) (eqb q.currency settlement) {a = 0} {c = 0} (λ t. omega arith)
      (λ t. rw (eqb_turned q.currency p.currency) (grown (eqb p.currency q.currency) _ _ d fx fx (abs_grows (Group.Currency q.currency)) (omega arith)))
