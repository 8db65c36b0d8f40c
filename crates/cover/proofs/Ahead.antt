-- What covers before a piece, summed piece by piece. Assumes nothing.
use Rattle.std.proofs.Common.{if◌then◌else◌}
use Prim.Native.Nat.{ℕ, suc, ◌+◌, ◌≤◌, ◌<◌}
use mathlib.Core.Path.{◌≡◌}
use mathlib.Core.Bool.{Bool}
use mathlib.Core.List.{List}
use mathlib.Core.Logic.{⊎_elim}
use native.Mathlib.Omega.{arith}
use lib.Dec.{ltb}
use lib.ListN.{length, take, get_or, length-take}
use lib.Seq.{take_all, get_or-take}
use borrow.Author.Tests.{lt-ltb, le-ltb}
use Rattle.base.specs.Sum.{sum_of}
use Rattle.base.proofs.Choice.{either, if_true, if_false}
use Rattle.base.proofs.Sum.{sum_take}
use Rattle.cover.specs.Cover.{lower_weighted, equal, before}
use Rattle.cover.specs.declared.protection.Protection.{Protection}
use Rattle.base.proofs.Compare.{side}
use Rattle.cover.proofs.Levels.{lower_weighted_le, lower_weighted_next}

-- what an array is read as past its end
abbrev pub none : Protection
none = record { value = 0; weight = 0 }

-- what of one piece covers before one of weight w
abbrev pub ahead : ℕ → Protection → Bool → ℕ
ahead w p earlier = lower_weighted w p + (if earlier then equal w p else 0)

module _ (w : ℕ) (p : Protection) (earlier : Bool) where
  pub ahead_le : ahead w p earlier ≤ p.value
  ahead_le =
      either (λ x. lower_weighted w p + x ≤ p.value) earlier (λ t. omega (arith, lower_weighted_next w p, lower_weighted_le (suc w) p))
      (λ t. omega (arith, lower_weighted_le w p))

-- one element more, of those before a place
earlier_more : {A : Type 0} (f : A → ℕ) (xs : List A) (i place : ℕ) (d : A) → i < length xs →
    sum_of f (take (i + 1) (take place xs)) ≡ sum_of f (take i (take place xs)) + (if ltb i place then f (get_or xs i d) else 0)
earlier_more f xs i place d h = ⊎_elim in_front past (side i place)
  where
    Step : ℕ → Type 0
    Step x = sum_of f (take (i + 1) (take place xs)) ≡ sum_of f (take i (take place xs)) + x

    in_front : i < place → Step (if ltb i place then f (get_or xs i d) else 0)
    in_front k =
        rw (if_true (ltb i place) (f (get_or xs i d)) 0 (lt-ltb i place k), ← (get_or-take place xs i d k))
        (sum_take f (take place xs) i d (omega (arith, length-take place xs)))

    past : place ≤ i → Step (if ltb i place then f (get_or xs i d) else 0)
    past k =
        rw (
          if_false (ltb i place) (f (get_or xs i d)) 0 (le-ltb i place k),
          take_all (i + 1) (take place xs) (omega (arith, length-take place xs)),
          take_all i (take place xs) (omega (arith, length-take place xs)),
        )
        (omega arith)

-- the sum over the first i pieces
abbrev pub ahead_to : ℕ → List Protection → ℕ → ℕ → ℕ
ahead_to w ps place i = sum_of (lower_weighted w) (take i ps) + sum_of (equal w) (take i (take place ps))

module _ (w : ℕ) (ps : List Protection) (place i : ℕ) where
  pub ahead_more : (d : Protection) (sum more : ℕ) → i < length ps → more ≡ ahead w (get_or ps i d) (ltb i place) → sum ≡ ahead_to w ps place i →
      sum + more ≡ ahead_to w ps place (i + 1)
  ahead_more d sum more h e s = omega (arith, sum_take (lower_weighted w) ps i d h, earlier_more (equal w) ps i place d h)

  pub ahead_all : length ps ≤ i → ahead_to w ps place i ≡ before w ps (take place ps)
  unfolding before
  ahead_all h = rw (take_all i ps h, take_all i (take place ps) (omega (arith, length-take place ps)))
