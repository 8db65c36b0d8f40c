-- The portions fill each level of weight as far as the exposure goes. Assumes nothing.
use Prim.Native.Nat.{ℕ, zero, suc, ◌+◌, ◌-◌, ◌≤◌, ◌<◌, min, max}
use mathlib.Core.Path.{◌≡◌, refl, sym, ◌∙◌, ap, ap₂}
use mathlib.Core.List.{List, [], ◌∷◌, ◌++◌, append-nil}
use native.Mathlib.Nat.{not-suc-le-zero, le_of_suc-le-suc}
use native.Mathlib.Decide.{ℕ_discrete}
use native.Mathlib.Omega.{arith}
use lib.ListN.{length, take, get_or}
use lib.Seq.{append_snoc}
use Rattle.base.specs.Sum.{sum_of}
use Rattle.cover.specs.Cover.{lower_weighted, equal, before, portion, covered_after, covered, uncovered}
use Rattle.base.specs.Each.{Each}
use Rattle.cover.specs.declared.protection.Protection.{Protection}
use Rattle.cover.proofs.Levels.{equal_in, equal_out, level_next, level_zero, level_top, top, before_none, before_next}

-- a piece as covered
abbrev pub piece : ℕ → List Protection → List Protection → Protection → Protection
piece E all earlier p = record { value = portion E all earlier p; weight = p.weight }

module _ (E : ℕ) (all earlier : List Protection) (p : Protection) where
  -- of the pieces of weight w, this one covers up to its value what is left
  equal_piece : (w : ℕ) → equal w (piece E all earlier p) ≡ min (equal w p) (E - before w all earlier)
  unfolding portion
  equal_piece w = go (ℕ_discrete p.weight w)
    where
      go : Dec (p.weight ≡ w) → equal w (piece E all earlier p) ≡ min (equal w p) (E - before w all earlier)
      go (yes e) = equal_in w (piece E all earlier p) e ∙ ap₂ (λ x y. min x (E - before y all earlier)) (sym (equal_in w p e)) e
      go (no n) = omega (arith, equal_out w (piece E all earlier p) n, equal_out w p n)

module _ (E : ℕ) (all : List Protection) where
  -- those of weight w cover what the lower-weighted and the earlier ones leave, up to their values
  fill_level : (w : ℕ) (earlier ps : List Protection) →
      sum_of (equal w) (covered_after E all earlier ps) + (E - (before w all earlier + sum_of (equal w) ps)) ≡ E - before w all earlier
  unfolding sum_of covered_after
  fill_level w earlier [] = omega arith
  fill_level w earlier (p ∷ ps) =
      omega (arith, equal_piece E all earlier p w, before_next w all earlier p, fill_level w (earlier ++ p ∷ []) ps)

  pub length_covered : (earlier ps : List Protection) → length (covered_after E all earlier ps) ≡ length ps
  unfolding covered_after
  length_covered earlier [] = refl
  length_covered earlier (p ∷ ps) = ap suc (length_covered (earlier ++ p ∷ []) ps)

  piece_at : (earlier ps : List Protection) (i : ℕ) (d : Protection) → i < length ps →
      get_or (covered_after E all earlier ps) i d ≡ piece E all (earlier ++ take i ps) (get_or ps i d)
  unfolding covered_after
  piece_at earlier [] i d h = absurd (not-suc-le-zero h)
  piece_at earlier (p ∷ ps) zero d h = rw append-nil
  piece_at earlier (p ∷ ps) (suc i) d h = piece_at (earlier ++ p ∷ []) ps i d (le_of_suc-le-suc h) ∙ rw append_snoc

  -- a piece keeps its weight, and where its value was 0 so is its portion
  pub each_covered : (P : Protection → Type 0) → ((earlier : List Protection) (p : Protection) → P p → P (piece E all earlier p)) → (earlier ps : List Protection) →
      Each P ps → Each P (covered_after E all earlier ps)
  unfolding covered_after
  each_covered P keeps earlier [] h = tt
  each_covered P keeps earlier (p ∷ ps) h = (keeps earlier p h.0, each_covered P keeps (earlier ++ p ∷ []) ps h.1)

  top_covered : (earlier ps : List Protection) → top (covered_after E all earlier ps) ≡ top ps
  unfolding top covered_after
  top_covered earlier [] = refl
  top_covered earlier (p ∷ ps) = ap (λ x. max (suc p.weight) x) (top_covered (earlier ++ p ∷ []) ps)

module _ (E : ℕ) (ps : List Protection) where
  -- up to each weight: covered, and not covered, make up E
  pub filled : (w : ℕ) → sum_of (lower_weighted w) (covered E ps) + (E - sum_of (lower_weighted w) ps) ≡ E
  unfolding covered
  filled zero = omega (arith, level_zero ps, level_zero (covered_after E ps [] ps))
  filled (suc w) =
      omega (arith, filled w, level_next w ps, level_next w (covered_after E ps [] ps), fill_level E ps w [] ps, before_none w ps)

  -- the portions and the rest make up the exposure
  pub conserved : sum_of (λ p. p.value) (covered E ps) + uncovered E ps ≡ E
  unfolding uncovered covered
  conserved =
      omega (
        arith,
        filled (top ps),
        level_top (top ps) ps (omega arith),
        level_top (top ps) (covered E ps) (omega (arith, top_covered E ps [] ps)),
      )

  pub portions_le : sum_of (λ p. p.value) (covered E ps) ≤ E
  portions_le = omega (arith, conserved)

  pub covered_length : length (covered E ps) ≡ length ps
  unfolding covered
  covered_length = length_covered E ps [] ps

  -- each piece by its place
  pub covered_at : (i : ℕ) (d : Protection) → i < length ps → get_or (covered E ps) i d ≡ piece E ps (take i ps) (get_or ps i d)
  unfolding covered
  covered_at i d h = piece_at E ps [] ps i d h
