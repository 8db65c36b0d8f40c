-- The stored figures are those that scaling gives: what the test of the whole table, the contract of `stored_figures`, says of each line. Assumes
-- nothing.
use Rattle.std.specs.Prelude.{Option, Some, None}
use Prim.Native.Nat.{ℕ, zero, suc, ◌*◌, ◌/◌, ◌≤◌, ◌<◌}
use mathlib.Core.Logic.{◌⊎◌, inl, inr}
use mathlib.Core.Path.{◌≡◌, refl}
use mathlib.Core.Bool.{Bool, true, false, ◌||◌}
use mathlib.Core.List.{List, [], ◌∷◌, map}
use native.Mathlib.Nat.{le_of_suc-le-suc, not-suc-le-zero}
use native.Mathlib.Omega.{arith}
use lib.Dec.{eqb, leb}
use lib.ListN.{get_or, length}
use borrow.Author.Tests.{eqb-true, lt-leb, ne_eqb}
use Rattle.base.specs.All.{all_pass}
use Rattle.base.specs.Least.{between, least}
use Rattle.base.proofs.Choice.{either, never}
use Rattle.base.proofs.Every.{both, every_at}
use Rattle.base.proofs.Tests.{or_false}
use Rattle.scaling.specs.Scaling.{scaled}
use Rattle.scaling.specs.Stored.{among, figure_over, is_daily, is_stored, over_daily, stored_figures, stored_haircuts, stored_line}

-- what the table has at a place is the line of the haircut at that place
line_at : (Hs : List ℕ) (at : ℕ) (d : List ℕ) → at < length Hs → get_or (map over_daily Hs) at d ≡ over_daily (get_or Hs at 0)
line_at [] at d h = absurd (not-suc-le-zero h)
line_at (H ∷ Hs) zero d h = refl
line_at (H ∷ Hs) (suc at) d h = line_at Hs at d (le_of_suc-le-suc h)

-- each is a table haircut
stored_at : (at : ℕ) → at < 15 → is_stored (get_or stored_haircuts at 0) ≡ true
unfolding is_stored
stored_at = every_at 15 (λ at. is_stored (get_or stored_haircuts at 0)) refl

-- THE LAW: a table that passed the test of `stored_figures` has at each place the line of the haircut there
pub line_right : (H at : ℕ) (table : List (List ℕ)) (d : List ℕ) → at < 15 → H ≡ get_or stored_haircuts at 0 → table ≡ stored_figures → Some (get_or table at d) ≡ stored_line H
unfolding stored_line
line_right H at table d h e t = rw (t, line_at stored_haircuts at d h, e, stored_at at h)

-- a haircut that is not stored has no line
pub no_line : (H : ℕ) → is_stored H ≡ false → None ≡ stored_line H
unfolding stored_line
no_line H e = rw e

-- what a line that was found says of its haircut
abbrev pub HasFigures : ℕ → Option (List ℕ) → Type 0
HasFigures H (Some figures) = (is_stored H ≡ true) × (figures ≡ over_daily H)
HasFigures H None = is_stored H ≡ false

pub has_figures : (H : ℕ) {line : Option (List ℕ)} → line ≡ stored_line H → HasFigures H line
unfolding stored_line
has_figures H e = rw e (either (HasFigures H) (is_stored H) (λ t. (t, refl)) (λ f. f))

-- the same where the haircut is so many percents
pub percents_right : (H k at : ℕ) (table : List (List ℕ)) → table ≡ stored_figures → H ≤ H / 10000 * 10000 → H / 10000 ≡ k → at < 15 → eqb (get_or stored_haircuts at 0) (k * 10000) ≡ true → Some (get_or table at []) ≡ stored_line H
percents_right H k at table t h e l p =
    line_right H at table [] l (let q = eqb-true _ _ p in omega (arith, h, e, q)) t

-- WHAT IS NOT STORED: a haircut that fails a test which every stored one passes
apart : (test : ℕ → Bool) (xs : List ℕ) (H : ℕ) → all_pass xs test ≡ true → test H ≡ false → among xs H ≡ false
apart test [] H p f = refl
apart test (x ∷ xs) H p f =
    let q = both (test x) (all_pass xs test) p in
    or_false _ _ (ne_eqb H x (λ e. never q.0 (rw e at f))) (apart test xs H q.1 f)

-- one that is neither half a percent nor whole percents
pub not_half : (H : ℕ) → H / 10000 * 10000 < H → (H ≡ 5000 → ⊥) → is_stored H ≡ false
unfolding is_stored
not_half H h n = apart (λ x. eqb x 5000 || leb x (x / 10000 * 10000)) stored_haircuts H refl (or_false _ _ (ne_eqb H 5000 n) (lt-leb _ _ h))

-- none of the numbers of a list, as `match` tells it: what was left before, and then the next
abbrev pub NoneOf : Type 0 → List ℕ → ℕ → Type 0
NoneOf Before [] k = Before
NoneOf Before (x ∷ xs) k = NoneOf (Before × (k ≡ x → ⊥)) xs k

none_among : (Before : Type 0) (xs : List ℕ) (k : ℕ) → NoneOf Before xs k → Before × (among xs k ≡ false)
none_among Before [] k n = (n, refl)
none_among Before (x ∷ xs) k n =
    let p = none_among (Before × (k ≡ x → ⊥)) xs k n in (p.0.0, or_false _ _ (ne_eqb _ _ p.0.1) p.1)

-- whole percents, but none of the stored ones
abbrev stored_percents : List ℕ
stored_percents = 0 ∷ 1 ∷ 2 ∷ 3 ∷ 4 ∷ 6 ∷ 8 ∷ 12 ∷ 15 ∷ 16 ∷ 20 ∷ 24 ∷ 25 ∷ 30 ∷ []

pub other_percents : (H : ℕ) → H ≤ H / 10000 * 10000 → NoneOf Unit stored_percents (H / 10000) → is_stored H ≡ false
unfolding is_stored
other_percents H h n =
    apart (λ x. eqb x 5000 || among stored_percents (x / 10000)) stored_haircuts H refl
    (or_false _ _ (ne_eqb H 5000 (λ e. absurd (omega (arith, h, e)))) (none_among Unit stored_percents (H / 10000) n).1)

-- there are three daily periods
pub daily_are : (n : ℕ) → is_daily n ≡ true → (n ≡ 5) ⊎ ((n ≡ 10) ⊎ (n ≡ 20))
unfolding is_daily
daily_are n d = go (eqb n 5) (eqb n 10) refl refl
  where
    go : (a b : Bool) → eqb n 5 ≡ a → eqb n 10 ≡ b → (n ≡ 5) ⊎ ((n ≡ 10) ⊎ (n ≡ 20))
    go true b e f = inl (eqb-true n 5 e)
    go false true e f = inr (inl (eqb-true n 10 f))
    go false false e f = inr (inr (eqb-true n 20 (rw (e, f) at d)))

-- the figure over a daily period
pub over_right : (H n : ℕ) {figures : List ℕ} → is_daily n ≡ true → figures ≡ over_daily H → figure_over n figures ≡ scaled H n
unfolding figure_over is_daily
over_right H n {figures} d e =
    rw e
    (either (λ r. r ≡ scaled H n) (eqb n 5) (λ e. rw (eqb-true n 5 e) refl)
    (λ e. either (λ r. r ≡ scaled H n) (eqb n 10) (λ f. rw (eqb-true n 10 f) refl) (λ f. rw (eqb-true n 20 (rw (e, f) at d)) refl)))

-- so the figure that is taken is the one that scaling gives
pub taken : (H n : ℕ) {figures : List ℕ} → is_daily n ≡ true → Some figures ≡ stored_line H → figure_over n figures ≡ scaled H n
taken H n d e = over_right H n d (has_figures H e).1

-- of the whole, too
pub whole_right : (n : ℕ) → is_daily n ≡ true → figure_over n (707107 ∷ 1000000 ∷ 1414214 ∷ []) ≡ scaled 1000000 n
unfolding scaled least between
whole_right n d = over_right 1000000 n d refl
