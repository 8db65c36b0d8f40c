-- A set of tables has the laws of any such set where one test over all its cells passes. Assumes nothing.
use Prim.Native.Nat.{ℕ, ◌≤◌, ◌<◌}
use mathlib.Core.Path.{◌≡◌}
use mathlib.Core.Bool.{Bool, true, ◌&&◌}
use native.Mathlib.Omega.{arith}
use lib.Dec.{leb}
use borrow.Author.Tests.{leb-true, le-leb}
use Rattle.base.proofs.Every.{every, implies, both, implied, every_at}
use Rattle.base.proofs.Tests.{and_true}
use Rattle.tables.specs.Table.{Table, TableLaws, NoWorseStep}

abbrev better : ℕ → ℕ → Bool
better s s' = leb 1 s' && leb s' s

is_better : (s s' : ℕ) → NoWorseStep s' s → better s s' ≡ true
is_better s s' r = and_true _ _ (le-leb 1 s' r.0) (le-leb s' s r.1.0)

module _ (t : Table) (sample : ℕ → ℕ) where
  -- from step s to s', for goods g with a life of band b
  abbrev kept : ℕ → ℕ → ℕ → ℕ → ℕ → Bool
  kept g s s' b k =
      implies (t.eligible g s k) (t.eligible g s' k && leb (t.haircut g s' (sample b)) (t.haircut g s (sample b)))

  abbrev stepped : ℕ → ℕ → ℕ → ℕ → Bool
  stepped g s s' b = every 2 (kept g s s' b) && leb (t.lent_haircut g s' (sample b)) (t.lent_haircut g s (sample b))

  abbrev steps : ℕ → ℕ → ℕ → ℕ → Bool
  steps bands g s s' = implies (better s s') (every bands (stepped g s s'))

  abbrev goods_test : ℕ → ℕ → ℕ → Bool
  goods_test bands g s = implies (t.eligible g s 0) (t.eligible g s 1) && every 7 (steps bands g s)

  -- from step s to s' under a sovereign of step k, and from a sovereign of step s to one of s' at step k
  abbrev weight_test : ℕ → ℕ → ℕ → ℕ → Bool
  weight_test c s s' k =
      implies (better s s') (leb (t.provider_weight c s' k) (t.provider_weight c s k) && leb (t.provider_weight c k s') (t.provider_weight c k s))

  -- every type, step, better step and band; every class, step, better step and other step
  abbrev pub test : ℕ → Bool
  test bands =
      every 10 (λ g. every 7 (goods_test bands g)) && every 4 (λ c. every 7 (λ s. every 7 (λ s'. every 7 (weight_test c s s'))))

-- where the haircuts depend on the band alone, and sample has a life of each band
module _
    (t : Table)
    (sample band_of : ℕ → ℕ)
    (bands : ℕ)
    (band_below : (life : ℕ) → band_of life < bands)
    (haircut_sample : (g s l : ℕ) → t.haircut g s (sample (band_of l)) ≡ t.haircut g s l)
    (lent_sample : (g s l : ℕ) → t.lent_haircut g s (sample (band_of l)) ≡ t.lent_haircut g s l)
    (passed : test t sample bands ≡ true) where
  at_goods : (g s : ℕ) → g ≤ 9 → s ≤ 6 → goods_test t sample bands g s ≡ true
  at_goods g s hg hs =
      every_at 7 (goods_test t sample bands g) (every_at 10 (λ g. every 7 (goods_test t sample bands g)) (both (every 10 (λ g. every 7 (goods_test t sample bands g))) _ passed).0 g (omega arith)) s (omega arith)

  at_step : (g s s' l : ℕ) → g ≤ 9 → NoWorseStep s' s → stepped t sample g s s' (band_of l) ≡ true
  at_step g s s' l hg r =
      every_at bands (stepped t sample g s s')
      (implied _ _ (every_at 7 (steps t sample bands g s) (both (implies (t.eligible g s 0) (t.eligible g s 1)) _ (at_goods g s hg r.1.1)).1 s' (omega arith)) (is_better s s' r))
      (band_of l) (band_below l)

  at_kept : (g s s' k l : ℕ) → g ≤ 9 → NoWorseStep s' s → k ≤ 1 → t.eligible g s k ≡ true →
      (t.eligible g s' k && leb (t.haircut g s' (sample (band_of l))) (t.haircut g s (sample (band_of l)))) ≡ true
  at_kept g s s' k l hg r hk e =
      implied _ _ (every_at 2 (kept t sample g s s' (band_of l)) (both (every 2 (kept t sample g s s' (band_of l))) _ (at_step g s s' l hg r)).0 k (omega arith)) e

  at_haircut : (g s s' k l : ℕ) → g ≤ 9 → NoWorseStep s' s → k ≤ 1 → t.eligible g s k ≡ true →
      t.haircut g s' (sample (band_of l)) ≤ t.haircut g s (sample (band_of l))
  at_haircut g s s' k l hg r hk e = leb-true _ _ (both (t.eligible g s' k) _ (at_kept g s s' k l hg r hk e)).1

  at_lent : (g s s' l : ℕ) → g ≤ 9 → NoWorseStep s' s → t.lent_haircut g s' (sample (band_of l)) ≤ t.lent_haircut g s (sample (band_of l))
  at_lent g s s' l hg r = leb-true _ _ (both (every 2 (kept t sample g s s' (band_of l))) _ (at_step g s s' l hg r)).1

  at_weight : (c s s' k : ℕ) → c ≤ 3 → NoWorseStep s' s → k ≤ 6 →
      (leb (t.provider_weight c s' k) (t.provider_weight c s k) && leb (t.provider_weight c k s') (t.provider_weight c k s)) ≡ true
  at_weight c s s' k hc r hk =
      implied _ _
      (every_at 7 (weight_test t sample c s s')
      (every_at 7 (λ s'. every 7 (weight_test t sample c s s'))
      (every_at 7 (λ s. every 7 (λ s'. every 7 (weight_test t sample c s s')))
      (every_at 4 (λ c. every 7 (λ s. every 7 (λ s'. every 7 (weight_test t sample c s s'))))
      (both (every 10 (λ g. every 7 (goods_test t sample bands g))) _ passed).1 c (omega arith)) s (omega arith)) s' (omega arith)) k (omega arith))
      (is_better s s' r)

  pub laws_from_test : TableLaws t
  laws_from_test = record {
    step_eligible = λ g s s' k hg r hk e. (both (t.eligible g s' k) _ (at_kept g s s' k 0 hg.1 r hk e)).0;
    step_haircut = λ g s s' k l hg r hk e. rw (haircut_sample g s' l, haircut_sample g s l) at (at_haircut g s s' k l hg.1 r hk e);
    step_lent = λ g s s' l hg r. rw (lent_sample g s' l, lent_sample g s l) at (at_lent g s s' l hg.1 r);
    step_weight = λ c s s' k hc r hk. leb-true _ _ (both (leb (t.provider_weight c s' k) (t.provider_weight c s k)) _ (at_weight c s s' k hc.1 r hk)).0;
    sovereign_weight = λ c k s s' hc hk r. leb-true _ _ (both (leb (t.provider_weight c s' k) (t.provider_weight c s k)) _ (at_weight c s s' k hc.1 r hk)).1;
    listed_eligible = λ g s hg hs e.
        implied _ _ (both (implies (t.eligible g s 0) (t.eligible g s 1)) _ (at_goods g s hg.1 hs)).0 e;
  }
