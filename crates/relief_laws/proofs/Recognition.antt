-- What is no worse is worth no less, for every table with the laws; and what is recognised is lower-weighted than the counterparty, for every
-- table. Assumes nothing.
use Prim.Native.Nat.{ℕ, ◌≤◌}
use mathlib.Core.Path.{◌≡◌, refl}
use mathlib.Core.Bool.{true}
use mathlib.Core.Logic.{inl, inr, ⊎_elim}
use native.Mathlib.Omega.{arith}
use native.Mathlib.Nat.{le_trans}
use native.Mathlib.Decide.{ℕ_discrete}
use borrow.Author.Tests.{leb-false}
use Rattle.base.specs.FirstMet.{NoneMet}
use Rattle.base.proofs.Tests.{not_false, told_not_true}
use Rattle.tables.specs.Table.{Table, TableLaws, Goods, Provider}
use Rattle.scaling.specs.Period.{holding_period}
use Rattle.valuation.specs.Haircuts.{combined_haircut, scaled_currency_haircut}
use Rattle.valuation.specs.Protection.{recognised}
use Rattle.valuation.specs.Valuation.{valuation_of}
use Rattle.cover.specs.Cover.{lower_weighted}
use Rattle.cover_laws.specs.Layers.{LeftOutOrLowerWeighted}
use Rattle.cover_laws.proofs.Weighted.{lower_weighted_mono}
use Rattle.deal.specs.declared.terms.Terms.{Terms}
use Rattle.deal.specs.declared.collateral.Collateral.{Collateral}
use Rattle.deal.specs.declared.guarantee.Guarantee.{Guarantee}
use Rattle.relief.specs.Outcomes.{outcome_value}
use Rattle.relief.specs.Weights.{counterparty_weight_of, provider_weight_of}
use Rattle.relief.specs.Collateral.{combined_haircut_of, collateral_valuation, collateral_grounds, collateral_ground, collateral_outcome}
use Rattle.relief.specs.Guarantees.{guarantee_valuation, guarantee_grounds, guarantee_ground, guarantee_outcome, protection_of}
use Rattle.relief.proofs.Outcomes.{value_or_none}
use Rattle.relief.proofs.Recognition.{◌also◌, collateral_leaves, guarantee_leaves}
use Rattle.relief_laws.proofs.Haircuts.{period_mono, guarantee_mono, currency_mono, currency_same, collateral_mono, collateral_same}
use Rattle.relief_laws.proofs.Values.{recognised_mono, value_mono}
use Rattle.relief_laws.proofs.NoWorse.{SameOrBetter, SameOrDeals, NoWorseTerms, NoWorseCollateral, NoWorseGuarantee}
use Rattle.relief_laws.proofs.Hedged.{hedged_no_less}
use Rattle.relief_laws.proofs.Unmet.{condition_stays, original_stays, residual_stays, rated_stays, weight_stays}

-- Of any table

module _ (table : Table) (t : Terms) where
  -- 29: a guarantee covers nothing, or weighs less than the counterparty
  pub protection_lower_weighted : (g : Guarantee) → LeftOutOrLowerWeighted (counterparty_weight_of table t) (protection_of table t g)
  unfolding guarantee_outcome guarantee_ground guarantee_grounds
  protection_lower_weighted g =
      ⊎_elim (λ z. inl z) (λ n. inr (leb-false _ _ n.1.1.1.1.1.1.0))
      (value_or_none g.amount (guarantee_valuation t g) (guarantee_grounds table t g) (guarantee_leaves table t _ _ g))

-- a weight comes from class, step and the sovereign's step alone
pub counterparty_same : (table : Table) {t t' : Terms} → NoWorseTerms t t' → counterparty_weight_of table t' ≡ counterparty_weight_of table t
counterparty_same table n = rw (n.fields.class, n.fields.step, n.fields.sovereign_step)

-- the same currency or the deal's, a shorter period: no larger a currency haircut; with a smaller haircut, no larger a sum
currency_no_more : {a a' b b' n n' : ℕ} → b' ≡ b → SameOrDeals b a a' → n' ≤ n → scaled_currency_haircut a' b' n' ≤ scaled_currency_haircut a b n
currency_no_more {a} {a'} {b} {b'} {n} {n'} e m h =
    rw e (⊎_elim (λ s. rw s (currency_mono a b h)) (λ s. rw s (omega (arith, currency_same b n'))) m)

haircuts_no_more : {H H' a a' b b' n n' : ℕ} → b' ≡ b → SameOrDeals b a a' → H' ≤ H → n' ≤ n → combined_haircut H' a' b' n' ≤ combined_haircut H a b n
haircuts_no_more {H} {H'} {a} {a'} {b} {b'} {n} {n'} e m k h =
    rw e (⊎_elim (λ s. rw s (collateral_mono a b k h)) (λ s. rw s (le_trans (collateral_mono b b k h) (collateral_same H a b n))) m)

recognised_no_less : {x x' haircut haircut' r r' term term' : ℕ} → term' ≡ term → x ≤ x' → haircut' ≤ haircut → r ≤ r' → recognised x haircut r term ≤ recognised x' haircut' r' term'
recognised_no_less {term = term} e ha hc hr = rw e (recognised_mono term ha hc hr)

pub period_no_longer : {kind kind' i i' : ℕ} → kind' ≡ kind → i' ≤ i → holding_period kind' i' ≤ holding_period kind i
period_no_longer {kind} e h = rw e (period_mono kind h)

-- Of a table with the laws

module _ {table : Table} (laws : TableLaws table) where
  -- a listing and a better step keep goods eligible
  stays_eligible : {g g' s s' k k' : ℕ} → Goods g → s ≤ 6 → k' ≤ 1 → g' ≡ g → SameOrBetter s s' → k ≤ k' → table.eligible g s k ≡ true → table.eligible g' s' k' ≡ true
  stays_eligible {g} {g'} {s} {s'} {k} {k'} hg hs hk same step hl e = rw same (listed (ℕ_discrete k k'))
    where
      stepped : table.eligible g s' k ≡ true
      stepped = ⊎_elim (λ q. rw q e) (λ b. laws.step_eligible g s s' k hg b (omega arith) e) step

      low : s' ≤ 6
      low = ⊎_elim (λ q. omega arith) (λ b. omega (arith, b.1.0, b.1.1)) step

      listed : Dec (k ≡ k') → table.eligible g s' k' ≡ true
      listed (yes q) = rw q at stepped
      listed (no q) =
          let zero : k ≡ 0 = omega arith in
          let one : k' ≡ 1 = omega arith in
          rw one (laws.listed_eligible g s' hg low (rw zero at stepped))

  -- and its haircut no larger
  haircut_no_more : {g g' s s' k l l' : ℕ} → Goods g → k ≤ 1 → g' ≡ g → SameOrBetter s s' → l' ≡ l → table.eligible g s k ≡ true →
      table.haircut g' s' l' ≤ table.haircut g s l
  haircut_no_more {g} {g'} {s} {s'} {k} {l} {l'} hg hk same step long e =
      rw (same, long) (⊎_elim (λ q. rw q (omega arith)) (λ b. laws.step_haircut g s s' k l hg b hk e) step)

  -- a provider's weight no larger: by its own step, then by its sovereign's
  weight_no_more : {c c' s s' k k' : ℕ} → Provider c → s' ≤ 6 → k ≤ 6 → c' ≡ c → SameOrBetter s s' → SameOrBetter k k' →
      table.provider_weight c' s' k' ≤ table.provider_weight c s k
  weight_no_more {c} {c'} {s} {s'} {k} {k'} hc hs hk same step sovereign =
      rw same (
      le_trans
      (⊎_elim (λ q. rw q (omega arith)) (λ b. laws.sovereign_weight c s' k k' hc hs b) sovereign)
      (⊎_elim (λ q. rw q (omega arith)) (λ b. laws.step_weight c s s' k hc b hk) step)
      )

  module _ {t t' : Terms} (terms : NoWorseTerms t t') where
    module _ {c c' : Collateral} (item : NoWorseCollateral t.currency c c') where
      -- eligible where no ground is met
      was_eligible : NoneMet (collateral_grounds table t c) → table.eligible c.asset.goods c.asset.step c.listed ≡ true
      unfolding collateral_grounds
      was_eligible n = told_not_true _ _ refl n.1.1.1.0

      collateral_stays : NoneMet (collateral_grounds table t c) → NoneMet (collateral_grounds table t' c')
      unfolding collateral_grounds
      collateral_stays n =
          condition_stays item.fields.lawful n.0
          also condition_stays item.fields.unrelated n.1.0
          also condition_stays item.fields.not_in_rating n.1.1.0
          also not_false _ (stays_eligible item.before.goods item.before.step item.after.listed item.fields.goods item.step item.fields.listed (was_eligible n))
          also original_stays t t' terms.fields.residual item.fields.residual item.fields.original n.1.1.1.1.0
          also residual_stays t t' terms.fields.residual item.fields.residual n.1.1.1.1.1.0
          also tt

      value_no_less : NoneMet (collateral_grounds table t c) → (collateral_valuation table t c).value ≤ (collateral_valuation table t' c').value
      unfolding collateral_valuation valuation_of combined_haircut_of
      value_no_less n =
          let haircut = haircut_no_more item.before.goods item.before.listed item.fields.goods item.step item.fields.life (was_eligible n) in
          let haircuts = haircuts_no_more terms.fields.currency item.currency haircut (period_no_longer terms.fields.kind terms.fields.interval) in
          recognised_no_less terms.fields.residual item.fields.amount haircuts item.fields.residual

      -- COLLATERAL NO WORSE IS WORTH NO LESS
      pub collateral_no_less : outcome_value (collateral_outcome table t c) ≤ outcome_value (collateral_outcome table t' c')
      unfolding collateral_outcome collateral_ground
      collateral_no_less =
          value_mono c.amount c'.amount (collateral_valuation table t c) (collateral_valuation table t' c') (collateral_grounds table t c) (collateral_grounds table t' c')
          (collateral_leaves table t _ _ c) (λ n. (collateral_stays n, value_no_less n))

    module _ {g g' : Guarantee} (item : NoWorseGuarantee t.currency g g') where
      weighs_no_more : provider_weight_of table g' ≤ provider_weight_of table g
      weighs_no_more = weight_no_more item.before.class item.after.step item.before.sovereign_step item.fields.class item.step item.sovereign_step

      guarantee_stays : NoneMet (guarantee_grounds table t g) → NoneMet (guarantee_grounds table t' g')
      unfolding guarantee_grounds
      guarantee_stays n =
          condition_stays item.fields.lawful n.0
          also condition_stays item.fields.direct n.1.0
          also condition_stays item.fields.not_in_rating n.1.1.0
          also rated_stays g g' item.fields.class item.step n.1.1.1.0
          also original_stays t t' terms.fields.residual item.fields.residual item.fields.original n.1.1.1.1.0
          also residual_stays t t' terms.fields.residual item.fields.residual n.1.1.1.1.1.0
          also weight_stays (counterparty_same table terms) weighs_no_more n.1.1.1.1.1.1.0
          also tt

      guaranteed_no_less : (guarantee_valuation t g).value ≤ (guarantee_valuation t' g').value
      unfolding guarantee_valuation valuation_of
      guaranteed_no_less =
          let haircut = currency_no_more terms.fields.currency item.currency (guarantee_mono terms.fields.interval) in
          recognised_no_less terms.fields.residual (hedged_no_less t t' g g' terms.fields.amount item.fields.amount item.instrument) haircut item.fields.residual

      guarantee_no_less : outcome_value (guarantee_outcome table t g) ≤ outcome_value (guarantee_outcome table t' g')
      unfolding guarantee_outcome guarantee_ground
      guarantee_no_less =
          value_mono g.amount g'.amount (guarantee_valuation t g) (guarantee_valuation t' g') (guarantee_grounds table t g) (guarantee_grounds table t' g')
          (guarantee_leaves table t _ _ g) (λ n. (guarantee_stays n, guaranteed_no_less))

      -- A GUARANTEE NO WORSE COVERS NO LESS BELOW ANY WEIGHT
      pub protection_no_less : (w : ℕ) → lower_weighted w (protection_of table t g) ≤ lower_weighted w (protection_of table t' g')
      protection_no_less w = lower_weighted_mono w (protection_of table t g) (protection_of table t' g') guarantee_no_less weighs_no_more
