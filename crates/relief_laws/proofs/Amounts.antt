-- The exposure after collateral and the weighted amount: no higher where nothing got worse. Assumes nothing.
use Prim.Native.Nat.{ℕ, suc, ◌≤◌}
use mathlib.Core.Path.{◌≡◌, refl}
use mathlib.Core.List.{List}
use mathlib.Core.Logic.{⊎_elim}
use native.Mathlib.Omega.{arith}
use Rattle.base.specs.Sum.{sum_of}
use Rattle.base.proofs.Sum.{sum_map}
use Rattle.tables.specs.Table.{Table, TableLaws, Goods}
use Rattle.valuation.specs.Exposure.{risk_weighted_amount}
use Rattle.cover.specs.Cover.{lower_weighted, weighted_sum}
use Rattle.cover_laws.specs.Layers.{EachLowerWeighted}
use Rattle.cover.specs.declared.protection.Protection.{Protection}
use Rattle.cover_laws.proofs.Layers.{within_map}
use Rattle.cover_laws.proofs.Weighted.{weighted_mono as sum_no_higher}
use Rattle.deal.specs.Views.{View, unprotected}
use Rattle.deal.specs.declared.terms.Terms.{Terms}
use Rattle.deal.specs.declared.collateral.Collateral.{Collateral}
use Rattle.deal.specs.declared.guarantee.Guarantee.{Guarantee}
use Rattle.relief.specs.Outcomes.{outcome_value}
use Rattle.relief.specs.Weights.{counterparty_weight_of}
use Rattle.relief.specs.Collateral.{collateral_outcome}
use Rattle.relief.specs.Guarantees.{protection_of}
use Rattle.relief.specs.Exposure.{scaled_lent_haircut, adjusted_exposure_of, collateral_total, exposure_after, pieces_of, risk_weighted_amount_of}
use Rattle.scaling.proofs.Scaled.{scaled_mono}
use Rattle.relief_laws.proofs.Rounded.{adjusted_exposure_mono, risk_weighted_mono}
use Rattle.relief_laws.proofs.NoWorse.{SameOrBetter, NoWorseTerms, NoWorseCollateral, NoWorseGuarantee, NoLess, sum_no_less}
use Rattle.relief_laws.proofs.Recognition.{period_no_longer, counterparty_same, protection_lower_weighted, collateral_no_less, protection_no_less}

-- Of any table

module _ (table : Table) where
  -- more collateral, less exposure
  pub exposure_mono : (v v' : View) → v'.terms.amount ≡ v.terms.amount → adjusted_exposure_of table v'.terms ≤ adjusted_exposure_of table v.terms →
      collateral_total table v.terms v.collateral ≤ collateral_total table v'.terms v'.collateral → exposure_after table v' ≤ exposure_after table v
  unfolding exposure_after
  exposure_mono v v' e r s = omega arith

  -- what the guarantees are worth that weigh less than w
  abbrev pub protection_below : ℕ → View → ℕ
  protection_below w v = sum_of (λ g. lower_weighted w (protection_of table v.terms g)) v.guarantees

  pub all_lower_weighted : (v : View) → EachLowerWeighted (counterparty_weight_of table v.terms) (pieces_of table v)
  all_lower_weighted v = within_map (counterparty_weight_of table v.terms) (protection_of table v.terms) (protection_lower_weighted table v.terms) v.guarantees

  weighted_lower : {W W' E E' : ℕ} (ps ps' : List Protection) → W' ≡ W → EachLowerWeighted W ps → EachLowerWeighted W' ps' → E' ≤ E →
      ((w : ℕ) → sum_of (lower_weighted w) ps ≤ sum_of (lower_weighted w) ps') → risk_weighted_amount (weighted_sum W' E' ps') ≤ risk_weighted_amount (weighted_sum W E ps)
  weighted_lower {W} {W'} {E} {E'} ps ps' e h h' less more =
      risk_weighted_mono (rw e (sum_no_higher W E' E ps' ps (rw e at h') h less (λ l k. more (suc l))))

  -- the same counterparty, no more exposure, no less protection below any weight
  pub amount_mono : (v v' : View) → counterparty_weight_of table v'.terms ≡ counterparty_weight_of table v.terms →
      exposure_after table v' ≤ exposure_after table v → ((w : ℕ) → protection_below w v ≤ protection_below w v') → risk_weighted_amount_of table v' ≤ risk_weighted_amount_of table v
  unfolding risk_weighted_amount_of
  amount_mono v v' same less more =
      weighted_lower (pieces_of table v) (pieces_of table v') same (all_lower_weighted v) (all_lower_weighted v') less
      (λ w. omega (arith, more w, sum_map (lower_weighted w) (protection_of table v.terms) v.guarantees, sum_map (lower_weighted w) (protection_of table v'.terms) v'.guarantees))

  -- PROTECTION NEVER RAISES THE WEIGHTED AMOUNT
  pub no_higher_than_without : (v : View) → risk_weighted_amount_of table v ≤ risk_weighted_amount_of table (unprotected v.terms)
  unfolding collateral_total sum_of
  no_higher_than_without v =
      let bare = unprotected v.terms in
      amount_mono bare v refl (exposure_mono bare v refl (omega arith) (omega arith)) (λ w. omega arith)

-- Of a table with the laws

module _ {table : Table} (laws : TableLaws table) {t t' : Terms} (terms : NoWorseTerms t t') where
  lent_no_more : {g g' s s' l l' : ℕ} → Goods g → g' ≡ g → SameOrBetter s s' → l' ≡ l → table.lent_haircut g' s' l' ≤ table.lent_haircut g s l
  lent_no_more {g} {g'} {s} {s'} {l} {l'} hg same step long =
      rw (same, long) (⊎_elim (λ q. rw q (omega arith)) (λ b. laws.step_lent g s s' l hg b) step)

  -- better goods lent, a shorter interval: no larger a volatility-adjusted exposure
  pub adjusted_exposure_no_more : adjusted_exposure_of table t' ≤ adjusted_exposure_of table t
  unfolding adjusted_exposure_of scaled_lent_haircut
  adjusted_exposure_no_more =
      adjusted_exposure_mono (omega (arith, terms.fields.amount))
      (scaled_mono (lent_no_more terms.plain.lent_goods terms.fields.lent_goods terms.lent_step terms.fields.lent_life) (period_no_longer terms.fields.kind terms.fields.interval))

  module _ {cs cs' : List Collateral} (collateral : NoLess (NoWorseCollateral t.currency) cs cs') where
    total_no_less : collateral_total table t cs ≤ collateral_total table t' cs'
    unfolding collateral_total
    total_no_less =
        sum_no_less (NoWorseCollateral t.currency) (λ c. outcome_value (collateral_outcome table t c)) (λ c. outcome_value (collateral_outcome table t' c))
        (λ c c' w. collateral_no_less laws terms w) cs cs' collateral

    -- WHERE NOTHING GOT WORSE, THE WEIGHTED AMOUNT IS NO HIGHER
    pub amount_no_higher : {gs gs' : List Guarantee} → NoLess (NoWorseGuarantee t.currency) gs gs' →
        risk_weighted_amount_of table (record { terms = t'; collateral = cs'; guarantees = gs' }) ≤ risk_weighted_amount_of table (record { terms = t; collateral = cs; guarantees = gs })
    amount_no_higher {gs} {gs'} guarantees =
        let v : View = record { terms = t; collateral = cs; guarantees = gs } in
        let v' : View = record { terms = t'; collateral = cs'; guarantees = gs' } in
        amount_mono table v v' (counterparty_same table terms) (exposure_mono table v v' terms.fields.amount adjusted_exposure_no_more total_no_less) (λ w.
        sum_no_less (NoWorseGuarantee t.currency) (λ g. lower_weighted w (protection_of table t g)) (λ g. lower_weighted w (protection_of table t' g))
        (λ g g' b. protection_no_less laws terms b w) gs gs' guarantees)
