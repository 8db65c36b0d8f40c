-- One deal's terms, or one item, no worse than another, field by field; lists with no item worse or missing. Assumes nothing.
use Prim.Native.Nat.{ℕ, ◌≤◌}
use mathlib.Core.Path.{◌≡◌}
use mathlib.Core.List.{List, [], ◌∷◌}
use mathlib.Core.Logic.{◌⊎◌}
use native.Mathlib.Omega.{arith}
use Rattle.base.specs.Sum.{sum_of}
use Rattle.tables.specs.Table.{NoWorseStep}
use Rattle.deal.specs.Instruments.{swap_with_restructuring, swap_without_restructuring}
use Rattle.deal.proofs.Plain.{PlainTerms, PlainCollateral, PlainGuarantee}
use Rattle.deal.specs.declared.terms.Terms.{Terms}
use Rattle.deal.specs.declared.collateral.Collateral.{Collateral}
use Rattle.deal.specs.declared.guarantee.Guarantee.{Guarantee}

-- the same step, or a better one, both rated
abbrev pub SameOrBetter : ℕ → ℕ → Type 0
SameOrBetter step step' = (step' ≡ step) ⊎ NoWorseStep step' step

-- the same currency, or the deal's
abbrev pub SameOrDeals : ℕ → ℕ → ℕ → Type 0
SameOrDeals deal_currency currency currency' = (currency' ≡ currency) ⊎ (currency' ≡ deal_currency)

-- Terms: revalued no less often, goods lent with no worse a step, all else the same

pub record NoHigherTerms (t t' : Terms) : Type 0 where
  pub amount : t'.amount ≡ t.amount
  pub class : t'.counterparty.class ≡ t.counterparty.class
  pub step : t'.counterparty.step ≡ t.counterparty.step
  pub sovereign_step : t'.counterparty.sovereign_step ≡ t.counterparty.sovereign_step
  pub currency : t'.currency ≡ t.currency
  pub kind : t'.kind ≡ t.kind
  pub interval : t'.interval ≤ t.interval
  pub residual : t'.residual ≡ t.residual
  pub lent_goods : t'.lent.goods ≡ t.lent.goods
  pub lent_life : t'.lent.life ≡ t.lent.life

pub record NoWorseTerms (t t' : Terms) : Type 0 where
  pub plain : PlainTerms t
  pub fields : NoHigherTerms t t'
  pub lent_step : SameOrBetter t.lent.step t'.lent.step

-- Collateral: the same goods, no lower an amount, term or condition, no worse a step or currency

pub record NoLowerCollateral (c c' : Collateral) : Type 0 where
  pub amount : c.amount ≤ c'.amount
  pub goods : c'.asset.goods ≡ c.asset.goods
  pub life : c'.asset.life ≡ c.asset.life
  pub residual : c.residual ≤ c'.residual
  pub original : c.original ≤ c'.original
  pub lawful : c.lawful ≤ c'.lawful
  pub unrelated : c.unrelated ≤ c'.unrelated
  pub not_in_rating : c.not_in_rating ≤ c'.not_in_rating
  pub listed : c.listed ≤ c'.listed

-- under a deal in this currency
pub record NoWorseCollateral (deal_currency : ℕ) (c c' : Collateral) : Type 0 where
  pub before : PlainCollateral c
  pub after : PlainCollateral c'
  pub fields : NoLowerCollateral c c'
  pub step : SameOrBetter c.asset.step c'.asset.step
  pub currency : SameOrDeals deal_currency c.currency c'.currency

-- Guarantees and swaps: the same provider's class, no lower an amount, term or condition, no worse a step, sovereign's step or currency; a
-- guarantee still, or a swap whose own condition is met where it was

-- the same instrument, or a swap whose condition is now met
abbrev pub SameOrNowMet : ℕ → ℕ → Type 0
SameOrNowMet instrument instrument' = (instrument' ≡ instrument) ⊎ ((instrument ≡ swap_without_restructuring) × (instrument' ≡ swap_with_restructuring))

pub record NoLowerGuarantee (g g' : Guarantee) : Type 0 where
  pub amount : g.amount ≤ g'.amount
  pub class : g'.provider.class ≡ g.provider.class
  pub residual : g.residual ≤ g'.residual
  pub original : g.original ≤ g'.original
  pub lawful : g.lawful ≤ g'.lawful
  pub direct : g.direct ≤ g'.direct
  pub not_in_rating : g.not_in_rating ≤ g'.not_in_rating

pub record NoWorseGuarantee (deal_currency : ℕ) (g g' : Guarantee) : Type 0 where
  pub before : PlainGuarantee g
  pub after : PlainGuarantee g'
  pub fields : NoLowerGuarantee g g'
  pub step : SameOrBetter g.provider.step g'.provider.step
  pub sovereign_step : SameOrBetter g.provider.sovereign_step g'.provider.sovereign_step
  pub currency : SameOrDeals deal_currency g.currency g'.currency
  pub instrument : SameOrNowMet g.instrument g'.instrument

-- Lists

-- each item still there and no worse, perhaps with more items, anywhere among them
pub data NoLess {A : Type 0} (NoWorse : A → A → Type 0) : List A → List A → Type 0 where
  none : NoLess NoWorse [] []
  kept : {old new : A} {olds news : List A} → NoWorse old new → NoLess NoWorse olds news → NoLess NoWorse (old ∷ olds) (new ∷ news)
  more : {new : A} {olds news : List A} → NoLess NoWorse olds news → NoLess NoWorse olds (new ∷ news)

module _ {A : Type 0} (NoWorse : A → A → Type 0) where
  -- figures that are no smaller where an item is no worse sum to no less
  pub sum_no_less : (f f' : A → ℕ) → ((x x' : A) → NoWorse x x' → f x ≤ f' x') → (xs xs' : List A) → NoLess NoWorse xs xs' → sum_of f xs ≤ sum_of f' xs'
  unfolding sum_of
  sum_no_less f f' h xs xs' none = omega arith
  sum_no_less f f' h xs xs' (kept {old = x} {new = x'} {olds = ys} {news = ys'} w l) = omega (arith, h x x' w, sum_no_less f f' h ys ys' l)
  sum_no_less f f' h xs xs' (more {olds = ys} {news = ys'} l) = omega (arith, sum_no_less f f' h ys ys' l)
