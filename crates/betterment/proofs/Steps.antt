-- One betterment: nothing got worse, so the weighted amount is no higher. Assumes nothing.
use Prim.Native.Nat.{ℕ, ◌≤◌, ◌<◌}
use mathlib.Core.Path.{◌≡◌, refl}
use mathlib.Core.Bool.{Bool, true}
use mathlib.Core.List.{List, [], ◌∷◌}
use mathlib.Core.Logic.{inl, inr}
use native.Mathlib.Omega.{arith}
use borrow.Author.Tests.{eqb-true}
use lib.ListN.{get_or}
use Rattle.base.specs.All.{all_pass}
use Rattle.base.proofs.Every.{both}
use Rattle.tables.specs.Table.{Table, TableLaws}
use Rattle.deal.proofs.Plain.{PlainTerms, PlainCollateral, PlainGuarantee, plain_terms, plain_collateral, plain_guarantee}
use Rattle.deal.specs.declared.terms.Terms.{Terms}
use Rattle.deal.specs.declared.collateral.Collateral.{Collateral}
use Rattle.deal.specs.declared.guarantee.Guarantee.{Guarantee}
use Rattle.relief.specs.Exposure.{risk_weighted_amount_of}
use Rattle.relief_laws.proofs.NoWorse.{SameOrBetter, SameOrDeals, SameOrNowMet, NoLowerCollateral, NoLowerGuarantee, NoWorseTerms, NoWorseCollateral, NoWorseGuarantee, NoLess, none, kept, more}
use Rattle.relief_laws.proofs.Amounts.{amount_no_higher}
use Rattle.deal.specs.Fields.{collateral_fields, guarantee_fields, guarantee_in}
use Rattle.deal.specs.Views.{View, accepted_view}
use Rattle.betterment.specs.Betterments.{SmallerStep, OneOf, BetterItem, BetterCollateral, BetterGuarantee, BetterTerms, OneChanged, OneMore, Better}
use Rattle.betterment.specs.Places.{changed_collateral, changed_guarantee, guarantee_places}
use Rattle.deal_laws.proofs.Views.{FitsView, view_fits, collateral_fits, guarantee_fits}

-- a smaller step is a better one
smaller : {old new : ℕ} → SmallerStep old new → SameOrBetter old new
smaller s = inr (omega arith)

-- what holds at each of some places holds at one of them
abbrev Each : (ℕ → Type 0) → List ℕ → Type 0
Each P [] = Unit {0}
Each P (k ∷ places) = P k × Each P places

each_of : (P : ℕ → Type 0) {place : ℕ} {places : List ℕ} → Each P places → OneOf place places → P place
each_of P e OneOf.here = e.0
each_of P e (OneOf.later o) = each_of P e.1 o

-- Terms

same_terms : {t : Terms} → PlainTerms t → NoWorseTerms t t
same_terms p = record { plain = p; fields = omega arith; lent_step = inl refl }

changed_terms : {t t' : Terms} → PlainTerms t → BetterTerms t t' → NoWorseTerms t t'
changed_terms p (BetterTerms.smaller_lent_step new s) = record { plain = p; fields = omega arith; lent_step = smaller s }
changed_terms p (BetterTerms.smaller_interval new h) = record { plain = p; fields = omega arith; lent_step = inl refl }

-- Items under a deal in this currency

module _ {currency : ℕ} where
  no_worse_collateral : {c c' : Collateral} → PlainCollateral c → PlainCollateral c' → NoLowerCollateral c c' → SameOrBetter c.asset.step c'.asset.step →
      SameOrDeals currency c.currency c'.currency → NoWorseCollateral currency c c'
  no_worse_collateral p p' f s m = record { before = p; after = p'; fields = f; step = s; currency = m }

  same_collateral : {c : Collateral} → PlainCollateral c → NoWorseCollateral currency c c
  same_collateral p = no_worse_collateral p p (omega arith) (inl refl) (inl refl)

  changed_collateral_lem : {c c' : Collateral} → BetterCollateral currency c c' → PlainCollateral c → PlainCollateral c' → NoWorseCollateral currency c c'
  changed_collateral_lem {c} (BetterItem.higher m new h) p p' =
      each_of (λ k. get_or (collateral_fields c) k 0 < new → PlainCollateral (changed_collateral k new c) → NoWorseCollateral currency c (changed_collateral k new c))
      ((λ h q. no_worse_collateral p q (omega arith) (inl refl) (inl refl)), ((λ h q. no_worse_collateral p q (omega arith) (inl refl) (inl refl)), ((λ h q. no_worse_collateral p q (omega arith) (inl refl) (inl refl)), tt))) m h p'
  changed_collateral_lem {c} (BetterItem.smaller_step m new s) p p' =
      each_of (λ k. SmallerStep (get_or (collateral_fields c) k 0) new → PlainCollateral (changed_collateral k new c) → NoWorseCollateral currency c (changed_collateral k new c))
      ((λ h q. no_worse_collateral p q (omega arith) (smaller h) (inl refl)), tt) m s p'
  changed_collateral_lem {c} (BetterItem.deal_currency m) p p' =
      each_of (λ k. PlainCollateral (changed_collateral k currency c) → NoWorseCollateral currency c (changed_collateral k currency c))
      ((λ q. no_worse_collateral p q (omega arith) (inl refl) (inr refl)), tt) m p'
  changed_collateral_lem {c} (BetterItem.now_met m e) p p' =
      each_of (λ k. get_or (collateral_fields c) k 0 ≡ 0 → PlainCollateral (changed_collateral k 1 c) → NoWorseCollateral currency c (changed_collateral k 1 c))
      ((λ h q. no_worse_collateral p q (omega arith) (inl refl) (inl refl)), ((λ h q. no_worse_collateral p q (omega arith) (inl refl) (inl refl)), ((λ h q. no_worse_collateral p q (omega arith) (inl refl) (inl refl)), ((λ h q. no_worse_collateral p q (omega arith) (inl refl) (inl refl)), tt)))) m e p'

  no_worse_guarantee : {g g' : Guarantee} → PlainGuarantee g → PlainGuarantee g' → NoLowerGuarantee g g' → SameOrBetter g.provider.step g'.provider.step →
      SameOrBetter g.provider.sovereign_step g'.provider.sovereign_step → SameOrDeals currency g.currency g'.currency →
      SameOrNowMet g.instrument g'.instrument → NoWorseGuarantee currency g g'
  no_worse_guarantee p p' f s k m i = record { before = p; after = p'; fields = f; step = s; sovereign_step = k; currency = m; instrument = i }

  same_guarantee : {g : Guarantee} → PlainGuarantee g → NoWorseGuarantee currency g g
  same_guarantee p = no_worse_guarantee p p (omega arith) (inl refl) (inl refl) (inl refl) (inl refl)

  changed_number : {g g' : Guarantee} → BetterItem guarantee_fields guarantee_in guarantee_places currency g g' → PlainGuarantee g → PlainGuarantee g' → NoWorseGuarantee currency g g'
  changed_number {g} (BetterItem.higher m new h) p p' =
      each_of (λ k. get_or (guarantee_fields g) k 0 < new → PlainGuarantee (changed_guarantee k new g) → NoWorseGuarantee currency g (changed_guarantee k new g))
      ((λ h q. no_worse_guarantee p q (omega arith) (inl refl) (inl refl) (inl refl) (inl refl)), ((λ h q. no_worse_guarantee p q (omega arith) (inl refl) (inl refl) (inl refl) (inl refl)), ((λ h q. no_worse_guarantee p q (omega arith) (inl refl) (inl refl) (inl refl) (inl refl)), tt))) m h p'
  changed_number {g} (BetterItem.smaller_step m new s) p p' =
      each_of (λ k. SmallerStep (get_or (guarantee_fields g) k 0) new → PlainGuarantee (changed_guarantee k new g) → NoWorseGuarantee currency g (changed_guarantee k new g))
      ((λ h q. no_worse_guarantee p q (omega arith) (smaller h) (inl refl) (inl refl) (inl refl)), ((λ h q. no_worse_guarantee p q (omega arith) (inl refl) (smaller h) (inl refl) (inl refl)), tt)) m s p'
  changed_number {g} (BetterItem.deal_currency m) p p' =
      each_of (λ k. PlainGuarantee (changed_guarantee k currency g) → NoWorseGuarantee currency g (changed_guarantee k currency g))
      ((λ q. no_worse_guarantee p q (omega arith) (inl refl) (inl refl) (inr refl) (inl refl)), tt) m p'
  changed_number {g} (BetterItem.now_met m e) p p' =
      each_of (λ k. get_or (guarantee_fields g) k 0 ≡ 0 → PlainGuarantee (changed_guarantee k 1 g) → NoWorseGuarantee currency g (changed_guarantee k 1 g))
      ((λ h q. no_worse_guarantee p q (omega arith) (inl refl) (inl refl) (inl refl) (inl refl)), ((λ h q. no_worse_guarantee p q (omega arith) (inl refl) (inl refl) (inl refl) (inl refl)), ((λ h q. no_worse_guarantee p q (omega arith) (inl refl) (inl refl) (inl refl) (inl refl)), tt))) m e p'

  changed_guarantee_lem : {g g' : Guarantee} → BetterGuarantee currency g g' → PlainGuarantee g → PlainGuarantee g' → NoWorseGuarantee currency g g'
  changed_guarantee_lem (BetterGuarantee.better_number b) p p' = changed_number b p p'
  changed_guarantee_lem (BetterGuarantee.restructuring_met e) p p' = no_worse_guarantee p p' (omega arith) (inl refl) (inl refl) (inl refl) (inr (e, refl))

-- A GUARANTEE NEVER BECOMES A SWAP, nor a swap a guarantee; and a condition that is met stays met
abbrev Stays : Guarantee → ℕ → ℕ → Type 0
Stays g new k = (changed_guarantee k new g).instrument ≡ g.instrument

module _ {currency : ℕ} {g : Guarantee} where
  number_stays : {g' : Guarantee} → BetterItem guarantee_fields guarantee_in guarantee_places currency g g' → g'.instrument ≡ g.instrument
  number_stays (BetterItem.higher m new h) = each_of (Stays g new) (refl, (refl, (refl, tt))) m
  number_stays (BetterItem.smaller_step m new h) = each_of (Stays g new) (refl, (refl, tt)) m
  number_stays (BetterItem.deal_currency m) = each_of (Stays g currency) (refl, tt) m
  number_stays (BetterItem.now_met m h) = each_of (Stays g 1) (refl, (refl, (refl, tt))) m

  pub instrument_stays : {g' : Guarantee} → BetterGuarantee currency g g' → SameOrNowMet g.instrument g'.instrument
  instrument_stays (BetterGuarantee.better_number b) = inl (number_stays b)
  instrument_stays (BetterGuarantee.restructuring_met e) = inr (e, refl)

-- Lists of items that pass a test

module _ {A : Type 0} (fits : A → Bool) (NoWorse : A → A → Type 0) (same : (x : A) → fits x ≡ true → NoWorse x x) where
  unchanged : (xs : List A) → all_pass xs fits ≡ true → NoLess NoWorse xs xs
  unchanged [] e = none
  unchanged (x ∷ xs) e = let b = both (fits x) (all_pass xs fits) e in kept (same x b.0) (unchanged xs b.1)

  one_more : {xs ys : List A} → OneMore xs ys → all_pass ys fits ≡ true → NoLess NoWorse xs ys
  one_more (OneMore.here {item = y} {items = ys}) e = more (unchanged ys (both (fits y) (all_pass ys fits) e).1)
  one_more (OneMore.later {item = y} {new = ys} o) e = let b = both (fits y) (all_pass ys fits) e in kept (same y b.0) (one_more o b.1)

  module _ (Change : A → A → Type 0) (better : (x y : A) → Change x y → fits x ≡ true → fits y ≡ true → NoWorse x y) where
    one_changed : {xs ys : List A} → OneChanged Change xs ys → all_pass xs fits ≡ true → all_pass ys fits ≡ true → NoLess NoWorse xs ys
    one_changed (OneChanged.here {old = x} {new = y} {items = zs} c) e e' =
        let b = both (fits x) (all_pass zs fits) e in
        let b' = both (fits y) (all_pass zs fits) e' in
        kept (better x y c b.0 b'.0) (unchanged zs b.1)
    one_changed (OneChanged.later {item = z} {old = xs} {new = ys} o) e e' =
        let b = both (fits z) (all_pass xs fits) e in
        let b' = both (fits z) (all_pass ys fits) e' in
        kept (same z b.0) (one_changed o b.1 b'.1)

-- The deal

collateral_plain : (c : Collateral) → collateral_fits c ≡ true → PlainCollateral c
collateral_plain c e = plain_collateral c (eqb-true _ 0 e)

guarantee_plain : (g : Guarantee) → guarantee_fits g ≡ true → PlainGuarantee g
guarantee_plain g e = plain_guarantee g (eqb-true _ 0 e)

-- its two lists, the same, one item longer, or with one item changed
module _ (currency : ℕ) where
  kept_collateral : (c : Collateral) → collateral_fits c ≡ true → NoWorseCollateral currency c c
  kept_collateral c e = same_collateral (collateral_plain c e)

  kept_guarantee : (g : Guarantee) → guarantee_fits g ≡ true → NoWorseGuarantee currency g g
  kept_guarantee g e = same_guarantee (guarantee_plain g e)

  collateral_kept : (cs : List Collateral) → all_pass cs collateral_fits ≡ true → NoLess (NoWorseCollateral currency) cs cs
  collateral_kept = unchanged collateral_fits (NoWorseCollateral currency) kept_collateral

  guarantees_kept : (gs : List Guarantee) → all_pass gs guarantee_fits ≡ true → NoLess (NoWorseGuarantee currency) gs gs
  guarantees_kept = unchanged guarantee_fits (NoWorseGuarantee currency) kept_guarantee

  collateral_longer : {cs cs' : List Collateral} → OneMore cs cs' → all_pass cs' collateral_fits ≡ true → NoLess (NoWorseCollateral currency) cs cs'
  collateral_longer = one_more collateral_fits (NoWorseCollateral currency) kept_collateral

  guarantees_longer : {gs gs' : List Guarantee} → OneMore gs gs' → all_pass gs' guarantee_fits ≡ true → NoLess (NoWorseGuarantee currency) gs gs'
  guarantees_longer = one_more guarantee_fits (NoWorseGuarantee currency) kept_guarantee

  collateral_changed : {cs cs' : List Collateral} → OneChanged (BetterCollateral currency) cs cs' → all_pass cs collateral_fits ≡ true → all_pass cs' collateral_fits ≡ true →
      NoLess (NoWorseCollateral currency) cs cs'
  collateral_changed =
      one_changed collateral_fits (NoWorseCollateral currency) kept_collateral (BetterCollateral currency)
      (λ c c' b e e'. changed_collateral_lem b (collateral_plain c e) (collateral_plain c' e'))

  guarantees_changed : {gs gs' : List Guarantee} → OneChanged (BetterGuarantee currency) gs gs' → all_pass gs guarantee_fits ≡ true → all_pass gs' guarantee_fits ≡ true →
      NoLess (NoWorseGuarantee currency) gs gs'
  guarantees_changed =
      one_changed guarantee_fits (NoWorseGuarantee currency) kept_guarantee (BetterGuarantee currency)
      (λ g g' b e e'. changed_guarantee_lem b (guarantee_plain g e) (guarantee_plain g' e'))

module _ {table : Table} (laws : TableLaws table) where
  lowers : (v v' : View) → Better v v' → FitsView v → FitsView v' → risk_weighted_amount_of table v' ≤ risk_weighted_amount_of table v
  lowers v v' (Better.better_terms {t = t} {cs = cs} {gs = gs} b) f f' =
      amount_no_higher laws (changed_terms (plain_terms t f.terms) b)
      (collateral_kept t.currency cs f.collateral) (guarantees_kept t.currency gs f.guarantees)
  lowers v v' (Better.better_collateral {t = t} {gs = gs} b) f f' =
      amount_no_higher laws (same_terms (plain_terms t f.terms))
      (collateral_changed t.currency b f.collateral f'.collateral) (guarantees_kept t.currency gs f.guarantees)
  lowers v v' (Better.more_collateral {t = t} {gs = gs} b) f f' =
      amount_no_higher laws (same_terms (plain_terms t f.terms))
      (collateral_longer t.currency b f'.collateral) (guarantees_kept t.currency gs f.guarantees)
  lowers v v' (Better.better_guarantee {t = t} {cs = cs} b) f f' =
      amount_no_higher laws (same_terms (plain_terms t f.terms))
      (collateral_kept t.currency cs f.collateral) (guarantees_changed t.currency b f.guarantees f'.guarantees)
  lowers v v' (Better.more_guarantees {t = t} {cs = cs} b) f f' =
      amount_no_higher laws (same_terms (plain_terms t f.terms))
      (collateral_kept t.currency cs f.collateral) (guarantees_longer t.currency b f'.guarantees)

  -- ONE BETTERMENT NEVER RAISES THE WEIGHTED AMOUNT
  pub better_lowers : (v v' : View) → Better v v' → accepted_view v ≡ true → accepted_view v' ≡ true → risk_weighted_amount_of table v' ≤ risk_weighted_amount_of table v
  better_lowers v v' b e e' = lowers v v' b (view_fits v e) (view_fits v' e')
