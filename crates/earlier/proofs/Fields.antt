-- A higher limit of days in the tests of fields: only a 5 can change, and only where a day is above the lower limit. Assumes nothing.
use Rattle.std.proofs.Common.{if◌then◌else◌}
use Prim.Native.Nat.{ℕ, ◌≤◌}
use mathlib.Core.Logic.{◌⊎◌, inl, inr}
use mathlib.Core.Path.{◌≡◌, refl, ap}
use mathlib.Core.Bool.{Bool, true, false, not, ◌&&◌}
use mathlib.Core.List.{List, [], ◌∷◌, ◌++◌}
use native.Mathlib.Omega.{arith}
use lib.Dec.{leb, eqb}
use borrow.Author.Tests.{eq-eqb, eqb-true, leb-true, le-leb, not-false as held}
use Rattle.base.specs.FirstMet.{NoneMet, Test, ◌when◌, first_or, first_met}
use Rattle.base.specs.Range.{within}
use Rattle.base.proofs.Choice.{never}
use Rattle.base.proofs.Every.{both}
use Rattle.base.proofs.Range.{bounds, inside}
use Rattle.base.proofs.Tests.{and_true, not_false}
use Rattle.deal.specs.Assets.{is_debt, life_allowed}
use Rattle.deal.specs.Checks.{field_tests}
use Rattle.deal.specs.Collateral.{collateral_checks}
use Rattle.deal.specs.Guarantees.{guarantee_checks}
use Rattle.deal.specs.Ranges.{days_allowed, interval_allowed}
use Rattle.deal.specs.Terms.{terms_checks}
use Rattle.deal.specs.declared.checks.FieldChecks.{FieldChecks}
use Rattle.deal.specs.declared.asset.Asset.{Asset}
use Rattle.deal.specs.declared.terms.Terms.{Terms}
use Rattle.deal.specs.declared.collateral.Collateral.{Collateral}
use Rattle.deal.specs.declared.guarantee.Guarantee.{Guarantee}
use Rattle.earlier.specs.Days.{collateral_days, guarantee_days, none_above, terms_days}
use Rattle.earlier.specs.Rules.{up_to}

-- a test among others that is met less often: where its number was not given, what is given stays
first_eased : (front : List (Test ℕ)) (n : ℕ) (met met' : Bool) (back : List (Test ℕ)) → (met ≡ false → met' ≡ false) →
    eqb (first_met (front ++ (n when met) ∷ back)) n ≡ false → first_met (front ++ (n when met') ∷ back) ≡ first_met (front ++ (n when met) ∷ back)
unfolding first_or
first_eased [] n true met' back eased e = absurd (never (eq-eqb n n refl) e)
first_eased [] n false met' back eased e = rw (eased refl)
first_eased ((k when true) ∷ front) n met met' back eased e = refl
first_eased ((k when false) ∷ front) n met met' back eased e = first_eased front n met met' back eased e

-- answers to the tests of fields, and the same with another answer for ranges
abbrev ranges_of : FieldChecks → Bool
ranges_of c = c.ranges

abbrev with_ranges : FieldChecks → Bool → FieldChecks
with_ranges c ranges = record {
  amount = c.amount;
  codes = c.codes;
  steps = c.steps;
  currency = c.currency;
  ranges = ranges;
  maturity = c.maturity;
  conditions = c.conditions;
}

refusal_stays : (full : Bool) (c : FieldChecks) (ranges : Bool) → (c.ranges ≡ true → ranges ≡ true) → eqb (first_met (6 when full ∷ field_tests c)) 5 ≡ false →
    first_met (6 when full ∷ field_tests (with_ranges c ranges)) ≡ first_met (6 when full ∷ field_tests c)
refusal_stays full c ranges more e =
    first_eased (6 when full ∷ 1 when not c.amount ∷ 2 when not c.codes ∷ 3 when not c.steps ∷ 4 when not c.currency ∷ [])
    5 (not c.ranges) (not ranges) (7 when not c.maturity ∷ 8 when not c.conditions ∷ []) (λ h. not_false ranges (more (held c.ranges h))) e

-- what was not a 5, or holds no day above the lower limit
abbrev pub Kept : ℕ → Bool → Type 0
Kept refusal none = (eqb refusal 5 ≡ false) ⊎ (none ≡ true)

module _ (low high : ℕ) (raised : low ≤ high) where
  days_more : (n : ℕ) → days_allowed low n ≡ true → days_allowed high n ≡ true
  days_more n e = let b = bounds 1 low n e in inside 1 high n b.0 (omega (arith, b.1, raised))

  days_same : (n : ℕ) → leb n low ≡ true → days_allowed high n ≡ days_allowed low n
  unfolding within
  days_same n e = rw (e, le-leb n high (omega (arith, leb-true n low e, raised)))

  life_more : (a : Asset) → life_allowed low a ≡ true → life_allowed high a ≡ true
  unfolding life_allowed
  life_more a e = go (is_debt a.goods) e
    where
      go : (debt : Bool) → (if debt then days_allowed low a.life else eqb a.life 0) ≡ true → (if debt then days_allowed high a.life else eqb a.life 0) ≡ true
      go true h = days_more a.life h
      go false h = h

  life_same : (a : Asset) → leb a.life low ≡ true → life_allowed high a ≡ life_allowed low a
  unfolding life_allowed
  life_same a e = rw (days_same a.life e)

  -- the ranges of what is sent, which are all that the limit touches
  terms_more : (t : Terms) → ranges_of (terms_checks low t) ≡ true → ranges_of (terms_checks high t) ≡ true
  terms_more t e =
      let days = both (interval_allowed t.interval && days_allowed low t.residual) _ e in
      let term = both (interval_allowed t.interval) _ days.0 in
      and_true _ _ (and_true _ _ term.0 (days_more _ term.1)) (life_more t.lent days.1)

  collateral_more : (c : Collateral) → ranges_of (collateral_checks low c) ≡ true → ranges_of (collateral_checks high c) ≡ true
  collateral_more c e =
      let days = both (days_allowed low c.residual && days_allowed low c.original) _ e in
      let terms = both (days_allowed low c.residual) _ days.0 in
      and_true _ _ (and_true _ _ (days_more _ terms.0) (days_more _ terms.1)) (life_more c.asset days.1)

  guarantee_more : (g : Guarantee) → ranges_of (guarantee_checks low g) ≡ true → ranges_of (guarantee_checks high g) ≡ true
  guarantee_more g e =
      let terms = both (days_allowed low g.residual) _ e in
      and_true _ _ (days_more _ terms.0) (days_more _ terms.1)

  terms_same : (t : Terms) → none_above low (terms_days t) ≡ true → ranges_of (terms_checks high t) ≡ ranges_of (terms_checks low t)
  terms_same t e =
      let term = both (leb t.residual low) _ e in
      let life = both (leb t.lent.life low) _ term.1 in
      rw (days_same _ term.0, life_same t.lent life.0)

  collateral_same : (c : Collateral) → none_above low (collateral_days c) ≡ true → ranges_of (collateral_checks high c) ≡ ranges_of (collateral_checks low c)
  collateral_same c e =
      let residual = both (leb c.residual low) _ e in
      let original = both (leb c.original low) _ residual.1 in
      let life = both (leb c.asset.life low) _ original.1 in
      rw (days_same _ residual.0, days_same _ original.0, life_same c.asset life.0)

  guarantee_same : (g : Guarantee) → none_above low (guarantee_days g) ≡ true → ranges_of (guarantee_checks high g) ≡ ranges_of (guarantee_checks low g)
  guarantee_same g e =
      let residual = both (leb g.residual low) _ e in
      let original = both (leb g.original low) _ residual.1 in
      rw (days_same _ residual.0, days_same _ original.0)

  -- so a refusal stays, behind 6 where a list is full, unless it was a 5 and a day is above the lower limit
  pub terms_stay : (t : Terms) → Kept (first_met ((up_to low).terms_tests t)) (none_above low (terms_days t)) → first_met ((up_to high).terms_tests t) ≡ first_met ((up_to low).terms_tests t)
  unfolding first_or
  terms_stay t (inl e) = refusal_stays false (terms_checks low t) _ (terms_more t) e
  terms_stay t (inr e) = ap (λ r. first_met (field_tests (with_ranges (terms_checks low t) r))) (terms_same t e)

  pub collateral_stays : (full : Bool) (c : Collateral) → Kept (first_met (6 when full ∷ (up_to low).collateral_tests c)) (none_above low (collateral_days c)) →
      first_met (6 when full ∷ (up_to high).collateral_tests c) ≡ first_met (6 when full ∷ (up_to low).collateral_tests c)
  collateral_stays full c (inl e) = refusal_stays full (collateral_checks low c) _ (collateral_more c) e
  collateral_stays full c (inr e) = ap (λ r. first_met (6 when full ∷ field_tests (with_ranges (collateral_checks low c) r))) (collateral_same c e)

  pub guarantee_stays : (full : Bool) (g : Guarantee) → Kept (first_met (6 when full ∷ (up_to low).guarantee_tests g)) (none_above low (guarantee_days g)) →
      first_met (6 when full ∷ (up_to high).guarantee_tests g) ≡ first_met (6 when full ∷ (up_to low).guarantee_tests g)
  guarantee_stays full g (inl e) = refusal_stays full (guarantee_checks low g) _ (guarantee_more g) e
  guarantee_stays full g (inr e) = ap (λ r. first_met (6 when full ∷ field_tests (with_ranges (guarantee_checks low g) r))) (guarantee_same g e)

-- fields that meet no test hold no day above the limit
module _ (limit : ℕ) where
  days_short : (n : ℕ) → days_allowed limit n ≡ true → leb n limit ≡ true
  days_short n e = le-leb n limit (bounds 1 limit n e).1

  life_short : (a : Asset) → life_allowed limit a ≡ true → leb a.life limit ≡ true
  unfolding life_allowed
  life_short a e = go (is_debt a.goods) e
    where
      go : (debt : Bool) → (if debt then days_allowed limit a.life else eqb a.life 0) ≡ true → leb a.life limit ≡ true
      go true h = days_short a.life h
      go false h = le-leb a.life limit (omega (arith, eqb-true a.life 0 h))

  pub terms_days_lem : (t : Terms) → NoneMet ((up_to limit).terms_tests t) → none_above limit (terms_days t) ≡ true
  terms_days_lem t n =
      let days = both (interval_allowed t.interval && days_allowed limit t.residual) _ (held _ n.1.1.1.1.0) in
      let term = both (interval_allowed t.interval) _ days.0 in
      and_true _ _ (days_short _ term.1) (and_true _ _ (life_short t.lent days.1) refl)

  pub collateral_days_lem : (c : Collateral) → NoneMet ((up_to limit).collateral_tests c) → none_above limit (collateral_days c) ≡ true
  collateral_days_lem c n =
      let days = both (days_allowed limit c.residual && days_allowed limit c.original) _ (held _ n.1.1.1.1.0) in
      let terms = both (days_allowed limit c.residual) _ days.0 in
      and_true _ _ (days_short _ terms.0) (and_true _ _ (days_short _ terms.1) (and_true _ _ (life_short c.asset days.1) refl))

  pub guarantee_days_lem : (g : Guarantee) → NoneMet ((up_to limit).guarantee_tests g) → none_above limit (guarantee_days g) ≡ true
  guarantee_days_lem g n =
      let terms = both (days_allowed limit g.residual) _ (held _ n.1.1.1.1.0) in
      and_true _ _ (days_short _ terms.0) (and_true _ _ (days_short _ terms.1) refl)
