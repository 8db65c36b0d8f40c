-- The rule on betterments (the letter's third demand). Assumes nothing.
use Prim.Native.Nat.{◌≤◌}
use mathlib.Core.Path.{◌≡◌, refl, sym, ap, subst, ◌∙◌}
use mathlib.Core.Bool.{Bool, true, false}
use mathlib.Core.Logic.{◌⊎◌, inl, inr}
use native.Mathlib.Omega.{arith}
use native.Mathlib.Nat.{not-suc-le-zero}
use Rattle.tables.specs.Table.{Table, TableLaws}
use Rattle.deal.specs.Records.{accepted, without_protection}
use Rattle.deal.specs.Editions.{table_for}
use Rattle.deal_laws.proofs.Editions.{lawful}
use Rattle.deal_laws.proofs.Exact.{accepted_fits, fits_accepted}
use Rattle.deal.specs.declared.terms.Terms.{Terms}
use Rattle.deal.specs.declared.deal.Deal.{Deal}
use Rattle.relief.specs.Exposure.{risk_weighted_amount_of}
use Rattle.relief.specs.Report.{report_under, report_of}
use Rattle.relief_laws.proofs.Amounts.{no_higher_than_without}
use Rattle.relief.proofs.Reports.{rwa_of}
use Rattle.deal.specs.Views.{View, view_of, accepted_view, record_of}
use Rattle.betterment.specs.Betterments.{BetterTerms, Better, Betterments, NeverRaised, NeverRaisedUnder}
use Rattle.deal_laws.proofs.Views.{accepted_view_lem, can_be_made}
use Rattle.betterment.proofs.Steps.{better_lowers}

-- every deal reached from an accepted one is accepted
pub reached_accepted : {d e : Deal} → accepted d ≡ true → Betterments d e → accepted e ≡ true
reached_accepted a Betterments.no_more = a
reached_accepted a (Betterments.held_otherwise same a' l) = reached_accepted a' l
reached_accepted a (Betterments.made b a' l) = reached_accepted a' l
reached_accepted a (Betterments.refused proposed b r l) = reached_accepted a l

-- a deal without protection is accepted where its terms are
without_accepted : (d : Deal) → accepted d ≡ true → accepted (without_protection d.terms) ≡ true
without_accepted d a = fits_accepted (without_protection d.terms) (record {
  terms = (accepted_fits d a).terms;
  collateral_count = omega arith;
  guarantee_count = omega arith;
  collateral = λ i h k. absurd (not-suc-le-zero h);
  guarantees = λ i h k. absurd (not-suc-le-zero h);
})

-- so a list of betterments never comes to a stand: what is proposed is refused, or made
pub refused_or_made : (d : Deal) (v : View) → Better (view_of d) v →
    (accepted_view v ≡ false) ⊎ (Better (view_of d) (view_of (record_of v)) × (accepted (record_of v) ≡ true))
refused_or_made d v b = go (accepted_view v) refl
  where
    go : (t : Bool) → accepted_view v ≡ t → (accepted_view v ≡ false) ⊎ (Better (view_of d) (view_of (record_of v)) × (accepted (record_of v) ≡ true))
    go true e = let c = can_be_made v e in inr (subst (Better (view_of d)) (sym c.1) b, c.0)
    go false e = inl e

-- no betterment changes the tables that a deal is reported under
terms_table : {t t' : Terms} → BetterTerms t t' → table_for t' ≡ table_for t
unfolding table_for
terms_table (BetterTerms.smaller_lent_step new s) = refl
terms_table (BetterTerms.smaller_interval new h) = refl

better_table : {v v' : View} → Better v v' → table_for v'.terms ≡ table_for v.terms
better_table (Better.better_terms b) = terms_table b
better_table (Better.better_collateral b) = refl
better_table (Better.more_collateral b) = refl
better_table (Better.better_guarantee b) = refl
better_table (Better.more_guarantees b) = refl

same_table : {d e : Deal} → Betterments d e → table_for e.terms ≡ table_for d.terms
same_table Betterments.no_more = refl
same_table (Betterments.held_otherwise same a l) = same_table l ∙ ap (λ v. table_for v.terms) (sym same)
same_table (Betterments.made b a l) = same_table l ∙ better_table b
same_table (Betterments.refused proposed b r l) = same_table l

-- for every table with the laws
module _ {table : Table} (laws : TableLaws table) where
  -- than before
  no_higher_than_before : {d e : Deal} → accepted d ≡ true → Betterments d e → (report_under table e).rwa ≤ (report_under table d).rwa
  no_higher_than_before {d} a Betterments.no_more = omega arith
  no_higher_than_before {d} {e} a (Betterments.held_otherwise {d' = d'} same a' l) =
      omega (arith, no_higher_than_before a' l, rwa_of table d a, rwa_of table d' a', ap (risk_weighted_amount_of table) same)
  no_higher_than_before {d} {e} a (Betterments.made {d' = d'} b a' l) =
      let one = better_lowers laws (view_of d) (view_of d') b (accepted_view_lem d a) (accepted_view_lem d' a') in
      omega (arith, no_higher_than_before a' l, rwa_of table d a, rwa_of table d' a', one)
  no_higher_than_before a (Betterments.refused proposed b r l) = no_higher_than_before a l

  -- than the deal as it stands, without protection
  no_higher_than_unprotected : (e : Deal) → accepted e ≡ true → (report_under table e).rwa ≤ (report_under table (without_protection e.terms)).rwa
  no_higher_than_unprotected e a =
      omega (
        arith,
        rwa_of table e a,
        rwa_of table (without_protection e.terms) (without_accepted e a),
        no_higher_than_without table (view_of e),
      )

  -- DEMAND 3 UNDER ANY TABLE WITH THE LAWS
  pub betterments_under : NeverRaisedUnder table
  betterments_under d e a l = (no_higher_than_before a l, no_higher_than_unprotected e (reached_accepted a l))

-- DEMAND 3: BETTERMENTS NEVER RAISE THE WEIGHTED AMOUNT. After any list of them the amount that reporting gives is no higher than before,
-- and no higher than that of the deal as it then stands, without protection
pub betterments_never_raise : NeverRaised
betterments_never_raise d e a l =
    let under = betterments_under (lawful d.terms) d e a l in
    let same = sym (same_table l) in (
      subst (λ table. (report_under table e).rwa ≤ (report_of d).rwa) same under.0,
      subst (λ table. (report_under table e).rwa ≤ (report_under table (without_protection e.terms)).rwa) same under.1,
    )
