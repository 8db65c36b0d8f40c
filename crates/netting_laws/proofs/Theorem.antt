-- THE BETTERMENTS OF A NETTING SET NEVER RAISE ITS WEIGHTED AMOUNT, nor E*. Assumes nothing.
use Prim.Native.Nat.{ℕ, ◌+◌, ◌-◌, ◌≤◌, ◌<◌}
use mathlib.Core.Path.{◌≡◌, refl, sym, ap, subst, ◌∙◌}
use mathlib.Core.Bool.{Bool, true, false}
use mathlib.Core.List.{List, ◌∷◌, ◌++◌}
use mathlib.Core.Logic.{◌⊎◌, inl, inr}
use native.Mathlib.Nat.{le_trans, mul-le-mul_right}
use native.Mathlib.Omega.{arith}
use lib.Dec.{eqb}
use lib.ListN.{length}
use lib.Seq.{take_at}
use borrow.Author.Tests.{eq-eqb, eqb-true, ne_eqb}
use Rattle.base.specs.Sum.{sum_of}
use Rattle.base.proofs.EachElement.{each_of}
use Rattle.base.proofs.Rounding.{round_up_mono}
use Rattle.scaling.proofs.Scaled.{scaled_mono}
use Rattle.valuation.specs.Exposure.{risk_weighted_amount}
use Rattle.netting.specs.Exposure.{exposure_after_netting}
use Rattle.netting.specs.Haircuts.{currency_haircut_over, security_haircut, set_period}
use Rattle.netting.specs.Nets.{lent}
use Rattle.netting.specs.Positions.{is_lent, received_side}
use Rattle.netting.specs.Refusals.{set_refusal}
use Rattle.netting.specs.Reply.{NettingReply, positions_of, reply_to, set_reply, set_weight, weighted_amount}
use Rattle.netting.specs.declared.position.Position.{Position}
use Rattle.netting.specs.declared.set.NettingSet.{NettingSet}
use Rattle.netting.specs.declared.terms.SetTerms.{SetTerms}
use Rattle.netting.proofs.HaircutBounds.{together_low}
use Rattle.netting.proofs.Refusing.{PlainSet, plain_set, plain_set_terms}
use Rattle.netting.proofs.Replies.{accepted_reply, refused_reply_lem}
use Rattle.netting_laws.specs.Betterments.{BetterSet, SetBetterments, SetNeverRaised, SetView, accepted_set, accepted_set_view, lent_alone, lent_only, set_view_of, set_with, with_amount, with_interval}
use Rattle.netting_laws.proofs.Agreement.{agreeing}
use Rattle.netting_laws.proofs.Falls.{Coverable, larger_no_worse, lent_alone_is, lent_alone_no_better, one_more_no_worse, smaller_cuts_no_worse}
use Rattle.netting_laws.proofs.LentAlone.{lent_accepted}

-- THE REPLY TO AN ACCEPTED SET

pub refusal_of : (t : SetTerms) (n : ℕ) (ps : List Position) → (reply_to t n ps).refusal ≡ set_refusal t n ps
refusal_of t n ps = go (eqb (set_refusal t n ps) 0) refl
  where
    go : (b : Bool) → eqb (set_refusal t n ps) 0 ≡ b → (reply_to t n ps).refusal ≡ set_refusal t n ps
    go true e = ap (λ (r : NettingReply). r.refusal) (accepted_reply t n ps (eqb-true _ 0 e)) ∙ sym (eqb-true _ 0 e)
    go false e = ap (λ (r : NettingReply). r.refusal) (refused_reply_lem t n ps e)

-- nothing is refused, exactly where it is accepted
pub accepted_none : (s : NettingSet) → accepted_set s ≡ true → set_refusal s.terms s.count (positions_of s) ≡ 0
unfolding set_reply
accepted_none s a = sym (refusal_of s.terms s.count (positions_of s)) ∙ eqb-true _ 0 a

pub none_accepted : (s : NettingSet) → set_refusal s.terms s.count (positions_of s) ≡ 0 → accepted_set s ≡ true
unfolding set_reply
none_accepted s e = eq-eqb _ 0 (refusal_of s.terms s.count (positions_of s) ∙ e)

module _ (s : NettingSet) (a : accepted_set s ≡ true) where
  pub exposure_of : (set_reply s).exposure ≡ exposure_after_netting s.terms (positions_of s)
  unfolding set_reply
  exposure_of = ap (λ (r : NettingReply). r.exposure) (accepted_reply s.terms s.count (positions_of s) (accepted_none s a))

  pub weighted_of : (set_reply s).rwa ≡ weighted_amount s.terms (positions_of s)
  unfolding set_reply
  weighted_of = ap (λ (r : NettingReply). r.rwa) (accepted_reply s.terms s.count (positions_of s) (accepted_none s a))

-- ONE BETTERMENT

coverable : (t : SetTerms) (ps : List Position) → t.interval ≤ 60 → Coverable (security_haircut t) (currency_haircut_over t) ps
coverable t ps h = each_of (λ p. le_trans (together_low t p h) (omega arith)) ps

-- "side (1 lent, 2 received)"
received_not_lent : (p : Position) → p.side ≡ received_side → is_lent p ≡ false
received_not_lent p e = ne_eqb p.side 1 (λ (one : p.side ≡ 1). let z : ◌≡◌ {A = ℕ} 2 1 = sym e ∙ one in omega (arith, z))

module _ (t : SetTerms) (h : t.interval ≤ 60) where
  larger_falls : (xs ys : List Position) (p : Position) (new : ℕ) → p.side ≡ received_side → p.amount < new →
      exposure_after_netting t (xs ++ with_amount new p ∷ ys) ≤ exposure_after_netting t (xs ++ p ∷ ys)
  unfolding exposure_after_netting security_haircut
  larger_falls xs ys p new r l =
      let e : p.amount + (new - p.amount) ≡ new = omega arith in
      subst (λ (amount : ℕ). exposure_after_netting t (xs ++ with_amount amount p ∷ ys) ≤ exposure_after_netting t (xs ++ p ∷ ys)) e
      (larger_no_worse (security_haircut t) t.settlement (currency_haircut_over t) xs ys p (new - p.amount) (received_not_lent p r) refl (coverable t (xs ++ p ∷ ys) h))

  more_falls : (n : ℕ) (xs ys : List Position) (p : Position) → p.side ≡ received_side → PlainSet t n (xs ++ p ∷ ys) →
      exposure_after_netting t (xs ++ p ∷ ys) ≤ exposure_after_netting t (xs ++ ys)
  unfolding exposure_after_netting
  more_falls n xs ys p r s =
      one_more_no_worse (security_haircut t) t.settlement (currency_haircut_over t) xs ys p (received_not_lent p r) (agreeing t xs ys p s.agree) (coverable t (xs ++ p ∷ ys) h)

oftener_falls : (t : SetTerms) (ps : List Position) (new : ℕ) → new < t.interval → exposure_after_netting (with_interval new t) ps ≤ exposure_after_netting t ps
unfolding exposure_after_netting security_haircut currency_haircut_over set_period
oftener_falls t ps new l =
    let n : new + 4 ≤ t.interval + 4 = omega arith in
    smaller_cuts_no_worse t.settlement (security_haircut t) (security_haircut (with_interval new t)) (currency_haircut_over t) (currency_haircut_over (with_interval new t)) ps
    (each_of (λ p. scaled_mono (omega arith) n) ps) (scaled_mono {H = 80000} {H' = 80000} (omega arith) n)

-- all of them
better_falls : {v v' : SetView} (n m : ℕ) → BetterSet v v' → PlainSet v.terms n v.positions → PlainSet v'.terms m v'.positions →
    exposure_after_netting v'.terms v'.positions ≤ exposure_after_netting v.terms v.positions
better_falls n m (BetterSet.larger_received {t = t} xs ys p new r l) s s' = larger_falls t (plain_set_terms t s.terms).interval.1 xs ys p new r l
better_falls n m (BetterSet.more_received {t = t} xs ys p r) s s' = more_falls t (plain_set_terms t s.terms).interval.1 m xs ys p r s'
better_falls n m (BetterSet.smaller_interval {t = t} ps new l) s s' = oftener_falls t ps new l

-- no betterment changes the counterparty's weight
better_weight : {v v' : SetView} → BetterSet v v' → set_weight v'.terms ≡ set_weight v.terms
unfolding set_weight
better_weight (BetterSet.larger_received xs ys p new r l) = refl
better_weight (BetterSet.more_received xs ys p r) = refl
better_weight (BetterSet.smaller_interval ps new l) = refl

-- THE WEIGHTED AMOUNT FOLLOWS E*

weighted_mono : (t t' : SetTerms) (ps ps' : List Position) → set_weight t' ≡ set_weight t → exposure_after_netting t' ps' ≤ exposure_after_netting t ps →
    weighted_amount t' ps' ≤ weighted_amount t ps
unfolding weighted_amount risk_weighted_amount
weighted_mono t t' ps ps' w h = rw w (round_up_mono 100 (mul-le-mul_right (set_weight t) h))

-- THE LIST

reached_accepted : {s e : NettingSet} → accepted_set s ≡ true → SetBetterments s e → accepted_set e ≡ true
reached_accepted a SetBetterments.no_more = a
reached_accepted a (SetBetterments.held_otherwise same a' l) = reached_accepted a' l
reached_accepted a (SetBetterments.made b a' l) = reached_accepted a' l
reached_accepted a (SetBetterments.refused proposed b r l) = reached_accepted a l

-- every set reached from an accepted one is accepted
pub set_still_accepted : (s e : NettingSet) → accepted_set s ≡ true → SetBetterments s e → accepted_set e ≡ true
set_still_accepted s e a l = reached_accepted a l

plain_of : (s : NettingSet) → accepted_set s ≡ true → PlainSet s.terms s.count (positions_of s)
plain_of s a = plain_set s.terms s.count (positions_of s) (accepted_none s a)

exposure_falls : {s e : NettingSet} → accepted_set s ≡ true → SetBetterments s e → exposure_after_netting e.terms (positions_of e) ≤ exposure_after_netting s.terms (positions_of s)
exposure_falls a SetBetterments.no_more = omega arith
exposure_falls {s} {e} a (SetBetterments.held_otherwise {s' = s'} same a' l) =
    omega (arith, exposure_falls a' l, ap (λ v. exposure_after_netting v.terms v.positions) same)
exposure_falls {s} {e} a (SetBetterments.made {s' = s'} b a' l) =
    le_trans (exposure_falls a' l) (better_falls s.count s'.count b (plain_of s a) (plain_of s' a'))
exposure_falls a (SetBetterments.refused proposed b r l) = exposure_falls a l

same_weight : {s e : NettingSet} → SetBetterments s e → set_weight e.terms ≡ set_weight s.terms
same_weight SetBetterments.no_more = refl
same_weight (SetBetterments.held_otherwise same a l) = same_weight l ∙ ap (λ v. set_weight v.terms) (sym same)
same_weight (SetBetterments.made b a l) = same_weight l ∙ better_weight b
same_weight (SetBetterments.refused proposed b r l) = same_weight l

-- WITH THE LENT POSITIONS ALONE

-- a record made of them holds them
pub made_of : (t : SetTerms) (ps : List Position) → positions_of (set_with t ps) ≡ ps
made_of t ps = take_at ps _ (length ps) refl

pub lent_alone_accepted : (s : NettingSet) → accepted_set s ≡ true → accepted_set (lent_alone s) ≡ true
lent_alone_accepted s a =
    none_accepted (lent_alone s)
    (ap (set_refusal s.terms (length (lent_only (positions_of s)))) (made_of s.terms (lent_only (positions_of s))) ∙ lent_accepted s (accepted_none s a))

alone_falls : (s : NettingSet) → exposure_after_netting s.terms (positions_of s) ≤ exposure_after_netting s.terms (positions_of (lent_alone s))
unfolding exposure_after_netting
alone_falls s =
    subst (λ (ps : List Position). exposure_after_netting s.terms (positions_of s) ≤ exposure_after_netting s.terms ps) (sym (made_of s.terms (lent_only (positions_of s))))
    (lent_alone_no_better (security_haircut s.terms) s.terms.settlement (currency_haircut_over s.terms) (positions_of s))

-- whose E* is all that was lent
pub lent_alone_exposure : (s : NettingSet) → accepted_set s ≡ true → (set_reply (lent_alone s)).exposure ≡ sum_of lent (positions_of s)
unfolding exposure_after_netting
lent_alone_exposure s a =
    exposure_of (lent_alone s) (lent_alone_accepted s a)
    ∙ ap (exposure_after_netting s.terms) (made_of s.terms (lent_only (positions_of s)))
    ∙ lent_alone_is (security_haircut s.terms) s.terms.settlement (currency_haircut_over s.terms) (positions_of s)

-- THE CLAIM
pub set_never_raised : SetNeverRaised
set_never_raised s e a l =
    let a' = reached_accepted a l in
    let b = lent_alone_accepted e a' in
    let falls = exposure_falls a l in
    let lent = alone_falls e in (
      (
        rw (weighted_of e a', weighted_of s a) (weighted_mono s.terms e.terms (positions_of s) (positions_of e) (same_weight l) falls),
        rw (weighted_of e a', weighted_of (lent_alone e) b) (weighted_mono e.terms e.terms (positions_of (lent_alone e)) (positions_of e) refl lent),
      ),
      (rw (exposure_of e a', exposure_of s a) falls, rw (exposure_of e a', exposure_of (lent_alone e) b) lent),
    )

-- a record made of what would be accepted is accepted
view_accepted : (v : SetView) → accepted_set_view v ≡ true → accepted_set (set_with v.terms v.positions) ≡ true
unfolding accepted_set_view
view_accepted v e = none_accepted (set_with v.terms v.positions) (ap (set_refusal v.terms (length v.positions)) (made_of v.terms v.positions) ∙ eqb-true _ 0 e)

-- a list of betterments never comes to a stand: what is proposed is refused, or made
pub set_refused_or_made : (s : NettingSet) (v : SetView) → BetterSet (set_view_of s) v →
    (accepted_set_view v ≡ false) ⊎ (BetterSet (set_view_of s) (set_view_of (set_with v.terms v.positions)) × (accepted_set (set_with v.terms v.positions) ≡ true))
set_refused_or_made s v b = go (accepted_set_view v) refl
  where
    go : (t : Bool) → accepted_set_view v ≡ t →
        (accepted_set_view v ≡ false) ⊎ (BetterSet (set_view_of s) (set_view_of (set_with v.terms v.positions)) × (accepted_set (set_with v.terms v.positions) ≡ true))
    go false e = inl e
    go true e = inr (subst (λ (ps : List Position). BetterSet (set_view_of s) (record { terms = v.terms; positions = ps })) (sym (made_of v.terms v.positions)) b, view_accepted v e)
