-- Which records are accepted by a set of rules, part by part, and that what is not refused leaves an accepted deal. Assumes nothing.
use Prim.Native.Nat.{ℕ}
use mathlib.Core.Path.{◌≡◌, refl, sym, ◌∙◌}
use mathlib.Core.Bool.{Bool, true, false, not, ◌&&◌}
use mathlib.Core.List.{List, [], ◌∷◌}
use lib.Dec.{leb, eqb}
use lib.ListN.{take}
use borrow.Author.Tests.{eq-eqb, eqb-true}
use Rattle.base.specs.All.{all_pass}
use Rattle.base.specs.FirstMet.{NoneMet, Test, ◌when◌, first_met}
use Rattle.base.proofs.All.{all_implied}
use Rattle.base.proofs.Choice.{if_true}
use Rattle.base.proofs.Every.{both}
use Rattle.base.proofs.FirstMet.{distinct, none_exactly, not_met}
use Rattle.base.proofs.Tests.{and_true, not_false}
use Rattle.deal.specs.Collateral.{append_collateral}
use Rattle.deal.specs.Guarantees.{append_guarantee}
use Rattle.deal.specs.Lists.{list_allowed, list_limit, list_tests}
use Rattle.deal.specs.Records.{deal_of, without_protection}
use Rattle.deal.specs.declared.terms.Terms.{Terms}
use Rattle.deal.specs.declared.collateral.Collateral.{Collateral}
use Rattle.deal.specs.declared.guarantee.Guarantee.{Guarantee}
use Rattle.deal.specs.declared.deal.Deal.{Deal}
use Rattle.deal.proofs.Lists.{still_allowed}
use Rattle.earlier.specs.Deals.{accepted_by, add_collateral_refusal_by, add_guarantee_refusal_by, collateral_refusal_by, deal_opened_by, guarantee_refusal_by, record_tests_by, terms_refusal_by, with_collateral_by, with_guarantee_by}
use Rattle.earlier.specs.Rules.{Rules}

-- an accepted deal, part by part
pub record Parts (rules : Rules) (d : Deal) : Type 0 where
  pub terms : terms_refusal_by rules d.terms ≡ 0
  pub collateral : list_allowed (collateral_refusal_by rules) d.collateral.items d.collateral.count ≡ true
  pub guarantees : list_allowed (guarantee_refusal_by rules) d.guarantees.items d.guarantees.count ≡ true

pub parts : (rules : Rules) (d : Deal) → accepted_by rules d ≡ true → Parts rules d
unfolding accepted_by
parts rules d e =
    let outer = both (eqb (terms_refusal_by rules d.terms) 0 && list_allowed (collateral_refusal_by rules) d.collateral.items d.collateral.count) _ e in
    let inner = both (eqb (terms_refusal_by rules d.terms) 0) _ outer.0 in
    record { terms = eqb-true _ 0 inner.0; collateral = inner.1; guarantees = outer.1 }

pub whole : (rules : Rules) (d : Deal) → Parts rules d → accepted_by rules d ≡ true
unfolding accepted_by
whole rules d p = and_true _ _ (and_true _ _ (eq-eqb _ 0 p.terms) p.collateral) p.guarantees

-- a list stays allowed where each of its items stays taken
pub list_more : {A : Type 0} (before after : A → ℕ) → ((x : A) → before x ≡ 0 → after x ≡ 0) → (items : List A) (count : ℕ) →
    list_allowed before items count ≡ true → list_allowed after items count ≡ true
list_more before after more items count e =
    let b = both (leb count list_limit) _ e in
    and_true _ _ b.0
    (all_implied (λ x. eqb (before x) 0) (λ x. eqb (after x) 0) (λ x h. eq-eqb _ 0 (more x (eqb-true _ 0 h))) (take count items) b.1)

-- the same of items that pass another test besides, and where taken items pass a test
pub all_passing : {A : Type 0} (p q r : A → Bool) → ((x : A) → p x ≡ true → q x ≡ true → r x ≡ true) → (xs : List A) → all_pass xs p ≡ true → all_pass xs q ≡ true → all_pass xs r ≡ true
all_passing p q r h [] e f = refl
all_passing p q r h (x ∷ xs) e f =
    let a = both (p x) _ e in
    let b = both (q x) _ f in
    and_true _ _ (h x a.0 b.0) (all_passing p q r h xs a.1 b.1)

pub list_passing : {A : Type 0} (after before : A → ℕ) (short : A → Bool) → ((x : A) → short x ≡ true → after x ≡ 0 → before x ≡ 0) → (items : List A) (count : ℕ) →
    all_pass (take count items) short ≡ true → list_allowed after items count ≡ true → list_allowed before items count ≡ true
list_passing after before short same items count s e =
    let b = both (leb count list_limit) _ e in
    and_true _ _ b.0
    (all_passing short (λ x. eqb (after x) 0) (λ x. eqb (before x) 0) (λ x h k. eq-eqb _ 0 (same x h (eqb-true _ 0 k))) (take count items) s b.1)

pub list_short : {A : Type 0} (refusal : A → ℕ) (short : A → Bool) → ((x : A) → refusal x ≡ 0 → short x ≡ true) → (items : List A) (count : ℕ) →
    list_allowed refusal items count ≡ true → all_pass (take count items) short ≡ true
list_short refusal short taken items count e =
    all_implied (λ x. eqb (refusal x) 0) short (λ x h. taken x (eqb-true _ 0 h)) (take count items) (both (leb count list_limit) _ e).1

-- 40 is not met
pub unrefused : (rules : Rules) (d : Deal) (tests : List (Test ℕ)) → accepted_by rules d ≡ true → first_met (40 when not (accepted_by rules d) ∷ tests) ≡ first_met tests
unrefused rules d tests e = not_met 40 _ tests (not_false _ e)

-- an addition that is not refused meets no test of its item
pub added_tests : {A : Type 0} (rules : Rules) (d : Deal) (tests : A → List (Test ℕ)) (count : ℕ) (x : A) → distinct (record_tests_by rules d (list_tests tests count x)) ≡ true →
    first_met (record_tests_by rules d (list_tests tests count x)) ≡ 0 → NoneMet (tests x)
added_tests rules d tests count x h e = (none_exactly (record_tests_by rules d (list_tests tests count x)) h e).1.1

-- a test besides that passes
pub and_right : (a b : Bool) → b ≡ true → (a && b) ≡ a
and_right true b h = h
and_right false b h = refl

-- two tests that hold of the same
pub same_truth : (a b : Bool) → (a ≡ true → b ≡ true) → (b ≡ true → a ≡ true) → a ≡ b
same_truth true b h k = sym (h refl)
same_truth false true h k = k refl
same_truth false false h k = refl

-- What is not refused gives an accepted deal

-- each number of an item's tests stands there once, behind 6
pub record Apart (rules : Rules) : Type 0 where
  pub collateral : (full : Bool) (c : Collateral) → distinct (6 when full ∷ rules.collateral_tests c) ≡ true
  pub guarantees : (full : Bool) (g : Guarantee) → distinct (6 when full ∷ rules.guarantee_tests g) ≡ true

module _ (rules : Rules) where
  pub opened_accepted : (t : Terms) → terms_refusal_by rules t ≡ 0 → accepted_by rules (deal_opened_by rules t) ≡ true
  unfolding deal_opened_by
  opened_accepted t e = rw (if_true _ (without_protection t) _ (eq-eqb _ 0 e)) (whole rules (without_protection t) (record { terms = e; collateral = refl; guarantees = refl }))

  module _ (d : Deal) (a : accepted_by rules d ≡ true) (apart : Apart rules) where
    pub collateral_accepted : (c : Collateral) → add_collateral_refusal_by rules d c ≡ 0 → accepted_by rules (with_collateral_by rules d c) ≡ true
    unfolding add_collateral_refusal_by with_collateral_by collateral_refusal_by
    collateral_accepted c e =
        let p = parts rules d a in
        let added = still_allowed rules.collateral_tests d.collateral.items d.collateral.count c (apart.collateral (leb list_limit d.collateral.count) c) (sym (unrefused rules d _ a) ∙ e) p.collateral in
        rw (if_true _ (deal_of d.terms (append_collateral d.collateral c) d.guarantees) _ (eq-eqb _ 0 e))
        (whole rules (deal_of d.terms (append_collateral d.collateral c) d.guarantees) (record { terms = p.terms; collateral = added; guarantees = p.guarantees }))

    pub guarantee_accepted : (g : Guarantee) → add_guarantee_refusal_by rules d g ≡ 0 → accepted_by rules (with_guarantee_by rules d g) ≡ true
    unfolding add_guarantee_refusal_by with_guarantee_by guarantee_refusal_by
    guarantee_accepted g e =
        let p = parts rules d a in
        let added = still_allowed rules.guarantee_tests d.guarantees.items d.guarantees.count g (apart.guarantees (leb list_limit d.guarantees.count) g) (sym (unrefused rules d _ a) ∙ e) p.guarantees in
        rw (if_true _ (deal_of d.terms d.collateral (append_guarantee d.guarantees g)) _ (eq-eqb _ 0 e))
        (whole rules (deal_of d.terms d.collateral (append_guarantee d.guarantees g)) (record { terms = p.terms; collateral = p.collateral; guarantees = added }))
