-- What refusals over all positions leave: none of a part meets them, and entries for one security have one haircut. Assumes nothing.
use mathlib.Core.Path.{◌≡◌, refl, sym, ◌∙◌}
use mathlib.Core.Bool.{Bool, true, false, not, ◌&&◌}
use mathlib.Core.List.{List, [], ◌∷◌, ◌++◌}
use lib.Dec.{eqb}
use borrow.Author.Tests.{eq-eqb, eqb-true, ne_eqb, not-false as held}
use Rattle.base.specs.Any.{any, any_two}
use Rattle.base.specs.Each.{Each}
use Rattle.base.proofs.EachElement.{each_then}
use Rattle.base.proofs.Every.{both}
use Rattle.base.proofs.Tests.{and_true, or_both}
use Rattle.netting.specs.Haircuts.{security_haircut}
use Rattle.netting.specs.Refusals.{disagree, same_goods}
use Rattle.netting.specs.declared.position.Position.{Position}
use Rattle.netting.specs.declared.terms.SetTerms.{SetTerms}
use Rattle.netting_laws.proofs.Falls.{Agreeing}

module _ {A : Type 0} where
  any_middle : (test : A → Bool) (xs ys : List A) (x : A) → any (xs ++ x ∷ ys) test ≡ false → test x ≡ false
  unfolding any
  any_middle test [] ys x e = (or_both (test x) (any ys test) e).0
  any_middle test (z ∷ xs) ys x e = any_middle test xs ys x (or_both (test z) (any (xs ++ x ∷ ys) test) e).1

  pub none_passes : (test : A → Bool) (xs : List A) → any xs test ≡ false → Each (λ x. test x ≡ false) xs
  unfolding any
  none_passes test [] e = tt
  none_passes test (x ∷ xs) e = let b = or_both (test x) (any xs test) e in (b.0, none_passes test xs b.1)

  -- no two pass, so none before one passes with it
  none_before : (test : A → A → Bool) (xs ys : List A) (x : A) → any_two (xs ++ x ∷ ys) test ≡ false → Each (λ z. test z x ≡ false) xs
  unfolding any_two
  none_before test [] ys x e = tt
  none_before test (z ∷ xs) ys x e =
      let b = or_both (any (xs ++ x ∷ ys) (test z)) (any_two (xs ++ x ∷ ys) test) e in
      (any_middle (test z) xs ys x b.0, none_before test xs ys x b.1)

-- not both, where the first holds
second_fails : (a b : Bool) → (a && b) ≡ false → a ≡ true → b ≡ false
second_fails a b e p = rw p at e

pub same_haircut : (t : SetTerms) (q p : Position) → disagree q p ≡ false → q.security ≡ p.security → (p.security ≡ 0 → ⊥) → security_haircut t q ≡ security_haircut t p
unfolding disagree security_haircut
same_haircut t q p e same some =
    let one = eq-eqb q.security p.security same in
    let nonzero : not (eqb q.security 0) ≡ true = rw (ne_eqb q.security 0 (λ z. some (sym same ∙ z))) refl in
    let goods = held (same_goods q p) (second_fails (eqb q.security p.security && not (eqb q.security 0)) (not (same_goods q p)) e (and_true _ _ one nonzero)) in
    let three = (both (eqb q.asset.goods p.asset.goods && eqb q.asset.step p.asset.step && eqb q.asset.life p.asset.life) _ goods).0 in
    let two = both (eqb q.asset.goods p.asset.goods && eqb q.asset.step p.asset.step) _ three in
    let first = both (eqb q.asset.goods p.asset.goods) _ two.0 in
    let goods_same : q.asset.goods ≡ p.asset.goods = eqb-true _ _ first.0 in
    let step_same : q.asset.step ≡ p.asset.step = eqb-true _ _ first.1 in
    let life_same : q.asset.life ≡ p.asset.life = eqb-true _ _ two.1 in
    rw (goods_same, step_same, life_same) refl

-- 15 is not met: entries before one, for its nonzero security, have its haircut
pub agreeing : (t : SetTerms) (xs ys : List Position) (p : Position) → any_two (xs ++ p ∷ ys) disagree ≡ false → Agreeing (security_haircut t) p xs
agreeing t xs ys p e = each_then (λ q d. same_haircut t q p d) xs (none_before disagree xs ys p e)
