-- A sum that counts each number once is the sum over all numbers; so are the add-ons of an accepted set. Assumes nothing.
use Rattle.std.proofs.Common.{if◌then◌else◌}
use Prim.Native.Nat.{ℕ, suc, ◌+◌, ◌*◌, ◌<◌}
use mathlib.Core.Path.{◌≡◌, refl, sym, ap, ◌∙◌}
use mathlib.Core.Bool.{Bool, true, false, ◌||◌}
use mathlib.Core.List.{List, [], ◌∷◌}
use native.Mathlib.Decide.{ℕ_discrete}
use native.Mathlib.Omega.{arith}
use lib.Dec.{eqb}
use lib.IntN.{nat_abs}
use borrow.Author.Tests.{eq-eqb, eqb-true, ne_eqb}
use Rattle.base.specs.Any.{any, any_two}
use Rattle.base.specs.Each.{Each}
use Rattle.base.specs.Range.{within}
use Rattle.base.specs.Sum.{sum_below, sum_of}
use Rattle.base.proofs.Choice.{either, if_true, if_false}
use Rattle.base.proofs.EachElement.{each_both, each_then}
use Rattle.base.proofs.Range.{bounds}
use Rattle.base.proofs.SumBelow.{below_add, below_eq, below_first, below_one, below_same}
use Rattle.base.proofs.Tests.{or_both, or_first}
use Rattle.signed.proofs.Less.{less_abs}
use Rattle.netting.specs.Exposure.{currency_add_on, currency_figure, currency_of, security_add_on, security_figure, security_of}
use Rattle.netting.specs.Groups.{member}
use Rattle.netting.specs.Haircuts.{security_haircut}
use Rattle.netting.specs.Nets.{lent, net, only, received}
use Rattle.netting.specs.Once.{occurs, sum_once}
use Rattle.netting.specs.Positions.{security_allowed}
use Rattle.netting.specs.Refusals.{disagree}
use Rattle.netting.specs.declared.group.Group.{Group}
use Rattle.netting.specs.declared.position.Position.{Position}
use Rattle.netting.specs.declared.terms.SetTerms.{SetTerms}
use Rattle.netting.proofs.Counting.{absent, at, one_of}
use Rattle.netting.proofs.Figures.{security_none, security_some}
use Rattle.netting.proofs.Refusing.{PlainPosition, PlainSet, plain_positions}
use Rattle.netting_laws.specs.ByNumber.{haircut_for, of_currency, of_security, sum_of_numbers}
use Rattle.netting_laws.proofs.Agreement.{none_passes, same_haircut}
use Rattle.netting_laws.proofs.OnceChanged.{or_none}

-- a figure of what occurs, 0 of other numbers
module _ {A : Type 0} (number : A → ℕ) (g : ℕ → ℕ) where
  abbrev occurring : List A → ℕ → ℕ
  occurring xs k = if occurs number k xs then g k else 0

  -- one element more adds its own where it is new
  one_more : (x : A) (xs : List A) (k : ℕ) → occurring (x ∷ xs) k ≡ occurring xs k + (if eqb (number x) k then (if occurs number (number x) xs then 0 else g (number x)) else 0)
  unfolding any
  one_more x xs k = go (eqb (number x) k) refl
    where
      go : (t : Bool) → eqb (number x) k ≡ t →
          (if (eqb (number x) k || occurs number k xs) then g k else 0) ≡ occurring xs k + (if eqb (number x) k then (if occurs number (number x) xs then 0 else g (number x)) else 0)
      go true e =
          omega (
            arith,
            if_true (eqb (number x) k || occurs number k xs) (g k) 0 (or_first _ _ e),
            if_true (eqb (number x) k) (if occurs number (number x) xs then 0 else g (number x)) 0 e,
            ap (λ m. if occurs number m xs then 0 else g m) (eqb-true (number x) k e),
            one_of (occurs number k xs) (g k),
          )
      go false e =
          let left : (if (eqb (number x) k || occurs number k xs) then g k else 0) ≡ occurring xs k = ap (λ b. if b then g k else 0) (or_none _ _ e) in
          omega (arith, left, if_false (eqb (number x) k) (if occurs number (number x) xs then 0 else g (number x)) 0 e)

  pub once_numbers : (n : ℕ) (f : A → ℕ) (xs : List A) → Each (λ x. (number x < n) × (f x ≡ g (number x))) xs → sum_once number f xs ≡ sum_below n (occurring xs)
  unfolding sum_once any
  once_numbers n f [] h = omega (arith, below_eq n (occurring []) (λ k. 0) (λ k p. if_false false (g k) 0 refl), below_same n 0)
  once_numbers n f (x ∷ xs) h =
      omega (
        arith,
        below_eq n (occurring (x ∷ xs)) (λ k. occurring xs k + (if eqb (number x) k then (if occurs number (number x) xs then 0 else g (number x)) else 0)) (λ k p. one_more x xs k),
        below_add n (occurring xs) (λ k. if eqb (number x) k then (if occurs number (number x) xs then 0 else g (number x)) else 0),
        below_one n (number x) (if occurs number (number x) xs then 0 else g (number x)) h.0.0,
        once_numbers n f xs h.1,
        ap (λ a. if occurs number (number x) xs then 0 else a) h.0.1,
      )

-- THE SUM OVER THE NUMBERS 1 TO 999, where no number is above that and 0 counts for nothing
by_number : {A : Type 0} (number : A → ℕ) (f : A → ℕ) (h : ℕ → ℕ) (xs : List A) →
    Each (λ x. (number x < 1000) × (f x ≡ (if eqb (number x) 0 then 0 else h (number x)))) xs → ((k : ℕ) → occurs number k xs ≡ false → h k ≡ 0) →
    sum_once number f xs ≡ sum_of_numbers h
by_number number f h xs each none =
    once_numbers number (λ k. if eqb k 0 then 0 else h k) 1000 f xs each
    ∙ omega (
      arith,
      below_first 999 (occurring number (λ k. if eqb k 0 then 0 else h k) xs),
      nothing,
      below_eq 999 (λ k. occurring number (λ k. if eqb k 0 then 0 else h k) xs (suc k)) (λ k. h (suc k)) (λ k p. some k),
    )
  where
    nothing : occurring number (λ k. if eqb k 0 then 0 else h k) xs 0 ≡ 0
    nothing = either (λ a. a ≡ 0) (occurs number 0 xs) (λ e. if_true (eqb 0 0) 0 (h 0) refl) (λ e. refl)

    some : (k : ℕ) → occurring number (λ k. if eqb k 0 then 0 else h k) xs (suc k) ≡ h (suc k)
    some k =
        either (λ a. a ≡ h (suc k)) (occurs number (suc k) xs) (λ e. if_false (eqb (suc k) 0) 0 (h (suc k)) (ne_eqb (suc k) 0 (λ z. absurd (omega (arith, z))))) (λ e. sym (none (suc k) e))

-- the net of a group that no position is of
module _ (number : Position → ℕ) (k : ℕ) (ps : List Position) (e : occurs number k ps ≡ false) where
  no_net : nat_abs (net (at number k) ps) ≡ 0
  unfolding net
  no_net = omega (arith, less_abs (sum_of (only (at number k) lent) ps) (sum_of (only (at number k) received) ps), absent number lent k ps e, absent number received k ps e)

-- each entry for a security has the haircut of the first
pub first_haircut : (t : SetTerms) (ps : List Position) → any_two ps disagree ≡ false → Each (λ p. (p.security ≡ 0 → ⊥) → security_haircut t p ≡ haircut_for (security_haircut t) ps p.security) ps
unfolding haircut_for any_two
first_haircut t [] e = tt
first_haircut t (p ∷ ps) e =
    let b = or_both (any ps (disagree p)) (any_two ps disagree) e in (
      (λ some. sym (if_true (eqb p.security p.security) (security_haircut t p) _ (eq-eqb p.security p.security refl))),
      each_both (λ q d later some. behind q d (later some) some) ps (none_passes (disagree p) ps b.0) (first_haircut t ps b.1),
    )
  where
    behind : (q : Position) → disagree p q ≡ false → security_haircut t q ≡ haircut_for (security_haircut t) ps q.security → (q.security ≡ 0 → ⊥) →
        security_haircut t q ≡ (if eqb p.security q.security then security_haircut t p else haircut_for (security_haircut t) ps q.security)
    behind q d later some =
        either (λ a. security_haircut t q ≡ a) (eqb p.security q.security) (λ same. sym (same_haircut t p q d (eqb-true _ _ same) some)) (λ other. later)

-- a security's number is at most 999
pub security_low : (p : Position) → PlainPosition p → p.security < 1000
unfolding security_allowed
security_low p plain = go (eqb p.asset.goods 1) plain.security
  where
    go : (b : Bool) → (if b then eqb p.security 0 else within 1 999 p.security) ≡ true → p.security < 1000
    go true e = omega (arith, eqb-true p.security 0 e)
    go false e = omega (arith, (bounds 1 999 p.security e).1)

module _ (t : SetTerms) (n : ℕ) (ps : List Position) (s : PlainSet t n ps) where
  pub by_security : security_add_on (security_haircut t) ps ≡ sum_of_numbers (of_security (security_haircut t) ps)
  unfolding security_add_on
  by_security =
      by_number security_of (security_figure (security_haircut t) ps) (of_security (security_haircut t) ps) ps
      (each_both (λ p plain first. (security_low p plain, figure p first)) ps (plain_positions ps s.fields) (first_haircut t ps s.agree))
      (λ k e. rw (no_net security_of k ps e) (omega arith))
    where
      figure : (p : Position) → ((p.security ≡ 0 → ⊥) → security_haircut t p ≡ haircut_for (security_haircut t) ps p.security) →
          security_figure (security_haircut t) ps p ≡ (if eqb p.security 0 then 0 else of_security (security_haircut t) ps p.security)
      figure p first = go (ℕ_discrete p.security 0)
        where
          go : Dec (p.security ≡ 0) → security_figure (security_haircut t) ps p ≡ (if eqb p.security 0 then 0 else of_security (security_haircut t) ps p.security)
          go (yes z) = security_none (security_haircut t) ps p z ∙ sym (if_true (eqb p.security 0) 0 _ (eq-eqb _ 0 z))
          go (no z) =
              security_some (security_haircut t) ps p z
              ∙ ap (λ c. nat_abs (net (member (Group.Security p.security)) ps) * c) (first z) ∙ sym (if_false (eqb p.security 0) 0 _ (ne_eqb _ 0 z))

  pub by_currency : (fx : ℕ) → currency_add_on t.settlement fx ps ≡ sum_of_numbers (of_currency t.settlement fx ps)
  unfolding currency_add_on currency_figure
  by_currency fx =
      by_number currency_of (currency_figure t.settlement fx ps) (of_currency t.settlement fx ps) ps
      (each_then (λ p plain. (omega (arith, plain.currency.1), sym (if_false (eqb p.currency 0) 0 _ (ne_eqb p.currency 0 (λ z. absurd (omega (arith, z, plain.currency.0))))))) ps (plain_positions ps s.fields))
      (λ k e. either (λ a. a ≡ 0) (eqb k t.settlement) (λ same. refl) (λ other. rw (no_net currency_of k ps e) (omega arith)))
