-- E* of an accepted set in natural numbers alone: sides by their numbers, absolute differences, sums over all securities and currencies. Assumes nothing.
use Rattle.std.proofs.Common.{if◌then◌else◌}
use Prim.Native.Nat.{ℕ, suc, ◌+◌, ◌*◌, ◌-◌, min}
use mathlib.Core.Path.{◌≡◌, refl, ap, ap₂, ◌∙◌}
use mathlib.Core.Bool.{Bool, true, false, ◌&&◌}
use mathlib.Core.List.{List, [], ◌∷◌}
use native.Mathlib.Decide.{ℕ_discrete}
use native.Mathlib.Omega.{arith}
use lib.Dec.{eqb}
use lib.IntN.{nat_abs}
use borrow.Author.Tests.{eq-eqb, ne_eqb}
use Rattle.base.specs.Each.{Each}
use Rattle.base.specs.Rounding.{round_up}
use Rattle.base.specs.Sum.{sum_of}
use Rattle.base.proofs.EachElement.{each_then}
use Rattle.base.proofs.SumBelow.{below_eq}
use Rattle.signed.proofs.Less.{less_abs}
use Rattle.netting.specs.Exposure.{exposure_after_netting}
use Rattle.netting.specs.Groups.{member}
use Rattle.netting.specs.Haircuts.{currency_haircut_over, security_haircut}
use Rattle.netting.specs.Nets.{lent, net, only, received}
use Rattle.netting.specs.declared.group.Group.{Group}
use Rattle.netting.specs.declared.position.Position.{Position}
use Rattle.netting.specs.declared.terms.SetTerms.{SetTerms}
use Rattle.netting.proofs.Exposures.{net_exposure_is}
use Rattle.netting.proofs.Refusing.{PlainPosition, PlainSet, plain_positions}
use Rattle.netting_laws.specs.ByNumber.{haircut_for, sum_of_numbers}
use Rattle.netting_laws.proofs.Numbered.{by_currency, by_security}

-- equal figures of each
sum_each : {A : Type 0} (f g : A → ℕ) (xs : List A) → Each (λ x. f x ≡ g x) xs → sum_of f xs ≡ sum_of g xs
unfolding sum_of
sum_each f g [] h = refl
sum_each f g (x ∷ xs) h = ap₂ ◌+◌ h.0 (sum_each f g xs h.1)

-- the amounts of what counts, on a side
abbrev pub amounts_on : ℕ → (Position → Bool) → List Position → ℕ
amounts_on side counts ps = sum_of (λ p. if (eqb p.side side && counts p) then p.amount else 0) ps

abbrev pub apart : ℕ → ℕ → ℕ
apart a b = (a - b) + (b - a)

abbrev pub netted : (Position → Bool) → List Position → ℕ
netted counts ps = apart (amounts_on 1 counts ps) (amounts_on 2 counts ps)

-- E* = min {Σ E, max {0, [Σ E − Σ C + Σ (E_s × H_s) + Σ (E_fx × H_fx)]}}, rounded up
abbrev pub formula : SetTerms → List Position → ℕ
formula t ps =
    min (amounts_on 1 (λ p. true) ps)
    (round_up (
    amounts_on 1 (λ p. true) ps * 1000000
    + sum_of_numbers (λ k. netted (λ p. eqb p.security k) ps * haircut_for (security_haircut t) ps k)
    + sum_of_numbers (λ k. if eqb k t.settlement then 0 else netted (λ p. eqb p.currency k) ps * currency_haircut_over t)
    - amounts_on 2 (λ p. true) ps * 1000000
    ) 1000000)

-- by side, for a position on one of the two
module _ (counts : Position → Bool) (p : Position) (plain : PlainPosition p) where
  lent_on : only counts lent p ≡ (if (eqb p.side 1 && counts p) then p.amount else 0)
  unfolding only lent
  lent_on = go (eqb p.side 1) (counts p)
    where
      go : (s c : Bool) → (if c then (if s then p.amount else 0) else 0) ≡ (if (s && c) then p.amount else 0)
      go true true = refl
      go true false = refl
      go false true = refl
      go false false = refl

  received_on : only counts received p ≡ (if (eqb p.side 2 && counts p) then p.amount else 0)
  unfolding only received
  received_on = go (ℕ_discrete p.side 1)
    where
      by_counts : (c : Bool) → (if c then p.amount else 0) ≡ (if (true && c) then p.amount else 0)
      by_counts c = refl

      none : (c : Bool) → ◌≡◌ {A = ℕ} (if c then 0 else 0) (if (false && c) then p.amount else 0)
      none true = refl
      none false = refl

      go : Dec (p.side ≡ 1) → (if counts p then (if eqb p.side 1 then 0 else p.amount) else 0) ≡ (if (eqb p.side 2 && counts p) then p.amount else 0)
      go (yes e) = rw (eq-eqb p.side 1 e, ne_eqb p.side 2 (λ two. absurd (omega (arith, e, two)))) (none (counts p))
      go (no e) = rw (ne_eqb p.side 1 e, eq-eqb p.side 2 (omega (arith, e, plain.side))) (by_counts (counts p))

module _ (ps : List Position) (plain : Each PlainPosition ps) where
  lent_sum : (counts : Position → Bool) → sum_of (only counts lent) ps ≡ amounts_on 1 counts ps
  lent_sum counts = sum_each _ _ ps (each_then (λ p k. lent_on counts p k) ps plain)

  received_sum : (counts : Position → Bool) → sum_of (only counts received) ps ≡ amounts_on 2 counts ps
  received_sum counts = sum_each _ _ ps (each_then (λ p k. received_on counts p k) ps plain)

  net_is : (counts : Position → Bool) → nat_abs (net counts ps) ≡ netted counts ps
  unfolding net
  net_is counts = less_abs (sum_of (only counts lent) ps) (sum_of (only counts received) ps) ∙ ap₂ apart (lent_sum counts) (received_sum counts)

-- all of a side
all_of : (figure : Position → ℕ) (ps : List Position) → sum_of figure ps ≡ sum_of (only (λ p. true) figure) ps
unfolding sum_of only
all_of figure [] = refl
all_of figure (p ∷ ps) = ap (λ n. figure p + n) (all_of figure ps)

pub lent_by_side : (ps : List Position) → Each PlainPosition ps → sum_of lent ps ≡ amounts_on 1 (λ p. true) ps
lent_by_side ps plain = all_of lent ps ∙ lent_sum ps plain (λ p. true)

-- E* IS THE FORMULA'S
pub in_numbers : (t : SetTerms) (n : ℕ) (ps : List Position) → PlainSet t n ps → exposure_after_netting t ps ≡ formula t ps
unfolding exposure_after_netting
in_numbers t n ps s =
    net_exposure_is (security_haircut t) t.settlement (currency_haircut_over t) ps
    ∙ rw (by_security t n ps s, by_currency t n ps s (currency_haircut_over t), securities, currencies, lent_all, received_all) refl
  where
    plain : Each PlainPosition ps
    plain = plain_positions ps s.fields

    lent_all : sum_of lent ps ≡ amounts_on 1 (λ p. true) ps
    lent_all = lent_by_side ps plain

    received_all : sum_of received ps ≡ amounts_on 2 (λ p. true) ps
    received_all = all_of received ps ∙ received_sum ps plain (λ p. true)

    securities : sum_of_numbers (λ k. nat_abs (net (member (Group.Security k)) ps) * haircut_for (security_haircut t) ps k)
        ≡ sum_of_numbers (λ k. netted (λ p. eqb p.security k) ps * haircut_for (security_haircut t) ps k)
    securities = below_eq 999 _ _ (λ k h. ap (λ a. a * haircut_for (security_haircut t) ps (suc k)) (net_is ps plain (member (Group.Security (suc k)))))

    currencies : sum_of_numbers (λ k. if eqb k t.settlement then 0 else (nat_abs (net (member (Group.Currency k)) ps) * currency_haircut_over t))
        ≡ sum_of_numbers (λ k. if eqb k t.settlement then 0 else (netted (λ p. eqb p.currency k) ps * currency_haircut_over t))
    currencies = below_eq 999 _ _ (λ k h. ap (λ a. if eqb (suc k) t.settlement then 0 else (a * currency_haircut_over t)) (net_is ps plain (member (Group.Currency (suc k)))))
