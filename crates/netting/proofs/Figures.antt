-- The laws of absolute nets times haircuts: by cases, and how large they can be. Assumes nothing.
use Prim.Native.Nat.{ℕ, ◌*◌, ◌≤◌}
use mathlib.Core.Path.{◌≡◌}
use mathlib.Core.List.{List}
use native.Mathlib.Nat.{mul-le-mul}
use native.Mathlib.Omega.{arith}
use lib.Dec.{eqb}
use lib.IntN.{nat_abs}
use borrow.Author.Tests.{eq-eqb, ne_eqb}
use Rattle.base.specs.Sum.{sum_of}
use Rattle.base.proofs.Choice.{if_true, if_false, either}
use Rattle.netting.specs.Groups.{member}
use Rattle.netting.specs.Nets.{net, only}
use Rattle.netting.specs.Once.{sum_once}
use Rattle.netting.specs.Exposure.{security_of, currency_of, security_figure, security_add_on, currency_figure, currency_add_on}
use Rattle.netting.specs.Haircuts.{security_haircut}
use Rattle.netting.specs.Limits.{Fitting}
use Rattle.netting.specs.Positions.{amount_of}
use Rattle.netting.specs.declared.terms.SetTerms.{SetTerms}
use Rattle.netting.specs.declared.group.Group.{Group}
use Rattle.netting.specs.declared.position.Position.{Position}
use Rattle.base.specs.Each.{Each}
use Rattle.base.proofs.EachElement.{each_of}
use Rattle.netting.proofs.HaircutBounds.{security_low}
use Rattle.netting.proofs.NetSums.{net_abs_le}
use Rattle.netting.proofs.Counting.{at, once_mono, once_times, once_whole}

module _ (cut : Position → ℕ) (ps : List Position) (p : Position) where
  pub security_none : p.security ≡ 0 → security_figure cut ps p ≡ 0
  unfolding security_figure
  security_none e = if_true (eqb p.security 0) 0 _ (eq-eqb p.security 0 e)

  pub security_some : (p.security ≡ 0 → ⊥) → security_figure cut ps p ≡ nat_abs (net (member (Group.Security p.security)) ps) * cut p
  unfolding security_figure
  security_some n = if_false (eqb p.security 0) 0 _ (ne_eqb p.security 0 n)

  pub security_le : cut p ≤ 1000000 → security_figure cut ps p ≤ sum_of (only (at security_of p.security) amount_of) ps * 1000000
  unfolding security_figure
  security_le h =
      either (λ x. x ≤ sum_of (only (at security_of p.security) amount_of) ps * 1000000) (eqb p.security 0) (λ e. omega arith)
      (λ e. mul-le-mul (net_abs_le (member (Group.Security p.security)) ps) h)

module _ (settlement fx : ℕ) (ps : List Position) (p : Position) where
  pub currency_none : p.currency ≡ settlement → currency_figure settlement fx ps p ≡ 0
  unfolding currency_figure
  currency_none e = if_true (eqb p.currency settlement) 0 _ (eq-eqb p.currency settlement e)

  pub currency_some : (p.currency ≡ settlement → ⊥) → currency_figure settlement fx ps p ≡ nat_abs (net (member (Group.Currency p.currency)) ps) * fx
  unfolding currency_figure
  currency_some n = if_false (eqb p.currency settlement) 0 _ (ne_eqb p.currency settlement n)

  pub currency_le : fx ≤ 1000000 → currency_figure settlement fx ps p ≤ sum_of (only (at currency_of p.currency) amount_of) ps * 1000000
  unfolding currency_figure
  currency_le h =
      either (λ x. x ≤ sum_of (only (at currency_of p.currency) amount_of) ps * 1000000) (eqb p.currency settlement) (λ e. omega arith)
      (λ e. mul-le-mul (net_abs_le (member (Group.Currency p.currency)) ps) h)

-- each number once: no more than all amounts
once_bound : (number : Position → ℕ) (f : Position → ℕ) (ps : List Position) →
    Each (λ p. f p ≤ sum_of (only (at number (number p)) amount_of) ps * 1000000) ps → sum_once number f ps ≤ sum_of amount_of ps * 1000000
once_bound number f ps h =
    omega (
      arith,
      once_mono number f (λ p. sum_of (only (at number (number p)) amount_of) ps * 1000000) ps h,
      once_times number (λ p. sum_of (only (at number (number p)) amount_of) ps) 1000000 ps,
      once_whole number amount_of ps,
    )

security_bound : (cut : Position → ℕ) (ps : List Position) → ((p : Position) → cut p ≤ 1000000) → security_add_on cut ps ≤ sum_of amount_of ps * 1000000
unfolding security_add_on
security_bound cut ps h = once_bound security_of (security_figure cut ps) ps (each_of (λ p. security_le cut ps p (h p)) ps)

currency_bound : (settlement fx : ℕ) (ps : List Position) → fx ≤ 1000000 → currency_add_on settlement fx ps ≤ sum_of amount_of ps * 1000000
unfolding currency_add_on
currency_bound settlement fx ps h = once_bound currency_of (currency_figure settlement fx ps) ps (each_of (λ p. currency_le settlement fx ps p h) ps)

module _ {t : SetTerms} {ps : List Position} (fitting : Fitting t ps) where
  pub security_small : security_add_on (security_haircut t) ps ≤ 1000000000000000000
  security_small = omega (arith, security_bound (security_haircut t) ps (λ p. security_low t p fitting.few_days), fitting.amounts)

  pub currency_small : (fx : ℕ) → fx ≤ 1000000 → currency_add_on t.settlement fx ps ≤ 1000000000000000000
  currency_small fx h = omega (arith, currency_bound t.settlement fx ps h, fitting.amounts)
