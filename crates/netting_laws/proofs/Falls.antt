-- E* where one received position is larger, one more is received, haircuts are smaller, or only the lent positions are kept. Assumes nothing.
use Rattle.std.proofs.Common.{if◌then◌else◌}
use Prim.Native.Nat.{ℕ, ◌+◌, ◌*◌, ◌-◌, ◌≤◌, min}
use mathlib.Core.Path.{◌≡◌, refl, sym, ap, ap₂, ◌∙◌}
use mathlib.Core.Bool.{Bool, true, false}
use mathlib.Core.List.{List, [], ◌∷◌, ◌++◌}
use native.Mathlib.Nat.{mul-le-mul_left}
use native.Mathlib.Decide.{ℕ_discrete}
use native.Mathlib.Omega.{arith}
use lib.Dec.{eqb}
use lib.IntN.{nat_abs}
use Rattle.base.specs.Rounding.{round_up}
use Rattle.base.specs.Sum.{sum_of}
use Rattle.base.proofs.Choice.{if_true, if_false, either, either₂}
use Rattle.base.proofs.Rounding.{round_up_mono, round_up_is}
use Rattle.base.proofs.Sum.{sum_eq}
use Rattle.netting.specs.Groups.{member}
use Rattle.netting.specs.Positions.{amount_of, is_lent}
use Rattle.netting.specs.Nets.{lent, received, only, net}
use Rattle.netting.specs.Once.{occurs, sum_once}
use Rattle.netting.specs.Exposure.{security_of, currency_of, security_figure, security_add_on, currency_figure, currency_add_on, net_exposure}
use Rattle.base.specs.Each.{Each}
use Rattle.netting_laws.specs.Betterments.{lent_only, with_amount}
use Rattle.netting.specs.declared.group.Group.{Group}
use Rattle.netting.specs.declared.position.Position.{Position}
use Rattle.base.proofs.EachElement.{each_at, each_of, each_replaced, each_then}
use Rattle.netting.proofs.Sides.{only_in}
use Rattle.netting.proofs.Counting.{at, absent, once_add, once_mono}
use Rattle.netting_laws.proofs.OnceChanged.{once_inserted, once_replaced, once_within}
use Rattle.netting.proofs.Figures.{security_none, security_some, security_le, currency_le}
use Rattle.netting.proofs.Exposures.{net_exposure_is}
use Rattle.netting_laws.proofs.Growth.{More, more_inserted, more_larger, security_grows, currency_grows}

-- E* from its parts: all lent, all received, both add-ons
abbrev starred : ℕ → ℕ → ℕ → ℕ → ℕ
starred L R S C = min L (round_up (L * 1000000 + S + C - R * 1000000) 1000000)

-- smaller add-ons
parts_mono : (L R S C S' C' : ℕ) → S' ≤ S → C' ≤ C → starred L R S' C' ≤ starred L R S C
parts_mono L R S C S' C' h k =
    let m : L * 1000000 + S' + C' - R * 1000000 ≤ L * 1000000 + S + C - R * 1000000 = omega arith in
    omega (arith, round_up_mono 1000000 m)

-- d more received: what it may add is within what it takes away
parts_fall : (L R S C S' C' d w v : ℕ) → S' ≤ S + d * w → C' ≤ C + d * v → w + v ≤ 1000000 → starred L (R + d) S' C' ≤ starred L R S C
parts_fall L R S C S' C' d w v h k b =
    let m : L * 1000000 + S' + C' - (R + d) * 1000000 ≤ L * 1000000 + S + C - R * 1000000 = omega (arith, mul-le-mul_left d b) in
    omega (arith, round_up_mono 1000000 m)

-- all of one side is the side of the group of all
of_all : (figure : Position → ℕ) (ps : List Position) → sum_of (only (member Group.All) figure) ps ≡ sum_of figure ps
of_all figure ps = sum_eq (only (member Group.All) figure) figure (λ p. only_in (member Group.All) figure p refl) ps

-- a security's haircut and the currency haircut are together at most the whole: so a position that is received covers no less than it may add to
-- the absolute nets
abbrev pub Room : (Position → ℕ) → ℕ → Position → Type 0
Room cut fx p = cut p + fx ≤ 1000000

abbrev pub Coverable : (Position → ℕ) → ℕ → List Position → Type 0
Coverable cut fx ps = Each (Room cut fx) ps

-- entries for one nonzero security have one haircut, as those have that agree in type, step and life (refusal 15)
abbrev pub Agreeing : (Position → ℕ) → Position → List Position → Type 0
Agreeing cut p ps = Each (λ q. q.security ≡ p.security → (p.security ≡ 0 → ⊥) → cut q ≡ cut p) ps

-- figures of positions with one number
same_security : (cut : Position → ℕ) (ps : List Position) (q p : Position) → q.security ≡ p.security → ((p.security ≡ 0 → ⊥) → cut q ≡ cut p) →
    security_figure cut ps q ≡ security_figure cut ps p
same_security cut ps q p e h = go (ℕ_discrete p.security 0)
  where
    go : Dec (p.security ≡ 0) → security_figure cut ps q ≡ security_figure cut ps p
    go (yes z) = security_none cut ps q (e ∙ z) ∙ sym (security_none cut ps p z)
    go (no n) =
        security_some cut ps q (λ z. n (sym e ∙ z))
        ∙ ap₂ (λ k c. nat_abs (net (member (Group.Security k)) ps) * c) e (h n) ∙ sym (security_some cut ps p n)

same_currency : (settlement fx : ℕ) (ps : List Position) (q p : Position) → q.currency ≡ p.currency → currency_figure settlement fx ps q ≡ currency_figure settlement fx ps p
unfolding currency_figure
same_currency settlement fx ps q p e = ap (λ k. if eqb k settlement then 0 else nat_abs (net (member (Group.Currency k)) ps) * fx) e

-- the lent positions alone: all that was lent, and nothing received
alone_lent : (ps : List Position) → sum_of lent (lent_only ps) ≡ sum_of lent ps
unfolding sum_of lent_only lent
alone_lent [] = refl
alone_lent (p ∷ ps) =
    either (λ qs. sum_of lent qs ≡ lent p + sum_of lent ps) (is_lent p) (λ t. omega (arith, alone_lent ps))
    (λ t. omega (arith, alone_lent ps, if_false (is_lent p) p.amount 0 t))

alone_received : (ps : List Position) → sum_of received (lent_only ps) ≡ 0
unfolding sum_of lent_only received
alone_received [] = refl
alone_received (p ∷ ps) =
    either (λ qs. sum_of received qs ≡ 0) (is_lent p) (λ t. omega (arith, alone_received ps, if_true (is_lent p) 0 p.amount t)) (λ t. alone_received ps)

module _ (cut : Position → ℕ) (settlement fx : ℕ) where
  -- where the add-ons over ps' at the nets of ps are those of ps
  falls : (ps ps' : List Position) (p : Position) (d : ℕ) → More ps ps' p d → fx ≤ 1000000 → Each (Room cut fx) ps' →
      sum_once security_of (security_figure cut ps) ps' ≡ security_add_on cut ps → sum_once currency_of (currency_figure settlement fx ps) ps' ≡ currency_add_on settlement fx ps →
      net_exposure cut settlement fx ps' ≤ net_exposure cut settlement fx ps
  unfolding security_add_on currency_add_on
  falls ps ps' p d more room within s c = rw (net_exposure_is cut settlement fx ps, net_exposure_is cut settlement fx ps', lent_is, received_is) fall
    where
      w : ℕ
      w = 1000000 - fx

      lent_is : sum_of lent ps' ≡ sum_of lent ps
      lent_is = omega (arith, of_all lent ps, of_all lent ps', more.lent_same Group.All)

      received_is : sum_of received ps' ≡ sum_of received ps + d
      received_is = omega (arith, of_all received ps, of_all received ps', more.received_more Group.All, if_true true d 0 refl)

      security : security_add_on cut ps' ≤ security_add_on cut ps + d * w
      security =
          omega (
            arith,
            once_mono security_of (security_figure cut ps') (λ q. security_figure cut ps q + only (at security_of p.security) (λ x. d * w) q) ps'
                (each_then (λ q h. security_grows more cut w q (omega arith)) ps' within),
            once_add security_of (security_figure cut ps) (only (at security_of p.security) (λ x. d * w)) ps',
            once_within security_of p.security (d * w) ps',
            s,
          )

      currency : currency_add_on settlement fx ps' ≤ currency_add_on settlement fx ps + d * fx
      currency =
          omega (
            arith,
            once_mono currency_of (currency_figure settlement fx ps') (λ q. currency_figure settlement fx ps q + only (at currency_of p.currency) (λ x. d * fx) q) ps'
                (each_of (currency_grows more settlement fx) ps'),
            once_add currency_of (currency_figure settlement fx ps) (only (at currency_of p.currency) (λ x. d * fx)) ps',
            once_within currency_of p.currency (d * fx) ps',
            c,
          )

      fall : starred (sum_of lent ps) (sum_of received ps + d) (security_add_on cut ps') (currency_add_on settlement fx ps')
          ≤ starred (sum_of lent ps) (sum_of received ps) (security_add_on cut ps) (currency_add_on settlement fx ps)
      fall = parts_fall (sum_of lent ps) (sum_of received ps) _ _ _ _ d w fx security currency (omega arith)

  -- a larger received position
  pub larger_no_worse : (xs ys : List Position) (p : Position) (d : ℕ) → is_lent p ≡ false → cut (with_amount (p.amount + d) p) ≡ cut p →
      Coverable cut fx (xs ++ p ∷ ys) →
      net_exposure cut settlement fx (xs ++ with_amount (p.amount + d) p ∷ ys) ≤ net_exposure cut settlement fx (xs ++ p ∷ ys)
  unfolding security_add_on currency_add_on security_figure currency_figure
  larger_no_worse xs ys p d r same within =
      let own = each_at (Room cut fx) xs ys p within in
      let now : Coverable cut fx (xs ++ with_amount (p.amount + d) p ∷ ys) = each_replaced (Room cut fx) xs ys p (with_amount (p.amount + d) p) within (omega arith) in
      falls (xs ++ p ∷ ys) (xs ++ with_amount (p.amount + d) p ∷ ys) p d (more_larger xs ys p r d) (omega arith) now
      (once_replaced security_of (security_figure cut (xs ++ p ∷ ys)) xs ys (with_amount (p.amount + d) p) p refl
      (ap (λ c. if eqb p.security 0 then 0 else nat_abs (net (member (Group.Security p.security)) (xs ++ p ∷ ys)) * c) same))
      (once_replaced currency_of (currency_figure settlement fx (xs ++ p ∷ ys)) xs ys (with_amount (p.amount + d) p) p refl refl)

  -- one more received position: its figure at the old nets is 0 where its number is new
  new_none : (number f : Position → ℕ) (ps : List Position) (p : Position) → f p ≤ sum_of (only (at number (number p)) amount_of) ps * 1000000 →
      (if occurs number (number p) ps then 0 else f p) ≡ 0
  new_none number f ps p h = either (λ x. x ≡ 0) (occurs number (number p) ps) (λ t. refl) (λ t. omega (arith, h, absent number amount_of (number p) ps t))

  pub one_more_no_worse : (xs ys : List Position) (p : Position) → is_lent p ≡ false → Agreeing cut p xs → Coverable cut fx (xs ++ p ∷ ys) →
      net_exposure cut settlement fx (xs ++ p ∷ ys) ≤ net_exposure cut settlement fx (xs ++ ys)
  unfolding security_add_on currency_add_on
  one_more_no_worse xs ys p r agree within =
      let own = each_at (Room cut fx) xs ys p within in
      falls (xs ++ ys) (xs ++ p ∷ ys) p p.amount (more_inserted xs ys p r) (omega arith) within
      (omega (
        arith,
        once_inserted security_of (security_figure cut (xs ++ ys)) xs ys p (each_then (λ q h e. same_security cut (xs ++ ys) q p e (h e)) xs agree),
        new_none security_of (security_figure cut (xs ++ ys)) (xs ++ ys) p (security_le cut (xs ++ ys) p (omega arith)),
      ))
      (omega (
        arith,
        once_inserted currency_of (currency_figure settlement fx (xs ++ ys)) xs ys p (each_of (λ q e. same_currency settlement fx (xs ++ ys) q p e) xs),
        new_none currency_of (currency_figure settlement fx (xs ++ ys)) (xs ++ ys) p (currency_le settlement fx (xs ++ ys) p (omega arith)),
      ))

  -- never above all that was lent
  pub within_lent : (ps : List Position) → net_exposure cut settlement fx ps ≤ sum_of lent ps
  within_lent ps = rw (net_exposure_is cut settlement fx ps) (omega arith)

  -- which is E* of the lent positions alone
  pub lent_alone_is : (ps : List Position) → net_exposure cut settlement fx (lent_only ps) ≡ sum_of lent ps
  lent_alone_is ps = rw (net_exposure_is cut settlement fx (lent_only ps), alone_lent ps, alone_received ps) (whole (sum_of lent ps) _ _)
    where
      whole : (L S C : ℕ) → starred L 0 S C ≡ L
      whole L S C = omega (arith, (round_up_is (L * 1000000 + S + C - 0 * 1000000) 1000000 (omega arith)).passes)

  pub lent_alone_no_better : (ps : List Position) → net_exposure cut settlement fx ps ≤ net_exposure cut settlement fx (lent_only ps)
  lent_alone_no_better ps = rw (lent_alone_is ps) (within_lent ps)

-- smaller haircuts
smaller_choice : (t : Bool) (n : ℕ) {c c' : ℕ} → c' ≤ c → (if t then 0 else (n * c')) ≤ (if t then 0 else (n * c))
smaller_choice t n h = either₂ (λ a b. a ≤ b) t {a = 0} {c = 0} (λ e. omega arith) (λ e. mul-le-mul_left n h)

pub smaller_cuts_no_worse : (settlement : ℕ) (cut cut' : Position → ℕ) (fx fx' : ℕ) (ps : List Position) → Each (λ p. cut' p ≤ cut p) ps → fx' ≤ fx →
    net_exposure cut' settlement fx' ps ≤ net_exposure cut settlement fx ps
unfolding security_add_on currency_add_on security_figure currency_figure
smaller_cuts_no_worse settlement cut cut' fx fx' ps h k =
    rw (net_exposure_is cut settlement fx ps, net_exposure_is cut' settlement fx' ps)
    (parts_mono (sum_of lent ps) (sum_of received ps) (security_add_on cut ps) (currency_add_on settlement fx ps) (security_add_on cut' ps) (currency_add_on settlement fx' ps)
    (once_mono security_of (security_figure cut' ps) (security_figure cut ps) ps (each_then (λ p c. smaller_choice (eqb p.security 0) _ c) ps h))
    (once_mono currency_of (currency_figure settlement fx' ps) (currency_figure settlement fx ps) ps (each_of (λ p. smaller_choice (eqb p.currency settlement) _ k) ps)))
