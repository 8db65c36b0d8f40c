-- The reply to a netting set on numbers, by whether none is missing or too many. Assumes nothing.
use Prim.Native.Nat.{ℕ, ◌+◌, ◌*◌, ◌-◌, ◌/◌, ◌%◌, ◌≤◌, ◌<◌}
use mathlib.Core.Path.{◌≡◌, refl, sym, ap, ap₂, ◌∙◌}
use mathlib.Core.Bool.{Bool, true, false}
use mathlib.Core.List.{List, map}
use Rattle.std.proofs.Common.{leb, Result, Ok, Err}
use Rattle.std.specs.Result.{IfErr, IsErrAnd}
use native.Mathlib.Omega.{arith}
use lib.ListN.{drop, length, length-drop, take}
use lib.Seq.{take_all}
use borrow.Author.Tests.{eq-eqb, leb-false, leb-true, ne_eqb}
use Rattle.base.proofs.Choice.{if_true, if_false, never}
use lib.Dec.{eqb}
use Rattle.deal.specs.Answers.{refusal_number}
use Rattle.deal.specs.declared.refusal.Refusal.TheVariants.{AmountAboveLimit, UnknownCode, WrongStep, WrongCurrency, OutsideRange, ListFull, ResidualAboveOriginal, WrongCondition, RecordNotAccepted}
use Rattle.netting.specs.Fields.{position_in, position_width, set_terms_in}
use Rattle.netting.specs.Reply.{NettingReply, refused_reply, reply_sent, reply_to, set_refusal_number}
use Rattle.netting.specs.declared.position.Position.{Position}
use Rattle.netting.specs.declared.refusal.SetRefusal.{SetRefusal}
use Rattle.netting.specs.declared.set.NettingAmounts.{NettingAmounts}
use Rattle.netting.specs.declared.terms.SetTerms.{SetTerms}
use Rattle.netting.specs.declared.refusal.SetRefusal.TheVariants.{Field, SetFull, SecurityDisagrees, NotEligible, AmountsAboveLimit}
use Rattle.netting.proofs.Answered.{refusal_nonzero, refusal_unique}
use Rattle.netting.proofs.Replies.{many_alike}
use Rattle.hadlephoga.specs.Records.{slices}
use Rattle.hadlephoga.specs.Netting.{OwnNumbersRefusal, netting_reply, numbers_refusal_number, numbers_sent, position_count, positions_in, set_complete}
use Rattle.hadlephoga.specs.declared.sets.NumbersRefusal.{NumbersRefusal}
use Rattle.hadlephoga.specs.declared.sets.NumbersRefusal.TheVariants.{Malformed, Set}

module _ (ns : List ℕ) where
  pub reply_malformed : (length ns ≡ 6 + position_count ns * 7 → ⊥) → netting_reply ns ≡ refused_reply 11
  unfolding netting_reply set_complete
  reply_malformed n = if_false _ _ _ (ne_eqb _ _ n)

  pub reply_complete : length ns ≡ 6 + position_count ns * 7 → netting_reply ns ≡ reply_to (set_terms_in ns) (position_count ns) (positions_in ns)
  unfolding netting_reply set_complete
  reply_complete e = if_true _ _ _ (eq-eqb _ _ e)

  pub too_short : length ns < 6 → length ns ≡ 6 + position_count ns * 7 → ⊥
  too_short h e = omega arith

  -- what stands behind the set's own fields
  pub behind_terms : take (length ns - 6) (drop 6 ns) ≡ drop 6 ns
  behind_terms = take_all (length ns - 6) (drop 6 ns) (omega (arith, length-drop 6 ns))

  pub behind_length : length (take (length ns - 6) (drop 6 ns)) ≡ length ns - 6
  behind_length = ap length behind_terms ∙ length-drop 6 ns

-- the reply to the set that is read from what stands behind its own fields; of too many positions none matters
pub netted : (ns rest : List ℕ) (t : SetTerms) (ps : List Position) → rest ≡ drop 6 ns → 6 ≤ length ns → length rest % 7 ≡ 0 → t ≡ set_terms_in ns →
    (length rest / 7 ≤ 32 → take (length rest / 7) ps ≡ map position_in (slices position_width (length rest / 7) rest)) →
    reply_to t (length rest / 7) (take (length rest / 7) ps) ≡ netting_reply ns
unfolding position_count positions_in
netted ns rest t ps e long whole same read =
    alike (leb (length rest / 7) 32) refl
    ∙ ap₂ (λ terms k. reply_to terms k (positions_in ns)) same count
    ∙ sym (reply_complete ns (omega (arith, wide, count)))
  where
    wide : length rest ≡ length ns - 6
    wide = ap length e ∙ length-drop 6 ns

    count : length rest / 7 ≡ position_count ns
    count = ap (λ (n : ℕ). n / 7) wide

    alike : (b : Bool) → leb (length rest / 7) 32 ≡ b → reply_to t (length rest / 7) (take (length rest / 7) ps) ≡ reply_to t (length rest / 7) (positions_in ns)
    alike true l = ap (reply_to t (length rest / 7)) (read (leb-true _ _ l) ∙ ap₂ (λ k ms. map position_in (slices position_width k ms)) count e)
    alike false l = many_alike t (length rest / 7) _ (positions_in ns) (omega (arith, leb-false _ _ l))

-- a set's refusal, where numbers are refused with it
pub set_passed : (r : Result NettingAmounts NumbersRefusal) (refusal : SetRefusal) → IsErrAnd r (λ e. e ≡ Set refusal) → numbers_sent r ≡ refused_reply (set_refusal_number refusal)
unfolding numbers_sent numbers_refusal_number
set_passed (Ok x) refusal h = absurd h
set_passed (Err e) refusal h = ap (λ f. refused_reply (numbers_refusal_number f)) h

-- what numbers are refused for is that of no set: its number is 11
not_malformed : (refusal : SetRefusal) → eqb (set_refusal_number refusal) 11 ≡ false
unfolding set_refusal_number refusal_number
not_malformed (Field AmountAboveLimit) = refl
not_malformed (Field UnknownCode) = refl
not_malformed (Field WrongStep) = refl
not_malformed (Field WrongCurrency) = refl
not_malformed (Field OutsideRange) = refl
not_malformed (Field ListFull) = refl
not_malformed (Field ResidualAboveOriginal) = refl
not_malformed (Field WrongCondition) = refl
not_malformed (Field RecordNotAccepted) = refl
not_malformed SetFull = refl
not_malformed SecurityDisagrees = refl
not_malformed NotEligible = refl
not_malformed AmountsAboveLimit = refl

own_unique : (a b : NumbersRefusal) → OwnNumbersRefusal a → OwnNumbersRefusal b → numbers_refusal_number a ≡ numbers_refusal_number b → a ≡ b
unfolding numbers_refusal_number
own_unique Malformed Malformed own own' e = refl
own_unique Malformed (Set b) own own' e = absurd (never (ap (λ n. eqb n 11) (sym e)) (not_malformed b))
own_unique (Set a) Malformed own own' e = absurd (never (ap (λ n. eqb n 11) e) (not_malformed a))
own_unique (Set a) (Set b) own own' e = ap Set (refusal_unique a b own own' e)

some_number : (a : NumbersRefusal) → eqb (numbers_refusal_number a) 0 ≡ false
unfolding numbers_refusal_number
some_number Malformed = refl
some_number (Set a) = refusal_nonzero a

-- so what is sent determines the whole result
pub numbers_unique : (a b : Result NettingAmounts NumbersRefusal) → IfErr a OwnNumbersRefusal → IfErr b OwnNumbersRefusal → numbers_sent a ≡ numbers_sent b → a ≡ b
unfolding numbers_sent reply_sent
numbers_unique (Ok a) (Ok b) own own' e = ap (λ (r : NettingReply). Ok record { exposure = r.exposure; rwa = r.rwa }) e
numbers_unique (Ok a) (Err b) own own' e = absurd (never (ap (λ (r : NettingReply). eqb r.refusal 0) (sym e)) (some_number b))
numbers_unique (Err a) (Ok b) own own' e = absurd (never (ap (λ (r : NettingReply). eqb r.refusal 0) e) (some_number a))
numbers_unique (Err a) (Err b) own own' e = ap Err (own_unique a b own own' (ap (λ (r : NettingReply). r.refusal) e))

-- what is sent, worked out
sent_malformed : numbers_sent (Err Malformed) ≡ record { refusal = 11; exposure = 0; rwa = 0 }
unfolding numbers_sent numbers_refusal_number
sent_malformed = refl
