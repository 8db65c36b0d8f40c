-- The numbers of answers: what `?` passes on keeps its number, no refusal has 0, and a number is that of one refusal. Assumes nothing.
use Rattle.std.proofs.Common.{◌≡◌, ℕ, ◌-◌, eqb, Bool, true, false, [], ◌∷◌, get_or, Result, Ok, Err, refl, sym, ap, subst, ◌∙◌}
use Rattle.std.specs.Result.{IfErr, IsErrAnd}
use Rattle.base.proofs.Choice.{never}
use Rattle.deal.specs.Answers.{answer_number, refusal_number}
use Rattle.deal.specs.declared.refusal.Refusal.{Refusal}
use Rattle.deal.specs.declared.refusal.Refusal.TheVariants.{AmountAboveLimit, UnknownCode, WrongStep, WrongCurrency, OutsideRange, ListFull, ResidualAboveOriginal, WrongCondition, RecordNotAccepted}
use Rattle.deal.proofs.Answers.{accepted_by_number}
use Rattle.netting.specs.Reply.{NettingReply, OwnRefusal, refused_reply, reply_sent, set_answer_number, set_refusal_number}
use Rattle.netting.specs.declared.refusal.SetRefusal.{SetRefusal}
use Rattle.netting.specs.declared.refusal.SetRefusal.TheVariants.{Field, SetFull, SecurityDisagrees, NotEligible, AmountsAboveLimit}
use Rattle.netting.specs.declared.set.NettingAmounts.{NettingAmounts}

-- a field's refusal, where a set is refused with it
pub field_passed : {A : Type 0} (r : Result A SetRefusal) (refusal : Refusal) → IsErrAnd r (λ e. e ≡ Field refusal) → set_answer_number r ≡ refusal_number refusal
unfolding set_answer_number set_refusal_number
field_passed (Ok x) refusal h = absurd h
field_passed (Err e) refusal h = ap set_refusal_number h

pub passed : {A : Type 0} (r : Result A SetRefusal) (refusal : SetRefusal) → IsErrAnd r (λ e. e ≡ refusal) → set_answer_number r ≡ set_refusal_number refusal
unfolding set_answer_number
passed (Ok x) refusal h = absurd h
passed (Err e) refusal h = ap set_refusal_number h

pub sent_refused : (r : Result NettingAmounts SetRefusal) (refusal : SetRefusal) → IsErrAnd r (λ e. e ≡ refusal) → reply_sent r ≡ refused_reply (set_refusal_number refusal)
unfolding reply_sent
sent_refused (Ok x) refusal h = absurd h
sent_refused (Err e) refusal h = ap (λ f. refused_reply (set_refusal_number f)) h

pub field_nonzero : (refusal : Refusal) → eqb (refusal_number refusal) 0 ≡ false
unfolding answer_number
field_nonzero refusal = sym (accepted_by_number {A = ℕ} (Err refusal))

pub refusal_nonzero : (refusal : SetRefusal) → eqb (set_refusal_number refusal) 0 ≡ false
unfolding set_refusal_number
refusal_nonzero (Field refusal) = field_nonzero refusal
refusal_nonzero SetFull = refl
refusal_nonzero SecurityDisagrees = refl
refusal_nonzero NotEligible = refl
refusal_nonzero AmountsAboveLimit = refl

-- A NUMBER IS THAT OF ONE REFUSAL

-- what holds of a refusal, where `?` passes it on
pub err_passed : {A E : Type 0} (P : E → Type 0) (r : Result A E) {e : E} → IsErrAnd r (λ x. x ≡ e) → P e → IfErr r P
err_passed P (Ok x) h p = tt
err_passed P (Err x) h p = subst P (sym h) p

own_full : OwnRefusal SetFull
own_full e = never refl (ap is_full e)
  where
    is_full : SetRefusal → Bool
    is_full SetFull = true
    is_full (Field refusal) = false
    is_full SecurityDisagrees = false
    is_full NotEligible = false
    is_full AmountsAboveLimit = false

not_own : OwnRefusal (Field ListFull) → ⊥
not_own own = own refl

pub own_numbered : (refusal : SetRefusal) → eqb (set_refusal_number refusal) 6 ≡ false → OwnRefusal refusal
unfolding set_refusal_number refusal_number
own_numbered refusal e q = never (ap (λ r. eqb (set_refusal_number r) 6) q) e

-- the set's own refusal with a number; 9 and above, but for 15 to 17, stand for 40
abbrev own_with : ℕ → SetRefusal
own_with n =
    get_or
    (SetFull
    ∷ Field AmountAboveLimit
    ∷ Field UnknownCode
    ∷ Field WrongStep
    ∷ Field WrongCurrency
    ∷ Field OutsideRange
    ∷ SetFull
    ∷ Field ResidualAboveOriginal
    ∷ Field WrongCondition
    ∷ [])
    n
    (get_or (SecurityDisagrees ∷ NotEligible ∷ AmountsAboveLimit ∷ []) (n - 15) (Field RecordNotAccepted))

own_back : (refusal : SetRefusal) → OwnRefusal refusal → own_with (set_refusal_number refusal) ≡ refusal
unfolding set_refusal_number refusal_number
own_back (Field AmountAboveLimit) own = refl
own_back (Field UnknownCode) own = refl
own_back (Field WrongStep) own = refl
own_back (Field WrongCurrency) own = refl
own_back (Field OutsideRange) own = refl
own_back (Field ListFull) own = absurd (own refl)
own_back (Field ResidualAboveOriginal) own = refl
own_back (Field WrongCondition) own = refl
own_back (Field RecordNotAccepted) own = refl
own_back SetFull own = refl
own_back SecurityDisagrees own = refl
own_back NotEligible own = refl
own_back AmountsAboveLimit own = refl

pub refusal_unique : (a b : SetRefusal) → OwnRefusal a → OwnRefusal b → set_refusal_number a ≡ set_refusal_number b → a ≡ b
refusal_unique a b own own' e = sym (own_back a own) ∙ ap own_with e ∙ own_back b own'

-- so what is sent determines the whole result
pub reply_unique : (a b : Result NettingAmounts SetRefusal) → IfErr a OwnRefusal → IfErr b OwnRefusal → reply_sent a ≡ reply_sent b → a ≡ b
unfolding reply_sent
reply_unique (Ok a) (Ok b) own own' e = ap (λ (r : NettingReply). Ok record { exposure = r.exposure; rwa = r.rwa }) e
reply_unique (Ok a) (Err b) own own' e = absurd (never (ap (λ (r : NettingReply). eqb r.refusal 0) (sym e)) (refusal_nonzero b))
reply_unique (Err a) (Ok b) own own' e = absurd (never (ap (λ (r : NettingReply). eqb r.refusal 0) e) (refusal_nonzero a))
reply_unique (Err a) (Err b) own own' e = ap Err (refusal_unique a b own own' (ap (λ (r : NettingReply). r.refusal) e))

-- what is sent, worked out
sent_full : reply_sent (Err SetFull) ≡ record { refusal = 6; exposure = 0; rwa = 0 }
unfolding reply_sent set_refusal_number
sent_full = refl

sent_amounts : reply_sent (Ok record { exposure = 17; rwa = 4 }) ≡ record { refusal = 0; exposure = 17; rwa = 4 }
unfolding reply_sent
sent_amounts = refl
