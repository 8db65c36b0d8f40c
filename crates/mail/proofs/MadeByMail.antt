-- Whatever comes back without a carriage return is what a mail program can have made of the result. Assumes nothing.
use Prim.Native.Nat.{ℕ, zero, suc}
use mathlib.Core.Path.{◌≡◌, refl}
use mathlib.Core.Bool.{Bool, true, false}
use mathlib.Core.List.{List, [], ◌∷◌}
use lib.Dec.{eqb}
use lib.ListN.{get_or}
use Rattle.base.proofs.Choice.{never}
use Rattle.mail.specs.Mail.{repaired}
use Rattle.mail.specs.Bytewise.{space_first, feed_first, tabbed, bytewise}
use Rattle.mail.specs.Mailed.{Mailed, nothing, tabbing, feeding, leaving}
use Rattle.mail.proofs.Kind.{Kind, kind, a_space, a_return, a_feed, other}
use Rattle.mail.proofs.Only.{ends}
use Rattle.mail.proofs.Runs.{bytewise_is}

-- one byte more of a run
more_space : {sent came : List ℕ} → Mailed sent came → space_first came ≡ true → Mailed sent (32 ∷ came)
unfolding space_first
more_space nothing e = absurd (never e refl)
more_space (tabbing n k m) e = tabbing (suc n) k m
more_space (feeding zero m) e = absurd (never e refl)
more_space (feeding (suc n) m) e = absurd (never e refl)
more_space (leaving b p q m) e = absurd (never e p)

more_return : {sent came : List ℕ} → Mailed sent came → feed_first came ≡ true → Mailed sent (13 ∷ came)
unfolding feed_first
more_return nothing e = absurd (never e refl)
more_return (tabbing n k m) e = absurd (never e refl)
more_return (feeding n m) e = feeding (suc n) m
more_return (leaving b p q m) e = go (kind b) p q m e
  where
    go : {b : ℕ} {sent came : List ℕ} → Kind b → eqb b 32 ≡ false → eqb b 13 ≡ false → Mailed sent came → feed_first (b ∷ came) ≡ true → Mailed (b ∷ sent) (13 ∷ b ∷ came)
    go a_space p q m e = absurd (never refl p)
    go a_return p q m e = absurd (never refl q)
    go a_feed p q m e = feeding 1 m
    go (other f g r) p q m e = absurd (never e (simp (g, r)))

-- no place of it holds a carriage return
abbrev NoReturn : List ℕ → Type 0
NoReturn text = (i : ℕ) → eqb (get_or text i 0) 13 ≡ false

made_by_mail : (came : List ℕ) → NoReturn (bytewise came) → Mailed (bytewise came) came
unfolding bytewise tabbed
made_by_mail [] h = nothing
made_by_mail (b ∷ bs) h = go (kind b) h (made_by_mail bs) (space_first bs) refl (feed_first bs) refl
  where
    go : {b : ℕ} → Kind b → NoReturn (bytewise (b ∷ bs)) → (NoReturn (bytewise bs) → Mailed (bytewise bs) bs)
        → (s : Bool) → space_first bs ≡ s → (f : Bool) → feed_first bs ≡ f → Mailed (bytewise (b ∷ bs)) (b ∷ bs)
    go a_space h rest true k f l = rw k (more_space (rest (λ i. rw k at (h i))) k)
    go a_space h rest false k f l = rw k (tabbing 0 (ends bs k) (rest (λ i. rw k at (h (suc i)))))
    go a_return h rest s k true l = rw l (more_return (rest (λ i. rw l at (h i))) l)
    go a_return h rest s k false l = absurd (never refl (rw l at (h 0)))
    go a_feed h rest s k f l = feeding 0 (rest (λ i. h (suc i)))
    go {b} (other p q r) h rest s k f l = rw (p, q) (leaving b p q (rest (λ i. rw (p, q) at (h (suc i)))))

-- so nothing narrower than this is meant by a mailed text
pub mailed_all : (came : List ℕ) → NoReturn (repaired came) → Mailed (repaired came) came
mailed_all came h = rw (bytewise_is came) (made_by_mail came (λ i. rw (bytewise_is came) at (h i)))
