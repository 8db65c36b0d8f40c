-- One function alone does to every run what the paper says. Assumes nothing.
use Prim.Native.Nat.{ℕ, suc}
use mathlib.Core.Path.{◌≡◌, refl, sym, ap, ◌∙◌}
use mathlib.Core.Bool.{Bool, true, false}
use mathlib.Core.List.{List, [], ◌∷◌, ◌++◌}
use lib.ListN.{replicate}
use borrow.Author.Tests.{eqb-true}
use Rattle.base.proofs.Choice.{never}
use Rattle.mail.specs.Mail.{repaired}
use Rattle.mail.specs.Bytewise.{space_first, feed_first}
use Rattle.mail.specs.OnRuns.{NotFirst, OnRuns}
use Rattle.mail.proofs.Kind.{Kind, kind, a_space, a_return, a_feed, other}
use Rattle.mail.proofs.OnRuns.{on_runs}

-- a text that starts with a run of spaces, with returns that end at a line feed, or with returns, perhaps none, that end elsewhere
record Spaces (text : List ℕ) : Type 0 where
  n : ℕ
  rest : List ℕ
  last : NotFirst 32 rest
  parts : text ≡ replicate (suc n) 32 ++ rest

record Dropped (text : List ℕ) : Type 0 where
  n : ℕ
  rest : List ℕ
  parts : text ≡ replicate n 13 ++ 10 ∷ rest

record Stays (text : List ℕ) : Type 0 where
  n : ℕ
  rest : List ℕ
  no_return : NotFirst 13 rest
  no_feed : NotFirst 10 rest
  parts : text ≡ replicate n 13 ++ rest

pub ends : (text : List ℕ) → space_first text ≡ false → NotFirst 32 text
unfolding space_first
ends [] e = refl
ends (b ∷ bs) e = e

spaces_of : (text : List ℕ) → space_first text ≡ true → Spaces text
unfolding space_first
spaces_of [] e = absurd (never e refl)
spaces_of (b ∷ bs) e = go (space_first bs) refl (spaces_of bs)
  where
    go : (t : Bool) → space_first bs ≡ t → (space_first bs ≡ true → Spaces bs) → Spaces (b ∷ bs)
    go true h more = let s = more h in record { n = suc s.n; rest = s.rest; last = s.last; parts = rw (eqb-true b 32 e) (ap (λ l. 32 ∷ l) s.parts) }
    go false h more = record { n = 0; rest = bs; last = ends bs h; parts = rw (eqb-true b 32 e) }

dropped_of : (text : List ℕ) → feed_first text ≡ true → Dropped text
unfolding feed_first
dropped_of [] e = absurd (never e refl)
dropped_of (b ∷ bs) e = go (kind b) e (dropped_of bs)
  where
    go : {b : ℕ} → Kind b → feed_first (b ∷ bs) ≡ true → (feed_first bs ≡ true → Dropped bs) → Dropped (b ∷ bs)
    go a_space e more = absurd (never e refl)
    go a_return e more = let r = more e in record { n = suc r.n; rest = r.rest; parts = ap (λ l. 13 ∷ l) r.parts }
    go a_feed e more = record { n = 0; rest = bs; parts = refl }
    go (other p q r) e more = absurd (never e (simp (q, r)))

stays_of : (text : List ℕ) → feed_first text ≡ false → Stays text
unfolding feed_first
stays_of [] e = record { n = 0; rest = []; no_return = refl; no_feed = refl; parts = refl }
stays_of (b ∷ bs) e = go (kind b) e (stays_of bs)
  where
    go : {b : ℕ} → Kind b → feed_first (b ∷ bs) ≡ false → (feed_first bs ≡ false → Stays bs) → Stays (b ∷ bs)
    go a_space e more = record { n = 0; rest = 32 ∷ bs; no_return = refl; no_feed = refl; parts = refl }
    go a_return e more = let r = more e in record { n = suc r.n; rest = r.rest; no_return = r.no_return; no_feed = r.no_feed; parts = ap (λ l. 13 ∷ l) r.parts }
    go a_feed e more = absurd (never refl e)
    go {b} (other p q r) e more = record { n = 0; rest = b ∷ bs; no_return = q; no_feed = r; parts = refl }

-- a byte of a run that has more of the run behind it
module _ (f : List ℕ → List ℕ) (h : OnRuns f) where
  more_spaces : (text : List ℕ) → Spaces text → f (32 ∷ text) ≡ f text
  more_spaces text s =
      ap (λ l. f (32 ∷ l)) s.parts ∙ h.spaces (suc s.n) s.rest s.last ∙ sym (h.spaces s.n s.rest s.last) ∙ sym (ap f s.parts)

  more_dropped : (text : List ℕ) → Dropped text → f (13 ∷ text) ≡ f text
  more_dropped text r =
      ap (λ l. f (13 ∷ l)) r.parts ∙ h.returns (suc r.n) r.rest ∙ sym (h.returns r.n r.rest) ∙ sym (ap f r.parts)

  more_stays : (text : List ℕ) → Stays text → f (13 ∷ text) ≡ 13 ∷ f text
  more_stays text r =
      ap (λ l. f (13 ∷ l)) r.parts
      ∙ h.returns_stay (suc r.n) r.rest r.no_return r.no_feed
      ∙ ap (λ l. 13 ∷ l) (sym (h.returns_stay r.n r.rest r.no_return r.no_feed) ∙ sym (ap f r.parts))

pub only_repaired : (f : List ℕ → List ℕ) → OnRuns f → (text : List ℕ) → f text ≡ repaired text
only_repaired f h [] = h.nothing ∙ sym on_runs.nothing
only_repaired f h (b ∷ bs) = go (kind b) (only_repaired f h bs) (space_first bs) refl (feed_first bs) refl
  where
    go : {b : ℕ} → Kind b → f bs ≡ repaired bs → (s : Bool) → space_first bs ≡ s → (t : Bool) → feed_first bs ≡ t → f (b ∷ bs) ≡ repaired (b ∷ bs)
    go a_space e true k t l = more_spaces f h bs (spaces_of bs k) ∙ e ∙ sym (more_spaces repaired on_runs bs (spaces_of bs k))
    go a_space e false k t l = h.spaces 0 bs (ends bs k) ∙ ap (λ l. 9 ∷ l) e ∙ sym (on_runs.spaces 0 bs (ends bs k))
    go a_return e s k true l = more_dropped f h bs (dropped_of bs l) ∙ e ∙ sym (more_dropped repaired on_runs bs (dropped_of bs l))
    go a_return e s k false l = more_stays f h bs (stays_of bs l) ∙ ap (λ l. 13 ∷ l) e ∙ sym (more_stays repaired on_runs bs (stays_of bs l))
    go a_feed e s k t l = h.returns 0 bs ∙ ap (λ l. 10 ∷ l) e ∙ sym (on_runs.returns 0 bs)
    go {b} (other p q r) e s k t l = h.others b bs p q ∙ ap (λ l. b ∷ l) e ∙ sym (on_runs.others b bs p q)
