-- Which texts are altered, and that what is altered once is not altered again. Assumes nothing.
use Prim.Native.Nat.{ℕ}
use mathlib.Core.Path.{◌≡◌, refl, sym, ap, ◌∙◌}
use mathlib.Core.Bool.{Bool, true, false, not, ◌&&◌, ◌||◌}
use mathlib.Core.List.{List, [], ◌∷◌}
use borrow.Author.Tests.{eqb-true}
use lib.Dec.{eqb}
use Rattle.base.proofs.Choice.{never}
use Rattle.mail.specs.Mail.{space, carriage_return}
use Rattle.mail.specs.Bytewise.{space_first, feed_first, tabbed, bytewise, changed}
use Rattle.text.specs.Text.{same_bytes}
use Rattle.text.proofs.Equal.{same_equal, equal_same}
use Rattle.mail.proofs.Kind.{Kind, kind, a_space, a_return, a_feed, other}

-- whether a byte is altered: a space always, a carriage return where a line feed is behind its run
abbrev pub altered : ℕ → Bool → Bool
altered b feed_behind = eqb b space || (eqb b carriage_return && feed_behind)

-- whether a text holds a byte that is altered
abbrev pub alters : List ℕ → Bool
alters [] = false
alters (b ∷ bs) = altered b (feed_first bs) || alters bs

space_no_feed : (text : List ℕ) → space_first text ≡ true → feed_first text ≡ false
unfolding space_first feed_first
space_no_feed [] e = refl
space_no_feed (b ∷ bs) e = rw (eqb-true b space e)

-- line feeds, and carriage returns before them, stand where they stood
pub feed_bytewise : (text : List ℕ) → feed_first (bytewise text) ≡ feed_first text
unfolding bytewise feed_first tabbed
feed_bytewise [] = refl
feed_bytewise (b ∷ bs) = go (kind b) (feed_bytewise bs) (space_first bs) (feed_first bs) refl refl
  where
    go : {b : ℕ} → Kind b → feed_first (bytewise bs) ≡ feed_first bs → (s f : Bool) → space_first bs ≡ s → feed_first bs ≡ f
        → feed_first (bytewise (b ∷ bs)) ≡ feed_first (b ∷ bs)
    go a_space h true f e k = rw e (h ∙ space_no_feed bs e)
    go a_space h false f e k = rw e
    go a_return h s true e k = rw k (h ∙ k)
    go a_return h s false e k = rw k (h ∙ k)
    go a_feed h s f e k = refl
    go (other p q r) h s f e k = simp (p, q, r)

-- what is altered once is not altered again
pub alters_bytewise : (text : List ℕ) → alters (bytewise text) ≡ false
unfolding bytewise feed_first tabbed
alters_bytewise [] = refl
alters_bytewise (b ∷ bs) = go (kind b) (alters_bytewise bs) (space_first bs) (feed_first bs) refl refl
  where
    go : {b : ℕ} → Kind b → alters (bytewise bs) ≡ false → (s f : Bool) → space_first bs ≡ s → feed_first bs ≡ f → alters (bytewise (b ∷ bs)) ≡ false
    go a_space h true f e k = rw e h
    go a_space h false f e k = rw e h
    go a_return h s true e k = rw k h
    go a_return h s false e k = rw k (rw (feed_bytewise bs, k) h)
    go a_feed h s f e k = h
    go (other p q r) h s f e k = simp (p, q) h

-- a text without a byte to alter is copied
pub unaltered : (text : List ℕ) → alters text ≡ false → bytewise text ≡ text
unfolding bytewise tabbed
unaltered [] h = refl
unaltered (b ∷ bs) h = go (kind b) (unaltered bs) h (feed_first bs) refl
  where
    go : {b : ℕ} → Kind b → (alters bs ≡ false → bytewise bs ≡ bs) → alters (b ∷ bs) ≡ false → (f : Bool) → feed_first bs ≡ f → bytewise (b ∷ bs) ≡ b ∷ bs
    go a_space rest h f k = absurd (never refl h)
    go a_return rest h true k = absurd (never refl (rw k at h))
    go a_return rest h false k = rw k (ap (λ l. 13 ∷ l) (rest (rw k at h)))
    go a_feed rest h f k = ap (λ l. 10 ∷ l) (rest h)
    go {b} (other p q r) rest h f k = rw (p, q) (ap (λ l. b ∷ l) (rest (rw (p, q) at h)))

-- a text changes exactly if it holds a byte that is altered
pub changed_is : (text : List ℕ) → changed text ≡ alters text
unfolding changed
changed_is text = go (alters text) (same_bytes text (bytewise text)) refl refl
  where
    go : (a s : Bool) → alters text ≡ a → same_bytes text (bytewise text) ≡ s → not (same_bytes text (bytewise text)) ≡ alters text
    go true true h e = absurd (never h (ap alters (same_equal _ _ e) ∙ alters_bytewise text))
    go true false h e = rw (h, e)
    go false s h e = rw (h, unaltered text h, equal_same text text refl)

pub bytewise_twice : (text : List ℕ) → bytewise (bytewise text) ≡ bytewise text
bytewise_twice text = unaltered (bytewise text) (alters_bytewise text)

-- exactly if its bytes change
pub changes : (text : List ℕ) → (changed text ≡ true → bytewise text ≡ text → ⊥) × ((bytewise text ≡ text → ⊥) → changed text ≡ true)
changes text = (one, other_way (alters text) refl)
  where
    one : changed text ≡ true → bytewise text ≡ text → ⊥
    one h e = never (sym (changed_is text) ∙ h) (ap alters (sym e) ∙ alters_bytewise text)

    other_way : (a : Bool) → alters text ≡ a → (bytewise text ≡ text → ⊥) → changed text ≡ true
    other_way true h n = changed_is text ∙ h
    other_way false h n = absurd (n (unaltered text h))
