-- What a repair keeps: line feeds and lines. 02: L14. Assumes nothing.
use Rattle.std.proofs.Common.{if◌then◌else◌}
use Prim.Native.Nat.{ℕ, suc, ◌≤◌}
use mathlib.Core.Path.{◌≡◌, refl, ap, ◌∙◌}
use mathlib.Core.Bool.{Bool, true, false}
use mathlib.Core.List.{List, [], ◌∷◌, map}
use native.Mathlib.Omega.{arith}
use lib.Dec.{eqb}
use lib.ListN.{length, length-map}
use Rattle.text.specs.Text.{extend_first, line_feed, lines_of}
use Rattle.mail.specs.Mail.{altered_lines, repaired}
use Rattle.mail.specs.Bytewise.{space_first, feed_first, left_out, tabbed, bytewise, changed, changed_from}
use Rattle.mail.specs.Feeds.{feeds}
use Rattle.mail.proofs.Kind.{Kind, kind, a_space, a_return, a_feed, other}
use Rattle.mail.proofs.Lines.{lines_bytewise}
use Rattle.mail.proofs.Runs.{bytewise_is, numbers_are}

feeds_bytewise : (text : List ℕ) → feeds (bytewise text) ≡ feeds text
unfolding feeds bytewise tabbed
feeds_bytewise [] = refl
feeds_bytewise (b ∷ bs) = go (kind b) (feeds_bytewise bs) (space_first bs) (feed_first bs) refl refl
  where
    go : {b : ℕ} → Kind b → feeds (bytewise bs) ≡ feeds bs → (s f : Bool) → space_first bs ≡ s → feed_first bs ≡ f → feeds (bytewise (b ∷ bs)) ≡ feeds (b ∷ bs)
    go a_space h true f e k = rw e h
    go a_space h false f e k = rw e h
    go a_return h s true e k = rw k h
    go a_return h s false e k = rw k h
    go a_feed h s f e k = ap suc h
    go (other p q r) h s f e k = simp (p, q, r) h

-- line feeds are neither made nor lost
pub feeds_kept : (text : List ℕ) → feeds (repaired text) ≡ feeds text
feeds_kept text = rw (bytewise_is text) (feeds_bytewise text)

-- the lines are repaired one by one, so there are as many
pub lines_repaired : (text : List ℕ) → lines_of (repaired text) ≡ map repaired (lines_of text)
lines_repaired text = rw (bytewise_is text) (lines_bytewise text ∙ each (lines_of text))
  where
    each : (lines : List (List ℕ)) → map bytewise lines ≡ map repaired lines
    each [] = refl
    each (line ∷ lines) = rw (bytewise_is line, each lines)

pub lines_kept : (text : List ℕ) → length (lines_of (repaired text)) ≡ length (lines_of text)
lines_kept text = rw (lines_repaired text, length-map)

-- what a repair gives is no longer than what it got

one_more : (t : Bool) (x : ℕ) (xs : List ℕ) (n : ℕ) → length xs ≤ n → length (if t then xs else x ∷ xs) ≤ suc n
one_more true x xs n h = omega arith
one_more false x xs n h = omega arith

shorter : (text : List ℕ) → length (bytewise text) ≤ length text
unfolding bytewise
shorter [] = omega arith
shorter (b ∷ bs) = one_more (left_out b (space_first bs) (feed_first bs)) (tabbed b) (bytewise bs) (length bs) (shorter bs)

pub no_longer : (text : List ℕ) → length (repaired text) ≤ length text
no_longer text = rw (bytewise_is text) (shorter text)

-- no more lines are altered than there are, and there are no more than bytes

changed_few : (n : ℕ) (lines : List (List ℕ)) → length (changed_from n lines) ≤ length lines
unfolding changed_from
changed_few n [] = omega arith
changed_few n (line ∷ lines) = go (changed line) refl (changed_few (suc n) lines)
  where
    go : (t : Bool) → changed line ≡ t → length (changed_from (suc n) lines) ≤ length lines → length (changed_from n (line ∷ lines)) ≤ suc (length lines)
    go true e h = rw e (omega (arith, h))
    go false e h = rw e (omega (arith, h))

pub no_more_lines : (text : List ℕ) → length (altered_lines text) ≤ length (lines_of text)
no_more_lines text = rw (numbers_are text) (changed_few 1 (lines_of text))

extended : (b : ℕ) (lines : List (List ℕ)) → length (extend_first b lines) ≤ suc (length lines)
unfolding extend_first
extended b [] = omega arith
extended b (line ∷ lines) = omega arith

pub few_lines : (text : List ℕ) → length (lines_of text) ≤ length text
unfolding lines_of
few_lines [] = omega arith
few_lines (b ∷ bs) = go (eqb b line_feed) refl (few_lines bs)
  where
    go : (t : Bool) → eqb b line_feed ≡ t → length (lines_of bs) ≤ length bs → length (lines_of (b ∷ bs)) ≤ suc (length bs)
    go true e h = rw e (omega (arith, h))
    go false e h = rw e (omega (arith, h, extended b (lines_of bs)))
