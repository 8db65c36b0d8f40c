-- The lines of a repaired text are the repaired lines. Assumes nothing.
use Rattle.std.proofs.Common.{if◌then◌else◌}
use Prim.Native.Nat.{ℕ}
use mathlib.Core.Path.{◌≡◌, refl, sym, ap, ◌∙◌}
use mathlib.Core.Bool.{Bool, true, false, ◌&&◌, ◌||◌}
use mathlib.Core.List.{List, [], ◌∷◌, map}
use borrow.Author.Tests.{eqb-true}
use lib.Dec.{eqb}
use lib.ListN.{length, drop}
use Rattle.base.proofs.Choice.{if_false}
use Rattle.text.specs.Text.{line_feed, first_line, extend_first, lines_of}
use Rattle.text.proofs.Lines.{lines_first, lines_unfed, no_lines}
use Rattle.mail.specs.Mail.{space, carriage_return}
use Rattle.mail.specs.Bytewise.{space_first, feed_first, left_out, tabbed, bytewise}
use Rattle.mail.proofs.Numbers.{feed_line}

space_line : (text : List ℕ) → space_first (first_line text) ≡ space_first text
unfolding first_line space_first
space_line [] = refl
space_line (b ∷ bs) = go (eqb b line_feed) refl
  where
    go : (t : Bool) → eqb b line_feed ≡ t → space_first (first_line (b ∷ bs)) ≡ space_first (b ∷ bs)
    go true e = rw e
    go false e = rw e

tabbed_unfed : (b : ℕ) → eqb b line_feed ≡ false → eqb (tabbed b) line_feed ≡ false
unfolding tabbed
tabbed_unfed b e = go (eqb b space) refl
  where
    go : (t : Bool) → eqb b space ≡ t → eqb (tabbed b) line_feed ≡ false
    go true h = rw h
    go false h = rw h e

more_lines : (t : Bool) (x : ℕ) (text line : List ℕ) (lines : List (List ℕ)) → eqb x line_feed ≡ false → lines_of text ≡ line ∷ lines →
    lines_of (if t then text else x ∷ text) ≡ (if t then line else x ∷ line) ∷ lines
unfolding extend_first
more_lines true x text line lines e h = h
more_lines false x text line lines e h = lines_unfed x text e ∙ rw h

abbrev Kept : List ℕ → Type 0
Kept text = lines_of (bytewise text) ≡ map bytewise (lines_of text)

fed_kept : (bs : List ℕ) → Kept bs → Kept (10 ∷ bs)
unfolding lines_of bytewise tabbed
fed_kept bs h = rw h

none_out : (x y : Bool) → ((x && false) || (y && false)) ≡ false
none_out true true = refl
none_out true false = refl
none_out false true = refl
none_out false false = refl

bytewise_alone : (b : ℕ) → bytewise (b ∷ []) ≡ tabbed b ∷ []
unfolding bytewise space_first feed_first
bytewise_alone b = if_false _ _ _ (none_out (eqb b space) (eqb b carriage_return))

alone_kept : (b : ℕ) → eqb b line_feed ≡ false → Kept (b ∷ [])
unfolding extend_first
alone_kept b e = rw (bytewise_alone b, lines_unfed (tabbed b) [] (tabbed_unfed b e), lines_unfed b [] e, no_lines, bytewise_alone b)

pub bytewise_cons : (b : ℕ) (bs : List ℕ) → bytewise (b ∷ bs) ≡ (if left_out b (space_first bs) (feed_first bs) then bytewise bs else tabbed b ∷ bytewise bs)
unfolding bytewise
bytewise_cons b bs = refl

bytewise_line : (b : ℕ) (bs : List ℕ) →
    bytewise (b ∷ first_line bs) ≡ (if left_out b (space_first bs) (feed_first bs) then bytewise (first_line bs) else tabbed b ∷ bytewise (first_line bs))
bytewise_line b bs = bytewise_cons b (first_line bs) ∙ rw (space_line bs, feed_line bs)

unfed_kept : (b c : ℕ) (cs : List ℕ) → eqb b line_feed ≡ false → Kept (c ∷ cs) → Kept (b ∷ c ∷ cs)
unfolding extend_first
unfed_kept b c cs e h =
    let text : List ℕ = c ∷ cs in
    let rest : List (List ℕ) = lines_of (drop (length (first_line text)) text) in
    let k : lines_of (bytewise text) ≡ bytewise (first_line text) ∷ map bytewise rest = h ∙ ap (map bytewise) (lines_first c cs) in
    let l : lines_of (b ∷ text) ≡ (b ∷ first_line text) ∷ rest = lines_unfed b text e ∙ ap (extend_first b) (lines_first c cs) in
    ap lines_of (bytewise_cons b text)
    ∙ more_lines (left_out b (space_first text) (feed_first text)) (tabbed b) (bytewise text) (bytewise (first_line text)) (map bytewise rest) (tabbed_unfed b e) k
    ∙ ap (λ line. line ∷ map bytewise rest) (sym (bytewise_line b text))
    ∙ sym (ap (map bytewise) l)

nothing_kept : Kept []
unfolding lines_of bytewise
nothing_kept = refl

pub lines_bytewise : (text : List ℕ) → Kept text
lines_bytewise [] = nothing_kept
lines_bytewise (b ∷ bs) = go bs (lines_bytewise bs) (eqb b line_feed) refl
  where
    go : (bs : List ℕ) → Kept bs → (t : Bool) → eqb b line_feed ≡ t → Kept (b ∷ bs)
    go bs h true e = rw (eqb-true b line_feed e) (fed_kept bs h)
    go [] h false e = alone_kept b e
    go (c ∷ cs) h false e = unfed_kept b c cs e h
