-- What is said of runs and of lines is what is found byte by byte. Assumes nothing.
use Rattle.std.proofs.Common.{if◌then◌else◌}
use Prim.Native.Nat.{ℕ, suc}
use mathlib.Core.Path.{◌≡◌, refl, sym, ap, ◌∙◌}
use mathlib.Core.Bool.{Bool, true, false, ◌&&◌, ◌||◌}
use mathlib.Core.List.{List, [], ◌∷◌, map}
use borrow.Author.Tests.{eqb-true, eq-eqb, ne_eqb}
use lib.Dec.{eqb}
use Rattle.base.proofs.Choice.{never}
use Rattle.text.specs.Text.{line_feed, lines_of, same_bytes}
use Rattle.mail.specs.Mail.{space, carriage_return, Run, in_front, runs_of, ends_at_feed, repaired_run, repaired_runs, repaired, differing, altered_lines}
use Rattle.mail.specs.Bytewise.{space_first, feed_first, left_out, tabbed, bytewise, changed, changed_from, numbers_of}
use Rattle.mail.proofs.Kind.{Kind, kind, a_space, a_return, a_feed, other}
use Rattle.mail.proofs.Lines.{lines_bytewise}

-- what a text starts with, told from its runs
abbrev space_run : List Run → Bool
space_run [] = false
space_run (run ∷ runs) = eqb run.byte space

abbrev feed_run : List Run → Bool
feed_run [] = false
feed_run (run ∷ runs) = eqb run.byte line_feed || (eqb run.byte carriage_return && ends_at_feed runs)

abbrev long : ℕ → ℕ → Run
long b n = record { byte = b; times = n }

other_way : (b c : ℕ) → eqb b c ≡ false → eqb c b ≡ false
other_way b c e = ne_eqb c b (λ h. never (eq-eqb b c (sym h)) e)

or_none : (t : Bool) → (t || false) ≡ t
or_none true = refl
or_none false = refl

-- a byte in front of a run of the same, and of another one
same_front : (b n : ℕ) (runs : List Run) → in_front b (long b n ∷ runs) ≡ long b (suc n) ∷ runs
unfolding in_front
same_front b n runs = rw (eq-eqb b b refl)

other_front : (b c n : ℕ) (runs : List Run) → eqb b c ≡ false → in_front b (long c n ∷ runs) ≡ long b 1 ∷ long c n ∷ runs
unfolding in_front
other_front b c n runs e = rw e

-- a proof about a byte in front of runs goes by these
front_cases : (P : ℕ → List Run → List Run → Type 0) (b : ℕ) → P b [] (long b 1 ∷ []) → ((n : ℕ) (runs : List Run) → P b (long b n ∷ runs) (long b (suc n) ∷ runs)) →
    ((c n : ℕ) (runs : List Run) → eqb b c ≡ false → P b (long c n ∷ runs) (long b 1 ∷ long c n ∷ runs)) → (runs : List Run) → P b runs (in_front b runs)
unfolding in_front
front_cases P b none same more [] = none
front_cases P b none same more (run ∷ runs) = go (eqb b run.byte) refl
  where
    go : (t : Bool) → eqb b run.byte ≡ t → P b (run ∷ runs) (in_front b (run ∷ runs))
    go true e =
        let k : run ≡ long b run.times = ap (λ c. long c run.times) (sym (eqb-true b run.byte e)) in
        rw (k, same_front b run.times runs) (same run.times runs)
    go false e = rw (other_front b run.byte run.times runs e) (more run.byte run.times runs e)

space_front : (b : ℕ) (runs : List Run) → space_run (in_front b runs) ≡ eqb b space
space_front b runs = front_cases (λ b runs more. space_run more ≡ eqb b space) b refl (λ n runs. refl) (λ c n runs e. refl) runs

feed_front : (b : ℕ) (runs : List Run) → feed_run (in_front b runs) ≡ (eqb b line_feed || (eqb b carriage_return && feed_run runs))
unfolding ends_at_feed
feed_front b runs =
    front_cases (λ b runs more. feed_run more ≡ (eqb b line_feed || (eqb b carriage_return && feed_run runs))) b refl (λ n runs. same (kind b) runs) (λ c n runs e. apart (kind b) c runs e) runs
  where
    same : {b : ℕ} → Kind b → (runs : List Run)
        → (eqb b line_feed || (eqb b carriage_return && ends_at_feed runs)) ≡ (eqb b line_feed || (eqb b carriage_return && (eqb b line_feed || (eqb b carriage_return && ends_at_feed runs))))
    same a_space runs = refl
    same a_return runs = refl
    same a_feed runs = refl
    same (other p q r) runs = rw (q, r)

    apart : {b : ℕ} → Kind b → (c : ℕ) (runs : List Run) → eqb b c ≡ false
        → (eqb b line_feed || (eqb b carriage_return && eqb c line_feed)) ≡ (eqb b line_feed || (eqb b carriage_return && (eqb c line_feed || (eqb c carriage_return && ends_at_feed runs))))
    apart a_space c runs e = refl
    apart a_return c runs e = rw (other_way carriage_return c e) (sym (or_none (eqb c line_feed)))
    apart a_feed c runs e = refl
    apart (other p q r) c runs e = rw (q, r)

-- a byte in front of runs
front_repaired : (b : ℕ) (runs : List Run) →
    repaired_runs (in_front b runs) ≡ (if left_out b (space_run runs) (feed_run runs) then repaired_runs runs else tabbed b ∷ repaired_runs runs)
unfolding repaired_runs repaired_run ends_at_feed tabbed
front_repaired b runs =
    front_cases
    (λ b runs more. repaired_runs more ≡ (if left_out b (space_run runs) (feed_run runs) then repaired_runs runs else tabbed b ∷ repaired_runs runs))
    b
    (alone (kind b))
    (λ n runs. same (kind b) n runs)
    (λ c n runs e. apart (kind b) c n runs e)
    runs
  where
    alone : {b : ℕ} → Kind b → repaired_runs (long b 1 ∷ []) ≡ (if left_out b false false then [] else tabbed b ∷ [])
    alone a_space = refl
    alone a_return = refl
    alone a_feed = refl
    alone (other p q r) = rw (p, q)

    same : {b : ℕ} → Kind b → (n : ℕ) (runs : List Run)
        → repaired_runs (long b (suc n) ∷ runs)
        ≡ (if left_out b (space_run (long b n ∷ runs)) (feed_run (long b n ∷ runs)) then repaired_runs (long b n ∷ runs) else tabbed b ∷ repaired_runs (long b n ∷ runs))
    same a_space n runs = refl
    same a_return n runs = ends (ends_at_feed runs) refl
      where
        ends : (t : Bool) → ends_at_feed runs ≡ t
            → repaired_runs (long 13 (suc n) ∷ runs)
            ≡ (if left_out 13 (space_run (long 13 n ∷ runs)) (feed_run (long 13 n ∷ runs)) then repaired_runs (long 13 n ∷ runs) else tabbed 13 ∷ repaired_runs (long 13 n ∷ runs))
        ends true e = rw e
        ends false e = rw e
    same a_feed n runs = refl
    same (other p q r) n runs = rw (p, q)

    apart : {b : ℕ} → Kind b → (c n : ℕ) (runs : List Run) → eqb b c ≡ false
        → repaired_runs (long b 1 ∷ long c n ∷ runs)
        ≡ (if left_out b (space_run (long c n ∷ runs)) (feed_run (long c n ∷ runs)) then repaired_runs (long c n ∷ runs) else tabbed b ∷ repaired_runs (long c n ∷ runs))
    apart a_space c n runs e = rw (other_way space c e)
    apart a_return c n runs e = ends (eqb c line_feed) refl
      where
        ends : (t : Bool) → eqb c line_feed ≡ t
            → repaired_runs (long 13 1 ∷ long c n ∷ runs)
            ≡ (if left_out 13 (space_run (long c n ∷ runs)) (feed_run (long c n ∷ runs)) then repaired_runs (long c n ∷ runs) else tabbed 13 ∷ repaired_runs (long c n ∷ runs))
        ends true k = rw k
        ends false k = rw (k, other_way carriage_return c e)
    apart a_feed c n runs e = refl
    apart (other p q r) c n runs e = rw (p, q)

-- the first byte tells what the first run tells
space_runs : (text : List ℕ) → space_run (runs_of text) ≡ space_first text
unfolding runs_of space_first
space_runs [] = refl
space_runs (b ∷ bs) = space_front b (runs_of bs)

feed_runs : (text : List ℕ) → feed_run (runs_of text) ≡ feed_first text
unfolding runs_of feed_first
feed_runs [] = refl
feed_runs (b ∷ bs) = feed_front b (runs_of bs) ∙ rw (feed_runs bs)

pub bytewise_is : (text : List ℕ) → repaired text ≡ bytewise text
unfolding repaired runs_of repaired_runs bytewise
bytewise_is [] = refl
bytewise_is (b ∷ bs) = front_repaired b (runs_of bs) ∙ rw (space_runs bs, feed_runs bs, bytewise_is bs)

-- the lines that differ are those that change
differing_changed : (n : ℕ) (lines : List (List ℕ)) → differing n lines (map bytewise lines) ≡ changed_from n lines
unfolding differing changed_from changed
differing_changed n [] = refl
differing_changed n (line ∷ lines) = go (same_bytes line (bytewise line)) refl (differing_changed (suc n) lines)
  where
    go : (t : Bool) → same_bytes line (bytewise line) ≡ t → differing (suc n) lines (map bytewise lines) ≡ changed_from (suc n) lines
        → differing n (line ∷ lines) (map bytewise (line ∷ lines)) ≡ changed_from n (line ∷ lines)
    go true e h = rw (e, h)
    go false e h = rw (e, h)

pub numbers_are : (text : List ℕ) → altered_lines text ≡ numbers_of 1 text
unfolding altered_lines
numbers_are text = rw (bytewise_is text, lines_bytewise text) (differing_changed 1 (lines_of text))
