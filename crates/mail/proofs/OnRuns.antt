-- What is said of runs holds, and determines what is repaired. Assumes nothing.
use Prim.Native.Nat.{ℕ, zero, suc}
use mathlib.Core.Path.{◌≡◌, refl, ap, ◌∙◌}
use mathlib.Core.Bool.{false}
use mathlib.Core.List.{List, [], ◌∷◌, ◌++◌}
use lib.Dec.{eqb}
use lib.ListN.{replicate}
use Rattle.text.specs.Text.{line_feed, tab}
use Rattle.mail.specs.Mail.{space, carriage_return, repaired}
use Rattle.mail.specs.Bytewise.{space_first, feed_first, tabbed, bytewise}
use Rattle.mail.specs.Mailed.{Mailed, nothing, tabbing, feeding, leaving}
use Rattle.mail.specs.OnRuns.{NotFirst, OnRuns}
use Rattle.mail.proofs.Over.{fed_bytes}
use Rattle.mail.proofs.Runs.{bytewise_is}

no_space : (rest : List ℕ) → NotFirst 32 rest → space_first rest ≡ false
unfolding space_first
no_space [] e = refl
no_space (b ∷ bs) e = e

no_feed : (rest : List ℕ) → NotFirst 13 rest → NotFirst 10 rest → feed_first rest ≡ false
unfolding feed_first
no_feed [] c f = refl
no_feed (b ∷ bs) c f = rw (c, f)

-- byte by byte
spaces_run : (n : ℕ) (rest : List ℕ) → space_first rest ≡ false → bytewise (replicate (suc n) space ++ rest) ≡ tab ∷ bytewise rest
unfolding bytewise tabbed space_first
spaces_run zero rest e = rw e
spaces_run (suc n) rest e = spaces_run n rest e

still_no_feed : (n : ℕ) (rest : List ℕ) → feed_first rest ≡ false → feed_first (replicate n carriage_return ++ rest) ≡ false
unfolding feed_first
still_no_feed zero rest e = e
still_no_feed (suc n) rest e = still_no_feed n rest e

returns_stay : (n : ℕ) (rest : List ℕ) → feed_first rest ≡ false → bytewise (replicate n carriage_return ++ rest) ≡ replicate n carriage_return ++ bytewise rest
unfolding bytewise tabbed
returns_stay zero rest e = refl
returns_stay (suc n) rest e = rw (still_no_feed n rest e) (ap (λ l. carriage_return ∷ l) (returns_stay n rest e))

other_stays : (b : ℕ) (rest : List ℕ) → eqb b space ≡ false → eqb b carriage_return ≡ false → bytewise (b ∷ rest) ≡ b ∷ bytewise rest
unfolding bytewise tabbed
other_stays b rest p q = simp (p, q)

nothing_bytewise : bytewise [] ≡ []
unfolding bytewise
nothing_bytewise = refl

-- and so of runs
pub on_runs : OnRuns repaired
on_runs =
    record {
      nothing = bytewise_is [] ∙ nothing_bytewise;
      spaces = λ n rest e. rw (bytewise_is (replicate (suc n) space ++ rest), bytewise_is rest) (spaces_run n rest (no_space rest e));
      returns = λ n rest. rw (bytewise_is (replicate n carriage_return ++ line_feed ∷ rest), bytewise_is rest) (fed_bytes n rest);
      returns_stay = λ n rest c f. rw (bytewise_is (replicate n carriage_return ++ rest), bytewise_is rest) (returns_stay n rest (no_feed rest c f));
      others = λ b rest p q. rw (bytewise_is (b ∷ rest), bytewise_is rest) (other_stays b rest p q);
    }

-- what a mail program did is undone
pub mailed_back : {sent came : List ℕ} → Mailed sent came → repaired came ≡ sent
mailed_back nothing = on_runs.nothing
mailed_back (tabbing n e m) = on_runs.spaces n _ e ∙ ap (λ l. 9 ∷ l) (mailed_back m)
mailed_back (feeding n m) = on_runs.returns n _ ∙ ap (λ l. 10 ∷ l) (mailed_back m)
mailed_back (leaving b p q m) = on_runs.others b _ p q ∙ ap (λ l. b ∷ l) (mailed_back m)
