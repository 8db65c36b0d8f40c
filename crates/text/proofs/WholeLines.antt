-- What the lines of a text are: each ends in a line feed, the last one perhaps without. Assumes nothing.
use Prim.Native.Nat.{ℕ}
use mathlib.Core.Path.{◌≡◌, refl, ap, ◌∙◌}
use mathlib.Core.Bool.{Bool, true, not}
use mathlib.Core.List.{List, [], ◌∷◌, ◌++◌}
use lib.Dec.{eqb}
use Rattle.base.specs.All.{all_pass}
use Rattle.base.proofs.Every.{both}
use Rattle.base.proofs.Tests.{told_not_false}
use Rattle.text.specs.Text.{extend_first, line_feed, lines_of}
use Rattle.text.proofs.Lines.{lines_fed, lines_unfed, no_lines}

-- no line feed stands in it
abbrev pub unfed : List ℕ → Bool
unfed line = all_pass line (λ b. not (eqb b line_feed))

pub fed_line : (line rest : List ℕ) → unfed line ≡ true → lines_of (line ++ line_feed ∷ rest) ≡ (line ++ line_feed ∷ []) ∷ lines_of rest
unfolding extend_first
fed_line [] rest h = lines_fed line_feed rest refl
fed_line (b ∷ bs) rest h =
    let k = both (not (eqb b line_feed)) (unfed bs) h in
    lines_unfed b (bs ++ line_feed ∷ rest) (told_not_false (eqb b line_feed) _ refl k.0) ∙ ap (extend_first b) (fed_line bs rest k.1)

pub last_line : (b : ℕ) (bs : List ℕ) → unfed (b ∷ bs) ≡ true → lines_of (b ∷ bs) ≡ (b ∷ bs) ∷ []
unfolding extend_first
last_line b [] h =
    lines_unfed b [] (told_not_false (eqb b line_feed) _ refl (both (not (eqb b line_feed)) (unfed []) h).0) ∙ ap (extend_first b) no_lines
last_line b (c ∷ cs) h =
    let k = both (not (eqb b line_feed)) (unfed (c ∷ cs)) h in
    lines_unfed b (c ∷ cs) (told_not_false (eqb b line_feed) _ refl k.0) ∙ ap (extend_first b) (last_line c cs k.1)
