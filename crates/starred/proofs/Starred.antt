-- The starred figures, by one computed test. Assumes nothing.
use mathlib.Core.Path.{◌≡◌, refl}
use mathlib.Core.Bool.{Bool, true}
use mathlib.Core.List.{List, [], ◌∷◌}
use lib.Dec.{eqb, ltb}
use lib.ListN.{length}
use borrow.Author.Tests.{eqb-true, ltb-true}
use Rattle.base.specs.All.{all_pass}
use Rattle.base.proofs.Every.{both}
use Rattle.base.proofs.Least.{least_unique}
use Rattle.scaling.specs.Scaling.{scaled}
use Rattle.scaling.proofs.Scaled.{scaled_is}
use Rattle.deal.specs.Answers.{answer_number}
use Rattle.relief.proofs.Computed.{computed}
use Rattle.starred.specs.Figures.{Figure, is, scales, scales_above, Right, AllRight, starred}

abbrev agrees : Figure → Bool
agrees (is given said) = eqb given said
agrees (scales H n said) = eqb (scaled H n) said
agrees (scales_above H n said) = ltb said (scaled H n)

right : (f : Figure) → agrees f ≡ true → Right f
right (is given said) e = eqb-true given said e
right (scales H n said) e = rw (eqb-true (scaled H n) said e) at (scaled_is H n)
right (scales_above H n said) e = λ h s. rw (least_unique (scaled_is H n) s) at (ltb-true said (scaled H n) e)

all_right : (fs : List Figure) → all_pass fs agrees ≡ true → AllRight fs
all_right [] e = tt
all_right (f ∷ fs) e = let b = both (agrees f) (all_pass fs agrees) e in (right f b.0, all_right fs b.1)

-- EVERY STARRED FIGURE IS WHAT THE DEFINITIONS GIVE
pub starred_right : AllRight starred
unfolding computed answer_number
starred_right = all_right starred refl

-- none of them is left out
all_there : length starred ≡ 26
all_there = refl
