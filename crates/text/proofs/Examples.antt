-- Lines of small texts, found by the definitions themselves. Assumes nothing.
use mathlib.Core.Path.{◌≡◌, refl}
use mathlib.Core.Bool.{true}
use mathlib.Core.List.{[], ◌∷◌}
use lib.Dec.{eqb}
use lib.ListN.{length}
use Rattle.text.specs.Bytes.{byte, bytes}
use Rattle.text.specs.Text.{line_feed, extend_first, lines_of}
use Rattle.text.proofs.Bytes.{only}

-- a carriage return is no end; an empty line is one; behind the last line feed there is none
small_text : lines_of (bytes "a\r\n\nb\n") ≡ bytes "a\r\n" ∷ bytes "\n" ∷ bytes "b\n" ∷ []
unfolding extend_first lines_of
small_text = refl

unended_text : lines_of (bytes "a\nb") ≡ bytes "a\n" ∷ bytes "b" ∷ []
unfolding extend_first lines_of
unended_text = refl

-- no other byte ends a line
feed_only : only line_feed (λ b. eqb (length (lines_of (byte "a" ∷ b ∷ byte "b" ∷ []))) 2) ≡ true
unfolding extend_first lines_of
feed_only = refl
