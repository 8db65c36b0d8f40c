-- Bytes among which none is a line feed.
use Rattle.std.specs.Prelude.{ℕ, zero, suc, ◌+◌, Bool, true, not, ◌&&◌, List, eqb, get_or}
use Rattle.text.specs.Text.{line_feed}

-- whether so many bytes from a place on are no line feeds, where the text has so many
unfoldable pub no_feeds : ℕ → List ℕ → ℕ → Bool
no_feeds zero text at = true
no_feeds (suc n) text at = no_feeds n text at && not (eqb (get_or text (at + n) 0) line_feed)
