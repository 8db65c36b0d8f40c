-- Bytes or numbers written into a lent list: a text into a buffer, figures into a list of results. 01: Answering a book
use Rattle.std.specs.Prelude.{ℕ, ◌+◌, ◌≡◌, List, ◌++◌, length, take, drop}

-- a buffer that has room, with a text from this place on: every byte before the text and behind it as it was
unfoldable pub placed_at : ℕ → List ℕ → List ℕ → List ℕ
placed_at at text before = take at before ++ text ++ drop (at + length text) before

-- the buffer after writing holds the text from this place on, and the answer is the place behind it
pub record Placed (at : ℕ) (text before after : List ℕ) (end : ℕ) : Type 0 where
  pub ends : end ≡ at + length text
  pub holds : after ≡ placed_at at text before

-- "written from the front and nothing behind them", in a list that has room
abbrev pub overwrite : List ℕ → List ℕ → List ℕ
overwrite written before = written ++ drop (length written) before
