-- Books that came by mail, as runs of bytes and as lines. 02: L14
use Rattle.std.specs.Prelude.{ℕ, suc, Bool, false, ◌&&◌, List, [], ◌∷◌, ◌++◌, eqb, replicate, if◌then◌else◌}
use Rattle.text.specs.Text.{tab, line_feed, lines_of, same_bytes}

-- byte " "
abbrev pub space : ℕ
space = 32

-- byte "\r"
abbrev pub carriage_return : ℕ
carriage_return = 13

-- RUNS

-- a run: a byte, and how many of it stand one behind the other
pub record Run : Type 0 where
  pub byte : ℕ
  pub times : ℕ

-- runs with one byte more in front: the first run is longer by it, or it is a run of its own
unfoldable pub in_front : ℕ → List Run → List Run
in_front b [] = record { byte = b; times = 1 } ∷ []
in_front b (run ∷ runs) =
    if eqb b run.byte then record { byte = b; times = suc run.times } ∷ runs else record { byte = b; times = 1 } ∷ run ∷ runs

-- the runs of a text: each as long as it can be, so the next one is of another byte
unfoldable pub runs_of : List ℕ → List Run
runs_of [] = []
runs_of (b ∷ bs) = in_front b (runs_of bs)

-- whether the run in front of these "ends at a line feed"; at the end of the text it does not
unfoldable pub ends_at_feed : List Run → Bool
ends_at_feed [] = false
ends_at_feed (run ∷ runs) = eqb run.byte line_feed

-- what becomes of a run, with those behind it: "turns each run of spaces into one tab, drops every carriage return of a run that ends at a
-- line feed"; any other stays as it is
unfoldable pub repaired_run : Run → List Run → List ℕ
repaired_run run behind =
    if eqb run.byte space then tab ∷ []
    else (if eqb run.byte carriage_return && ends_at_feed behind then [] else replicate run.times run.byte)

-- one behind the other
unfoldable pub repaired_runs : List Run → List ℕ
repaired_runs [] = []
repaired_runs (run ∷ runs) = repaired_run run runs ++ repaired_runs runs

-- the book as it is written to the second buffer
unfoldable pub repaired : List ℕ → List ℕ
repaired text = repaired_runs (runs_of text)

-- LINES

-- the numbers of the lines whose bytes differ afterwards, where the first one has this number
unfoldable pub differing : ℕ → List (List ℕ) → List (List ℕ) → List ℕ
differing n [] afterwards = []
differing n (line ∷ lines) [] = []
differing n (line ∷ lines) (after ∷ afterwards) =
    if same_bytes line after then differing (suc n) lines afterwards else n ∷ differing (suc n) lines afterwards

-- "the numbers of the lines it altered, rising, each once". Lines are those of a book, the last one without a line feed too, and the first
-- is line 1; there are as many afterwards (`lines_kept`)
unfoldable pub altered_lines : List ℕ → List ℕ
altered_lines text = differing 1 (lines_of text) (lines_of (repaired text))
