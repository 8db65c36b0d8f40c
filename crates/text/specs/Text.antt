-- A book's bytes and the lines they make. 01: The book
use Rattle.std.specs.Prelude.{ℕ, Bool, true, false, ◌&&◌, List, [], ◌∷◌, eqb, if◌then◌else◌}

-- byte "\t"
abbrev pub tab : ℕ
tab = 9

-- byte "\n"
abbrev pub line_feed : ℕ
line_feed = 10

-- the longest book, in bytes. 01: Answering a book, "10 longer than 65,536 bytes"
abbrev pub book_limit : ℕ
book_limit = 65536

-- whether a text, the second one, starts with the first
unfoldable pub starts_with : List ℕ → List ℕ → Bool
starts_with [] text = true
starts_with (p ∷ ps) [] = false
starts_with (p ∷ ps) (b ∷ bs) = eqb b p && starts_with ps bs

-- whether two texts are the same: byte for byte, and neither longer than the other
unfoldable pub same_bytes : List ℕ → List ℕ → Bool
same_bytes [] [] = true
same_bytes [] (b ∷ bs) = false
same_bytes (x ∷ xs) [] = false
same_bytes (x ∷ xs) (b ∷ bs) = eqb x b && same_bytes xs bs

-- lines, with one byte more in front of the first; a line of its own where there is none
unfoldable pub extend_first : ℕ → List (List ℕ) → List (List ℕ)
extend_first b [] = (b ∷ []) ∷ []
extend_first b (line ∷ lines) = (b ∷ line) ∷ lines

-- "Lines end in a line feed". Each line has its line feed as its last byte; only the last line of a text may be without one, and behind
-- a last line feed there is no line
unfoldable pub lines_of : List ℕ → List (List ℕ)
lines_of [] = []
lines_of (b ∷ bs) = if eqb b line_feed then (b ∷ []) ∷ lines_of bs else extend_first b (lines_of bs)

-- the first of them, empty where there is none
unfoldable pub first_line : List ℕ → List ℕ
first_line [] = []
first_line (b ∷ bs) = if eqb b line_feed then b ∷ [] else b ∷ first_line bs
