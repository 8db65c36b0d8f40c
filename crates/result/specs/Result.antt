-- The text of a book's result. 01: The book
use Rattle.std.specs.Prelude.{ℕ, zero, suc, ◌+◌, ◌*◌, Bool, ◌&&◌, List, [], ◌∷◌, ◌++◌, eqb, leb, length, drop, get_or, if◌then◌else◌}
use Rattle.text.specs.Bytes.{bytes}
use Rattle.text.specs.Text.{tab, line_feed}
use Rattle.result.specs.Numbers.{number_text}

-- a deal's line: its four numbers, parted by one tab; every line ends in a line feed
unfoldable pub row : ℕ → ℕ → ℕ → ℕ → List ℕ
row a b c d = number_text a ++ tab ∷ number_text b ++ tab ∷ number_text c ++ tab ∷ number_text d ++ line_feed ∷ []

-- a line for each of so many deals; each takes the next four numbers of the list, which has to have them (`fits`)
unfoldable pub rows : ℕ → List ℕ → List ℕ
rows zero results = []
rows (suc k) results = row (get_or results 0 0) (get_or results 1 0) (get_or results 2 0) (get_or results 3 0) ++ rows k (drop 4 results)

-- "`RESULT`, tab, `1`", under every header of a book; every line ends in a line feed
abbrev pub heading : List ℕ
heading = bytes "RESULT\t1\n"

-- "or only `REFUSED`, tab, number"
abbrev pub refused_heading : List ℕ
refused_heading = bytes "REFUSED\t"

-- the text of a refusal
abbrev pub refused_text : ℕ → List ℕ
refused_text refusal = refused_heading ++ number_text refusal ++ line_feed ∷ []

-- with refusal 0 the heading and a line for each deal, otherwise only REFUSED and the refusal's number
unfoldable pub result_text : ℕ → ℕ → List ℕ → List ℕ
result_text refusal deals results =
    if eqb refusal 0 then heading ++ rows deals results else refused_text refusal

-- room for the text of so many deals, whatever their numbers: four of 20 digits each, with a byte behind each, and 29 bytes for a heading
-- or a refusal
abbrev pub room : ℕ → ℕ
room deals = 29 + 84 * deals

-- whether a buffer of so many bytes has that room, and a list of so many numbers has four for each deal
unfoldable pub fits : ℕ → ℕ → ℕ → Bool
fits deals numbers space = leb (room deals) space && leb (4 * deals) numbers

-- what is written into a buffer of so many bytes. That nothing is, where the buffer or the list is too short, is no rule of the paper;
-- `crmbook` lends enough of both (`printed`)
unfoldable pub written : ℕ → ℕ → List ℕ → ℕ → List ℕ
written refusal deals results space = if fits deals (length results) space then result_text refusal deals results else []
