-- The text of a list of numbers, one a line, as `crmrepair` writes it for those of altered lines (02: L14). That they are written as text is no
-- rule of the paper.
use Rattle.std.specs.Prelude.{ℕ, zero, suc, ◌+◌, ◌*◌, Bool, ◌&&◌, List, [], ◌∷◌, ◌++◌, eqb, leb, length, drop, get_or, if◌then◌else◌}
use Rattle.text.specs.Text.{line_feed}
use Rattle.result.specs.Numbers.{number_text}
use Rattle.result.specs.Result.{refused_text}

-- a line for each of so many numbers of the list, which has to have them (`list_fits`)
unfoldable pub number_lines : ℕ → List ℕ → List ℕ
number_lines zero numbers = []
number_lines (suc k) numbers = number_text (get_or numbers 0 0) ++ line_feed ∷ [] ++ number_lines k (drop 1 numbers)

-- with refusal 0 a line for each number, otherwise only REFUSED and the refusal's number
unfoldable pub list_text : ℕ → ℕ → List ℕ → List ℕ
list_text refusal count numbers = if eqb refusal 0 then number_lines count numbers else refused_text refusal

-- room for the text of so many numbers, whatever they are: 20 digits and a line feed each, and 29 bytes for a refusal
abbrev pub list_room : ℕ → ℕ
list_room count = 29 + 21 * count

-- whether a buffer of so many bytes has that room, and a list of so many places has a number for each line
unfoldable pub list_fits : ℕ → ℕ → ℕ → Bool
list_fits count places space = leb (list_room count) space && leb count places

-- what is written into a buffer of so many bytes. That nothing is, where the buffer or the list is too short, is no rule of the paper;
-- the program lends enough of both
unfoldable pub list_written : ℕ → ℕ → List ℕ → ℕ → List ℕ
list_written refusal count numbers space = if list_fits count (length numbers) space then list_text refusal count numbers else []
