-- What the first line of a book says. 01: The book; Answering a book; 02: L5, L9
use Rattle.std.specs.Prelude.{ℕ, Bool, true, false, List, if◌then◌else◌, Option, Some, None}
use Rattle.text.specs.Bytes.{bytes}
use Rattle.text.specs.Text.{same_bytes}

-- "The first line is the five bytes C, R, M, tab, 1 and its line feed"
abbrev pub first_header : List ℕ
first_header = bytes "CRM\t1\n"

-- "The header's second field becomes 2"
abbrev pub second_header : List ℕ
second_header = bytes "CRM\t2\n"

-- "A header second field of 3"
abbrev pub third_header : List ℕ
third_header = bytes "CRM\t3\n"

-- the edition that it says, none where it is wrong
unfoldable pub heading_of : List ℕ → Option ℕ
heading_of line =
    if same_bytes line first_header then Some 1 else
    if same_bytes line second_header then Some 2 else
    if same_bytes line third_header then Some 3 else
    None

-- "9 first line wrong"
abbrev pub is_wrong : Option ℕ → Bool
is_wrong (Some number) = false
is_wrong None = true

-- the edition that it says, and 0 where it is wrong
abbrev pub edition_of : Option ℕ → ℕ
edition_of (Some number) = number
edition_of None = 0
