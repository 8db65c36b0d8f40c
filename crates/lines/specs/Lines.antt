-- What a line says, by the edition that the heading says. 01: The book; the fields in the order of What a deal holds; 02: L1, L5, L9
use Rattle.std.specs.Prelude.{ℕ, ◌-◌, List, [], ◌∷◌, Option, Some, None, eqb, if◌then◌else◌}
use Rattle.text.specs.Bytes.{byte}
use Rattle.deal.specs.Fields.{collateral_in, collateral_width, guarantee_sent, sent_guarantee_width, sent_swap_width, swap_sent, terms_under, terms_width}
use Rattle.lines.specs.Fields.{fields_of}
use Rattle.lines.specs.Sovereign.{width_under, with_sovereign}
use Rattle.lines.specs.declared.line.Line.{Line}
use Rattle.lines.specs.declared.line.Line.TheVariants.{DealLine, CollateralLine, GuaranteeLine, Malformed}

-- a line D has all numbers of the terms but the edition
abbrev pub deal_width : ℕ
deal_width = terms_width - 1

-- what the fields say behind each letter
unfoldable pub deal_line : ℕ → List ℕ → Line
deal_line edition fields = DealLine (terms_under edition (with_sovereign edition fields))

unfoldable pub collateral_line : List ℕ → Line
collateral_line fields = CollateralLine (collateral_in fields)

unfoldable pub guarantee_line : ℕ → List ℕ → Line
guarantee_line edition fields = GuaranteeLine (guarantee_sent (with_sovereign edition fields))

-- "Take them as a line S, laid out as G with one more condition at the end": an item of the same list (02: L1)
unfoldable pub swap_line : ℕ → List ℕ → Line
swap_line edition fields = GuaranteeLine (swap_sent (with_sovereign edition fields))

-- what a line says, if its fields could be read
unfoldable pub if_read : (List ℕ → Line) → Option (List ℕ) → Line
if_read said None = Malformed
if_read said (Some fields) = said fields

-- "lines D, C, G, each its letter and the fields in the order above (11, 12 and 10 fields with the letter)", and S (11); D, G and S with one more
-- where they have the sovereign's step; the widths here leave the letter out. Malformed: "unknown letter, wrong number of fields, bad number, or no line feed"
unfoldable pub line_of : ℕ → List ℕ → Line
line_of edition [] = Malformed
line_of edition (letter ∷ rest) =
    if eqb letter (byte "D") then if_read (deal_line edition) (fields_of (width_under edition deal_width) rest) else
    if eqb letter (byte "C") then if_read collateral_line (fields_of collateral_width rest) else
    if eqb letter (byte "G") then if_read (guarantee_line edition) (fields_of (width_under edition sent_guarantee_width) rest) else
    if eqb letter (byte "S") then if_read (swap_line edition) (fields_of (width_under edition sent_swap_width) rest) else
    Malformed
