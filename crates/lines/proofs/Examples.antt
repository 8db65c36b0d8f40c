-- Numbers and lines of 01, The book, read by the definitions themselves. Assumes nothing.
use Prim.Native.Nat.{ℕ}
use mathlib.Core.Path.{◌≡◌, refl}
use mathlib.Core.Bool.{Bool, beq, true, false, not, ◌||◌}
use mathlib.Core.List.{List, [], ◌∷◌, ◌++◌, map}
use lib.Dec.{eqb}
use lib.ListN.{replicate}
use Rattle.base.specs.Range.{within}
use Rattle.deal.specs.Fields.{collateral_in, guarantee_in, terms_in}
use Rattle.base.proofs.Every.{every}
use Rattle.text.specs.Bytes.{byte, bytes}
use Rattle.text.specs.Text.{tab, line_feed}
use Rattle.text.proofs.Bytes.{only}
use Rattle.text.specs.Decimal.{decimal_from}
use Rattle.lines.specs.Numbers.{digits_of, number_allowed, number_read, number_of}
use Rattle.lines.specs.Fields.{field_of, is_end, and_then, with_number, fields_of}
use Rattle.lines.specs.Sovereign.{width_under, with_sovereign}
use Rattle.lines.specs.Lines.{deal_line, collateral_line, guarantee_line, swap_line, if_read, line_of}
use Rattle.lines.specs.declared.number.Number.{Number}
use Rattle.std.specs.Prelude.{Option, Some, None}
use Rattle.lines.specs.declared.line.Line.{Line}
use Rattle.lines.specs.declared.line.Line.TheVariants.{DealLine, CollateralLine, GuaranteeLine, Malformed}

-- "A number has 1 to 13 digits and no leading zero, save 0 itself"
abbrev numbers : List (Option Number)
numbers =
    map number_of (
    bytes "0"
    ∷ bytes "7"
    ∷ bytes "9999999999999"
    ∷ bytes "12\t"
    ∷ bytes "12\n"
    ∷ bytes "10000000000000"
    ∷ bytes "01"
    ∷ bytes "00"
    ∷ bytes ""
    ∷ bytes "-1"
    ∷ bytes "+1"
    ∷ []
    )

abbrev said_as : ℕ → ℕ → Option Number
said_as value digits = Some (record { value = value; digits = digits })

numbers_read : numbers ≡ said_as 0 1 ∷ said_as 7 1 ∷ said_as 9999999999999 13 ∷ said_as 12 2 ∷ said_as 12 2 ∷ replicate 6 None
unfolding number_of number_read number_allowed digits_of decimal_from within
numbers_read = refl

-- the first three lines of the example of 01
abbrev said : List Line
said =
    DealLine (terms_in (1000000 ∷ 3 ∷ 0 ∷ 0 ∷ 978 ∷ 3 ∷ 1 ∷ 1800 ∷ 1 ∷ 0 ∷ 0 ∷ 1 ∷ []))
    ∷ CollateralLine (record {
      amount = 400000;
      asset = record { goods = 2; step = 1; life = 720 };
      currency = 978;
      residual = 1800;
      original = 1800;
      lawful = 1;
      unrelated = 1;
      not_in_rating = 1;
      listed = 0;
    })
    ∷ GuaranteeLine (record {
      amount = 200000;
      provider = record { class = 1; step = 1; sovereign_step = 0 };
      currency = 978;
      residual = 1800;
      original = 1800;
      lawful = 1;
      direct = 1;
      not_in_rating = 1;
      instrument = 0;
    })
    ∷ []

lines_read :
    map (line_of 1) (
    bytes "D\t1000000\t3\t0\t978\t3\t1\t1800\t1\t0\t0\n"
    ∷ bytes "C\t400000\t2\t1\t720\t978\t1800\t1800\t1\t1\t1\t0\n"
    ∷ bytes "G\t200000\t1\t1\t978\t1800\t1800\t1\t1\t1\n"
    ∷ []
    )
    ≡ said
unfolding line_of width_under with_sovereign deal_line collateral_line guarantee_line swap_line if_read fields_of with_number and_then is_end field_of number_of number_read number_allowed digits_of decimal_from within
lines_read = refl

-- "unknown letter, wrong number of fields, bad number, or no line feed"
abbrev ill : List (List ℕ)
ill =
    -- one field more, and one less
    bytes "D\t500\t3\t0\t978\t3\t1\t30\t1\t0\t0\t0\n"
    ∷ bytes "D\t500\t3\t0\t978\t3\t1\t30\t1\t0\n"
    ∷ bytes "C\t500\t1\t0\t0\t978\t30\t30\t1\t1\t1\t0\t0\n"
    ∷ bytes "C\t500\t1\t0\t0\t978\t30\t30\t1\t1\t1\n"
    ∷ bytes "G\t500\t1\t1\t978\t30\t30\t1\t1\t1\t1\n"
    ∷ bytes "G\t500\t1\t1\t978\t30\t30\t1\t1\n"
    -- two tabs, a space for a tab, a tab at the end, a carriage return
    ∷ bytes "D\t\t500\t3\t0\t978\t3\t1\t30\t1\t0\t0\n"
    ∷ bytes "D\t500\t3\t0\t978\t3\t1\t30\t1\t0 0\n"
    ∷ bytes "D\t500\t3\t0\t978\t3\t1\t30\t1\t0\t0\t\n"
    ∷ bytes "D\t500\t3\t0\t978\t3\t1\t30\t1\t0\t0\r\n"
    -- an empty field, a leading zero
    ∷ bytes "D\t500\t3\t0\t978\t3\t1\t30\t1\t0\t\n"
    ∷ bytes "D\t500\t3\t0\t978\t3\t1\t30\t1\t0\t00\n"
    -- no line feed
    ∷ bytes "D\t500\t3\t0\t978\t3\t1\t30\t1\t0\t0"
    -- another letter, a small one, none
    ∷ bytes "X\t500\t3\t0\t978\t3\t1\t30\t1\t0\t0\n"
    ∷ bytes "d\t500\t3\t0\t978\t3\t1\t30\t1\t0\t0\n"
    ∷ bytes "\n"
    ∷ []

all_malformed : map (line_of 1) ill ≡ replicate 16 Malformed
unfolding line_of width_under with_sovereign deal_line collateral_line guarantee_line swap_line if_read fields_of with_number and_then is_end field_of number_of number_read number_allowed digits_of decimal_from within
all_malformed = refl

-- each field in its place, and none cut to a narrower width
fields_in_place :
    map (line_of 1) (
    bytes "D\t9123456789000\t9123456789001\t9123456789002\t9123456789003\t9123456789004\t9123456789005\t9123456789006\t9123456789007\t9123456789008\t9123456789009\n"
    ∷ bytes "C\t9123456789000\t9123456789001\t9123456789002\t9123456789003\t9123456789004\t9123456789005\t9123456789006\t9123456789007\t9123456789008\t9123456789009\t9123456789010\n"
    ∷ bytes "G\t9123456789000\t9123456789001\t9123456789002\t9123456789003\t9123456789004\t9123456789005\t9123456789006\t9123456789007\t9123456789008\n"
    ∷ []
    )
    ≡ DealLine (terms_in (9123456789000 ∷ 9123456789001 ∷ 9123456789002 ∷ 0 ∷ 9123456789003 ∷ 9123456789004 ∷ 9123456789005 ∷ 9123456789006 ∷ 9123456789007 ∷ 9123456789008 ∷ 9123456789009 ∷ 1 ∷ []))
    ∷ CollateralLine (record {
      amount = 9123456789000;
      asset = record { goods = 9123456789001; step = 9123456789002; life = 9123456789003 };
      currency = 9123456789004;
      residual = 9123456789005;
      original = 9123456789006;
      lawful = 9123456789007;
      unrelated = 9123456789008;
      not_in_rating = 9123456789009;
      listed = 9123456789010;
    })
    ∷ GuaranteeLine (record {
      amount = 9123456789000;
      provider = record { class = 9123456789001; step = 9123456789002; sovereign_step = 0 };
      currency = 9123456789003;
      residual = 9123456789004;
      original = 9123456789005;
      lawful = 9123456789006;
      direct = 9123456789007;
      not_in_rating = 9123456789008;
      instrument = 0;
    })
    ∷ []
unfolding line_of width_under with_sovereign deal_line collateral_line guarantee_line swap_line if_read fields_of with_number and_then is_end field_of number_of number_read number_allowed digits_of decimal_from within
fields_in_place = refl

-- 100,000 days in each field that holds days (02: L11), whole
abbrev longest : List Line
longest =
    DealLine (terms_in (1 ∷ 2 ∷ 3 ∷ 0 ∷ 4 ∷ 5 ∷ 6 ∷ 100000 ∷ 7 ∷ 8 ∷ 100000 ∷ 1 ∷ []))
    ∷ CollateralLine (collateral_in (1 ∷ 2 ∷ 3 ∷ 100000 ∷ 4 ∷ 100000 ∷ 100000 ∷ 5 ∷ 6 ∷ 7 ∷ 8 ∷ []))
    ∷ GuaranteeLine (guarantee_in (1 ∷ 2 ∷ 3 ∷ 0 ∷ 4 ∷ 100000 ∷ 100000 ∷ 5 ∷ 6 ∷ 7 ∷ []))
    ∷ []

longest_read :
    map (line_of 1) (
    bytes "D\t1\t2\t3\t4\t5\t6\t100000\t7\t8\t100000\n"
    ∷ bytes "C\t1\t2\t3\t100000\t4\t100000\t100000\t5\t6\t7\t8\n"
    ∷ bytes "G\t1\t2\t3\t4\t100000\t100000\t5\t6\t7\n"
    ∷ []
    )
    ≡ longest
unfolding line_of width_under with_sovereign deal_line collateral_line guarantee_line swap_line if_read fields_of with_number and_then is_end field_of number_of number_read number_allowed digits_of decimal_from within
longest_read = refl

-- of all bytes the tab alone parts fields, and the line feed alone ends them, with nothing before it
unfoldable is_number : Option Number → Bool
is_number None = false
is_number (Some number) = true

parts_only :
    (only tab (λ b. is_number (field_of (b ∷ bytes "1"))) ≡ true)
    × (only line_feed (λ b. is_end (b ∷ [])) ≡ true)
    × (every 256 (λ b. not (is_end (b ∷ line_feed ∷ []))) ≡ true)
unfolding is_number is_end field_of number_of number_read number_allowed digits_of decimal_from within
parts_only = (refl, refl, refl)

-- and a line of ten numbers is read behind the letters D and S alone, one of eleven behind C, one of nine behind G
unfoldable is_read : Line → Bool
is_read Malformed = false
is_read (DealLine terms) = true
is_read (CollateralLine c) = true
is_read (GuaranteeLine g) = true

letters_only :
    (every 256 (λ b. beq (is_read (line_of 1 (b ∷ bytes "\t1\t1\t1\t1\t1\t1\t1\t1\t1\t1\n"))) (eqb b (byte "D") || eqb b (byte "S"))) ≡ true)
    × (only (byte "C") (λ b. is_read (line_of 1 (b ∷ bytes "\t1\t1\t1\t1\t1\t1\t1\t1\t1\t1\t1\n"))) ≡ true)
    × (only (byte "G") (λ b. is_read (line_of 1 (b ∷ bytes "\t1\t1\t1\t1\t1\t1\t1\t1\t1\n"))) ≡ true)
unfolding is_read line_of width_under with_sovereign deal_line collateral_line guarantee_line swap_line if_read fields_of with_number and_then is_end field_of number_of number_read number_allowed digits_of decimal_from within
letters_only = (refl, refl, refl)

-- THE SOVEREIGN'S STEP. 02: L5

-- under the second heading a line D has eleven numbers and a line G ten, each in its place; the edition is the heading's
fields_in_place_2 :
    map (line_of 2) (
    bytes "D\t9123456789000\t9123456789001\t9123456789002\t9123456789003\t9123456789004\t9123456789005\t9123456789006\t9123456789007\t9123456789008\t9123456789009\t9123456789010\n"
    ∷ bytes "G\t9123456789000\t9123456789001\t9123456789002\t9123456789003\t9123456789004\t9123456789005\t9123456789006\t9123456789007\t9123456789008\t9123456789009\n"
    ∷ []
    )
    ≡ DealLine (record {
      amount = 9123456789000;
      counterparty = record { class = 9123456789001; step = 9123456789002; sovereign_step = 9123456789003 };
      currency = 9123456789004;
      kind = 9123456789005;
      interval = 9123456789006;
      residual = 9123456789007;
      lent = record { goods = 9123456789008; step = 9123456789009; life = 9123456789010 };
      edition = 2;
    })
    ∷ GuaranteeLine (record {
      amount = 9123456789000;
      provider = record { class = 9123456789001; step = 9123456789002; sovereign_step = 9123456789003 };
      currency = 9123456789004;
      residual = 9123456789005;
      original = 9123456789006;
      lawful = 9123456789007;
      direct = 9123456789008;
      not_in_rating = 9123456789009;
      instrument = 0;
    })
    ∷ []
unfolding line_of width_under with_sovereign deal_line collateral_line guarantee_line swap_line if_read fields_of with_number and_then is_end field_of number_of number_read number_allowed digits_of decimal_from within
fields_in_place_2 = refl

-- under the third heading they are as under the second, but for the edition. 02: L9
fields_in_place_3 :
    map (line_of 3) (
    bytes "D\t101\t102\t103\t104\t105\t106\t107\t108\t109\t110\t111\n"
    ∷ bytes "C\t101\t102\t103\t104\t105\t106\t107\t108\t109\t110\t111\n"
    ∷ bytes "G\t101\t102\t103\t104\t105\t106\t107\t108\t109\t110\n"
    ∷ bytes "D\t101\t102\t103\t105\t106\t107\t108\t109\t110\t111\n"
    ∷ bytes "G\t101\t102\t103\t105\t106\t107\t108\t109\t110\n"
    ∷ bytes "\n"
    ∷ [])
    ≡ DealLine (terms_in (101 ∷ 102 ∷ 103 ∷ 104 ∷ 105 ∷ 106 ∷ 107 ∷ 108 ∷ 109 ∷ 110 ∷ 111 ∷ 3 ∷ []))
    ∷ CollateralLine (collateral_in (101 ∷ 102 ∷ 103 ∷ 104 ∷ 105 ∷ 106 ∷ 107 ∷ 108 ∷ 109 ∷ 110 ∷ 111 ∷ []))
    ∷ GuaranteeLine (guarantee_in (101 ∷ 102 ∷ 103 ∷ 104 ∷ 105 ∷ 106 ∷ 107 ∷ 108 ∷ 109 ∷ 110 ∷ []))
    ∷ replicate 3 Malformed
unfolding line_of width_under with_sovereign deal_line collateral_line guarantee_line swap_line if_read fields_of with_number and_then is_end field_of number_of number_read number_allowed digits_of decimal_from within
fields_in_place_3 = refl

-- under either heading the other's lines D and G are malformed, and lines C are the same
abbrev lines_1 : List (List ℕ)
lines_1 = bytes "D\t500\t2\t0\t978\t3\t1\t30\t1\t0\t0\n" ∷ bytes "G\t500\t2\t0\t978\t30\t30\t1\t1\t1\n" ∷ []

abbrev lines_2 : List (List ℕ)
lines_2 = bytes "D\t500\t2\t0\t6\t978\t3\t1\t30\t1\t0\t0\n" ∷ bytes "G\t500\t2\t0\t6\t978\t30\t30\t1\t1\t1\n" ∷ []

other_heading :
    (map is_read (map (line_of 1) lines_1) ∷ map is_read (map (line_of 2) lines_2) ∷ map is_read (map (line_of 2) lines_1) ∷ map is_read (map (line_of 1) lines_2) ∷ []
    ≡ replicate 2 (replicate 2 true) ++ replicate 2 (replicate 2 false))
    × (let c = bytes "C\t500\t1\t0\t0\t978\t30\t30\t1\t1\t1\t0\n" in (line_of 2 c ≡ line_of 1 c) × (is_read (line_of 2 c) ≡ true))
unfolding is_read line_of width_under with_sovereign deal_line collateral_line guarantee_line swap_line if_read fields_of with_number and_then is_end field_of number_of number_read number_allowed digits_of decimal_from within
other_heading = (refl, (refl, refl))

-- eleven numbers are read behind the letters D, C and S alone, ten behind G
letters_only_2 :
    (every 256 (λ b. beq (is_read (line_of 2 (b ∷ bytes "\t1\t1\t1\t1\t1\t1\t1\t1\t1\t1\t1\n"))) (eqb b (byte "D") || eqb b (byte "C") || eqb b (byte "S"))) ≡ true)
    × (only (byte "G") (λ b. is_read (line_of 2 (b ∷ bytes "\t1\t1\t1\t1\t1\t1\t1\t1\t1\t1\n"))) ≡ true)
unfolding is_read line_of width_under with_sovereign deal_line collateral_line guarantee_line swap_line if_read fields_of with_number and_then is_end field_of number_of number_read number_allowed digits_of decimal_from within
letters_only_2 = (refl, refl)

-- LINES OF SWAPS. 02: L1

-- as G, and the condition behind: under the first heading ten numbers, under the others eleven with the sovereign's step. The entry of the
-- condition reaches the operation whatever it is; only 0 and 1 are an instrument's
swaps_read :
    (map (line_of 1) (
    bytes "S\t101\t102\t103\t105\t106\t107\t108\t109\t110\t0\n"
    ∷ bytes "S\t101\t102\t103\t105\t106\t107\t108\t109\t110\t1\n"
    ∷ bytes "S\t101\t102\t103\t105\t106\t107\t108\t109\t110\t2\n"
    ∷ bytes "S\t9123456789000\t9123456789001\t9123456789002\t9123456789003\t9123456789004\t9123456789005\t9123456789006\t9123456789007\t9123456789008\t9123456789009\n"
    ∷ [])
    ≡ GuaranteeLine (guarantee_in (101 ∷ 102 ∷ 103 ∷ 0 ∷ 105 ∷ 106 ∷ 107 ∷ 108 ∷ 109 ∷ 110 ∷ 1 ∷ []))
    ∷ GuaranteeLine (guarantee_in (101 ∷ 102 ∷ 103 ∷ 0 ∷ 105 ∷ 106 ∷ 107 ∷ 108 ∷ 109 ∷ 110 ∷ 2 ∷ []))
    ∷ GuaranteeLine (guarantee_in (101 ∷ 102 ∷ 103 ∷ 0 ∷ 105 ∷ 106 ∷ 107 ∷ 108 ∷ 109 ∷ 110 ∷ 3 ∷ []))
    ∷ GuaranteeLine (guarantee_in (9123456789000 ∷ 9123456789001 ∷ 9123456789002 ∷ 0 ∷ 9123456789003 ∷ 9123456789004 ∷ 9123456789005 ∷ 9123456789006 ∷ 9123456789007 ∷ 9123456789008 ∷ 3 ∷ []))
    ∷ [])
    × (map (λ edition. line_of edition (bytes "S\t101\t102\t103\t104\t105\t106\t107\t108\t109\t110\t0\n")) (2 ∷ 3 ∷ [])
    ≡ replicate 2 (GuaranteeLine (guarantee_in (101 ∷ 102 ∷ 103 ∷ 104 ∷ 105 ∷ 106 ∷ 107 ∷ 108 ∷ 109 ∷ 110 ∷ 1 ∷ []))))
    × (map (λ edition. line_of edition (bytes "S\t101\t102\t103\t104\t105\t106\t107\t108\t109\t110\t1\n")) (2 ∷ 3 ∷ [])
    ≡ replicate 2 (GuaranteeLine (guarantee_in (101 ∷ 102 ∷ 103 ∷ 104 ∷ 105 ∷ 106 ∷ 107 ∷ 108 ∷ 109 ∷ 110 ∷ 2 ∷ []))))
unfolding line_of width_under with_sovereign deal_line collateral_line guarantee_line swap_line if_read fields_of with_number and_then is_end field_of number_of number_read number_allowed digits_of decimal_from within
swaps_read = (refl, refl, refl)

-- one number more or less, a G's numbers, no line feed, a small letter: malformed
swaps_malformed :
    (map (line_of 1) (
    bytes "S\t5\t1\t1\t978\t30\t30\t1\t1\t1\n"
    ∷ bytes "S\t5\t1\t1\t0\t978\t30\t30\t1\t1\t1\t0\n"
    ∷ bytes "S\t5\t1\t1\t978\t30\t30\t1\t1\t1\t0"
    ∷ bytes "s\t5\t1\t1\t978\t30\t30\t1\t1\t1\t0\n"
    ∷ bytes "S\t5\t1\t1\t978\t30\t30\t1\t1\t1\t\n"
    ∷ bytes "G\t5\t1\t1\t978\t30\t30\t1\t1\t1\t0\n"
    ∷ [])
    ≡ replicate 6 Malformed)
    × (map (line_of 2) (
    bytes "S\t5\t1\t1\t978\t30\t30\t1\t1\t1\t0\n"
    ∷ bytes "S\t5\t1\t1\t0\t978\t30\t30\t1\t1\t1\t0\t0\n"
    ∷ bytes "S\t5\t1\t1\t0\t978\t30\t30\t1\t1\t1\t0"
    ∷ bytes "s\t5\t1\t1\t0\t978\t30\t30\t1\t1\t1\t0\n"
    ∷ bytes "G\t5\t1\t1\t0\t978\t30\t30\t1\t1\t1\t0\n"
    ∷ [])
    ≡ replicate 5 Malformed)
unfolding line_of width_under with_sovereign deal_line collateral_line guarantee_line swap_line if_read fields_of with_number and_then is_end field_of number_of number_read number_allowed digits_of decimal_from within
swaps_malformed = (refl, refl)
