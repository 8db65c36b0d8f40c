-- Small texts, repaired by the definitions themselves. 02: L14. Assumes nothing.
use Prim.Native.Nat.{ℕ}
use mathlib.Core.Path.{◌≡◌, refl}
use mathlib.Core.Bool.{not, true}
use mathlib.Core.List.{List, [], ◌∷◌, ◌++◌, map}
use lib.Dec.{eqb}
use lib.ListN.{length, replicate}
use Rattle.base.specs.FirstMet.{first_or}
use Rattle.text.specs.Bytes.{bytes}
use Rattle.text.specs.Text.{extend_first, lines_of, same_bytes}
use Rattle.text.proofs.Bytes.{only}
use Rattle.mail.specs.Mail.{in_front, runs_of, ends_at_feed, repaired_run, repaired_runs, repaired, differing, altered_lines}
use Rattle.std.specs.Prelude.{Ok, Err}
use Rattle.mail.specs.Reply.{buffer_after, numbers_after, refusal_number, refused_reply, repair_refusal, repair_reply, repair_tests, reply_sent, unless_refused}
use Rattle.mail.specs.declared.RepairRefusal.TheVariants.{TooLong, BufferTooShort, ListTooShort}

-- `unfolding worked` opens every definition that a repair comes from
unfoldable pub worked : List ℕ → List ℕ
unfolding in_front runs_of ends_at_feed repaired_run repaired_runs repaired differing altered_lines extend_first lines_of same_bytes first_or repair_tests repair_refusal unless_refused repair_reply buffer_after numbers_after
worked text = repaired text

-- the runs of a text, each as long as it can be
runs : map (λ run. run.times) (runs_of (bytes "  a\r\r\nbb")) ≡ 2 ∷ 1 ∷ 2 ∷ 1 ∷ 2 ∷ []
unfolding worked
runs = refl

-- runs of both; the second line is as it was, the last one has no line feed
mailed : repaired (bytes "D   1 2\r\r\nC\t3\nG  4") ≡ bytes "D\t1\t2\nC\t3\nG\t4"
unfolding worked
mailed = refl

mailed_lines : altered_lines (bytes "D   1 2\r\r\nC\t3\nG  4") ≡ 1 ∷ 3 ∷ []
unfolding worked
mailed_lines = refl

-- a line of which only a carriage return went, and one in which a space became a tab and no byte went
either_listed : altered_lines (bytes "a\nb\r\n \n\r\n\n") ≡ 2 ∷ 3 ∷ 4 ∷ []
unfolding worked
either_listed = refl

-- carriage returns that end at another byte, or at the end of the text, stay
returns_stay : repaired (bytes "a\r\rb\r\r") ≡ bytes "a\r\rb\r\r"
unfolding worked
returns_stay = refl

-- spaces beside a tab give two tabs, and between them and a line feed the carriage returns go
beside_tab : repaired (bytes "a \tb \r\n") ≡ bytes "a\t\tb\t\n"
unfolding worked
beside_tab = refl

-- a carriage return in front of a space in front of a line feed is in no run that ends at one
return_space : repaired (bytes "\r \n") ≡ bytes "\r\t\n"
unfolding worked
return_space = refl

-- nothing
nothing : (repaired [] ≡ []) × ((altered_lines [] ≡ []) × (repair_reply [] 0 0 ≡ record { refusal = 0; bytes = 0; lines = 0 }))
unfolding worked
nothing = (refl, (refl, refl))

-- both one too short, the list one too short, and neither
refusals : map (λ room. map (λ places. repair_refusal (bytes "a \r\n") room places) (0 ∷ 1 ∷ [])) (2 ∷ 3 ∷ []) ≡ (20 ∷ 20 ∷ []) ∷ (41 ∷ 0 ∷ []) ∷ []
unfolding worked
refusals = refl

-- nothing behind the lengths is written, and nothing at all of a refused book
behind : (buffer_after (bytes "a \r\n") (bytes "xxxxx") 1 ≡ bytes "a\t\nxx") × (numbers_after (bytes "a \r\n") 5 (7 ∷ 8 ∷ []) ≡ 1 ∷ 8 ∷ [])
unfolding worked
behind = (refl, refl)

untouched : (buffer_after (bytes "a \r\n") (bytes "xxxxx") 0 ≡ bytes "xxxxx") × (numbers_after (bytes "a \r\n") 2 (7 ∷ 8 ∷ []) ≡ 7 ∷ 8 ∷ [])
unfolding worked
untouched = (refl, refl)

-- runs of any length; tabs side by side, and any other byte, stay
longer : repaired (bytes "\t\ta     b\r\r\r\r\n") ≡ bytes "\t\ta\tb\n"
unfolding worked
longer = refl

long_run : (repaired (replicate 1000 32) ≡ 9 ∷ []) × (repaired (replicate 1000 13 ++ 10 ∷ []) ≡ 10 ∷ [])
unfolding worked
long_run = (refl, refl)

-- of all bytes a space alone is altered between two others, two of it are one, and before a line feed a carriage return alone goes
space_alone : only 32 (λ b. not (same_bytes (repaired (97 ∷ b ∷ 98 ∷ [])) (97 ∷ b ∷ 98 ∷ []))) ≡ true
unfolding worked
space_alone = refl

joined_alone : only 32 (λ b. eqb (length (repaired (b ∷ b ∷ []))) 1) ≡ true
unfolding worked
joined_alone = refl

return_alone : only 13 (λ b. eqb (length (repaired (b ∷ 10 ∷ []))) 1) ≡ true
unfolding worked
return_alone = refl

odd_bytes : repaired (0 ∷ 11 ∷ 12 ∷ 127 ∷ 160 ∷ 255 ∷ []) ≡ 0 ∷ 11 ∷ 12 ∷ 127 ∷ 160 ∷ 255 ∷ []
unfolding worked
odd_bytes = refl

-- spaces at the end of the text
at_the_end : repaired (bytes "a  ") ≡ bytes "a\t"
unfolding worked
at_the_end = refl

-- both lengths are 0 of a refused book
refused_lengths : (repair_reply (bytes "a \r\n") 2 9 ≡ record { refusal = 20; bytes = 0; lines = 0 }) × (repair_reply (bytes "a \r\n") 9 0 ≡ record { refusal = 41; bytes = 0; lines = 0 })
unfolding worked
refused_lengths = (refl, refl)

-- a list with a place for each altered line is enough, though the book has more lines
few_places : repair_refusal (bytes "a\nb \n") 9 1 ≡ 0
unfolding worked
few_places = refl

-- too long, judged before the buffer
too_long : repair_refusal (replicate 65537 97) 0 0 ≡ 10
unfolding worked
too_long = refl

just_short : repair_refusal (replicate 65536 97) 0 0 ≡ 20
unfolding worked
just_short = refl

-- a result as it is sent
sent : (reply_sent (Ok (record { bytes = 9; lines = 1 })) ≡ record { refusal = 0; bytes = 9; lines = 1 })
    × (map (λ refusal. reply_sent (Err refusal)) (TooLong ∷ BufferTooShort ∷ ListTooShort ∷ []) ≡ map refused_reply (10 ∷ 20 ∷ 41 ∷ []))
unfolding reply_sent refusal_number
sent = (refl, refl)
