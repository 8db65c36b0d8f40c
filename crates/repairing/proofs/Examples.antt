-- A mailed book and what is written for it, by the definitions themselves. 02: L14. Assumes nothing.
use Prim.Native.Nat.{ℕ}
use mathlib.Core.Path.{◌≡◌, refl}
use mathlib.Core.List.{List, []}
use Rattle.text.specs.Bytes.{bytes}
use Rattle.result.specs.List.{list_text, number_lines}
use Rattle.result.specs.Numbers.{digit_text, number_text}
use Rattle.mail.proofs.Examples.{worked}
use Rattle.repairing.specs.Repairing.{book_written, notice_written}

abbrev example : List ℕ
example = bytes "CRM 1\r\nD   900\t4\r\nD\t900\nD 1"

example_book : book_written example ≡ bytes "CRM\t1\nD\t900\t4\nD\t900\nD\t1"
unfolding book_written worked
example_book = refl

example_notice : notice_written example ≡ bytes "1\n2\n4\n"
unfolding notice_written worked list_text number_lines number_text digit_text
example_notice = refl

-- nothing is altered, and nothing is said
clean : (book_written (bytes "CRM\t1\n") ≡ bytes "CRM\t1\n") × (notice_written (bytes "CRM\t1\n") ≡ [])
unfolding book_written notice_written worked list_text number_lines number_text digit_text
clean = (refl, refl)
