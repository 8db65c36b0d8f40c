-- The example of 01, from the book's bytes to the printed ones, by the definitions themselves. Assumes nothing.
use Prim.Native.Nat.{◌*◌}
use mathlib.Core.Path.{◌≡◌, refl}
use Rattle.text.specs.Bytes.{bytes}
use Rattle.result.specs.Numbers.{digit_text, number_text}
use Rattle.result.specs.Result.{row, rows, result_text}
use Rattle.book.proofs.Examples.{worked, example}
use Rattle.response.specs.Response.{places, printed}

example_printed : printed example ≡ bytes "RESULT\t1\n1\t0\t611314\t411314\n2\t3\t5\t0\n3\t0\t900\t675\n"
unfolding printed worked result_text rows row number_text digit_text
example_printed = refl

-- 2,048 deals have room
room : places ≡ 4 * 2048
room = refl

empty_printed : printed (bytes "") ≡ bytes "REFUSED\t9\n"
unfolding printed worked result_text number_text digit_text
empty_printed = refl
