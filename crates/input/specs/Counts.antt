-- How much of an input was read.
use Rattle.std.specs.Prelude.{ℕ, Result, Ok, Err}
use Rattle.input.specs.declared.CutShort.{CutShort}

-- how many bytes, whether all were read or a read failed
abbrev pub count_of : Result ℕ CutShort → ℕ
count_of (Ok count) = count
count_of (Err cut) = cut.count
