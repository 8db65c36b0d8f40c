-- The bytes of plain text, so that definitions can quote it. Only for characters below 128, whose code is their one byte.
use Rattle.std.specs.Prelude.{ℕ, List, [], ◌∷◌}
use Prim.Native.Char.{Char, code}
use Prim.Native.String.{String, [] as empty_text, ◌∷◌ as ◌then◌}

abbrev pub byte : Char → ℕ
byte c = code c

abbrev pub bytes : String → List ℕ
bytes empty_text = []
bytes (c then text) = byte c ∷ bytes text
