-- The sovereign's step in a line, by the edition that the heading says. 02: L5, L9
use Rattle.std.specs.Prelude.{ℕ, ◌-◌, Bool, List, ◌∷◌, ◌++◌, eqb, take, drop, if◌then◌else◌}

-- "D lines gain, after the step, the step of that sovereign. G and S lines gain it in the same place", and "a book headed 1 reads as before":
-- its lines leave it out. Headed 3, "lines as under 2"
abbrev pub leaves_out_sovereign : ℕ → Bool
leaves_out_sovereign edition = eqb edition 1

-- how many fields such a line has, of so many with the sovereign's step
unfoldable pub width_under : ℕ → ℕ → ℕ
width_under edition width = if leaves_out_sovereign edition then width - 1 else width

-- the fields with the sovereign's step behind amount, class and step; 0 where the line leaves it out
unfoldable pub with_sovereign : ℕ → List ℕ → List ℕ
with_sovereign edition fields = if leaves_out_sovereign edition then take 3 fields ++ 0 ∷ drop 3 fields else fields
