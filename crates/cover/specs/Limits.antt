-- What the program has room for: sums and products of such figures fit its numbers. No weight of a table is near 1,000.
use Rattle.std.specs.Prelude.{Bool, ◌&&◌, leb}
use Rattle.cover.specs.declared.protection.Protection.{Protection}

unfoldable pub within_limits : Protection → Bool
within_limits p = leb p.value 1000000000000 && leb p.weight 1000
