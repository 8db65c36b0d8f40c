-- The amount of a credit default swap that counts where restructuring is no credit event. 02: L1; CRE22.87
use Rattle.std.specs.Prelude.{ℕ, ◌*◌, ◌/◌, min}

-- "Without that condition the amount is first cut to 60 percent, rounded down, of the smaller of the swap and the deal's amount": both as
-- they were sent
unfoldable pub partially_recognised : ℕ → ℕ → ℕ
partially_recognised amount deal_amount = min amount deal_amount * 60 / 100
