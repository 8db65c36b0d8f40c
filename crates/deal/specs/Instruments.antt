-- What a place of the list of guarantees holds: a guarantee, or a credit default swap. 02: L1, "Swaps and guarantees share the list of sixteen"
use Rattle.std.specs.Prelude.{ℕ, ◌+◌, min, Bool, leb}
use Rattle.deal.specs.declared.guarantee.Guarantee.{Guarantee}

-- a guarantee, which has no further condition
abbrev pub guarantee_instrument : ℕ
guarantee_instrument = 0

-- a swap, of which "one more condition" is asked: "restructuring is a credit event". Not met, CRE22.87
abbrev pub swap_without_restructuring : ℕ
swap_without_restructuring = 1

-- met, CRE22.86(1)(c)
abbrev pub swap_with_restructuring : ℕ
swap_with_restructuring = 2

-- the swap with this entry of the condition: one above it. An entry that is neither 0 nor 1 gives 3, which is no instrument
abbrev pub swap_with : ℕ → ℕ
swap_with restructuring = 1 + min restructuring 2

-- "A condition is 1 met or 0 not met"; "(A line S is refused as a G is.)"
abbrev pub instrument_allowed : ℕ → Bool
instrument_allowed instrument = leb instrument swap_with_restructuring

-- "laid out as G with one more condition at the end": the swap with a guarantee's fields and this entry
abbrev pub as_swap : ℕ → Guarantee → Guarantee
as_swap restructuring g = record {
  amount = g.amount;
  provider = g.provider;
  currency = g.currency;
  residual = g.residual;
  original = g.original;
  lawful = g.lawful;
  direct = g.direct;
  not_in_rating = g.not_in_rating;
  instrument = swap_with restructuring;
}
