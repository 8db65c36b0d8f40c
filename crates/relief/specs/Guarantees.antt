-- Which guarantees and swaps are recognised, what they are worth, and what they cover with, under a table. 01: Grounds for leaving an item out;
-- From items to the weighted amount, 1 and 2; 02: L1, L2
use Rattle.std.specs.Prelude.{ℕ, Bool, ◌&&◌, List, [], ◌∷◌, leb, eqb, if◌then◌else◌}
use Rattle.base.specs.FirstMet.{Test, ◌when◌, first_met}
use Rattle.tables.specs.Classes.{other_entity}
use Rattle.tables.specs.Table.{Table}
use Rattle.scaling.specs.Period.{guarantee_period}
use Rattle.valuation.specs.Haircuts.{scaled_currency_haircut}
use Rattle.valuation.specs.Restructuring.{partially_recognised}
use Rattle.valuation.specs.Valuation.{valuation_of}
use Rattle.valuation.specs.declared.protection.Valuation.{Valuation}
use Rattle.cover.specs.declared.protection.Protection.{Protection}
use Rattle.deal.specs.Instruments.{swap_without_restructuring}
use Rattle.deal.specs.declared.terms.Terms.{Terms}
use Rattle.deal.specs.declared.guarantee.Guarantee.{Guarantee}
use Rattle.relief.specs.declared.outcome.Outcome.{Outcome}
use Rattle.relief.specs.Outcomes.{outcome_for, outcome_value}
use Rattle.relief.specs.Maturity.{short_original, short_residual}
use Rattle.relief.specs.Weights.{counterparty_weight_of, provider_weight_of}

-- "other entity unrated"
abbrev pub is_unrated_entity : Guarantee → Bool
is_unrated_entity g = eqb g.provider.class other_entity && eqb g.provider.step 0

-- the amount that is hedged: of a swap without the restructuring condition, "first cut to 60 percent, rounded down, of the smaller of the swap and the
-- deal's amount" (02: L1; CRE22.87); of a swap with it, and of a guarantee, its whole amount
unfoldable pub hedged_amount : Terms → Guarantee → ℕ
hedged_amount t g = if eqb g.instrument swap_without_restructuring then partially_recognised g.amount t.amount else g.amount

-- what it is worth where no ground leaves it out, and where the rest of its amount went: "Guarantees have only the currency haircut", which "always
-- uses n = interval + 9". Of a swap, "Currency and maturity follow as for a guarantee, with its grounds" (02: L1)
unfoldable pub guarantee_valuation : Terms → Guarantee → Valuation
guarantee_valuation t g =
    valuation_of g.amount (hedged_amount t g) (scaled_currency_haircut g.currency t.currency (guarantee_period t.interval)) g.residual t.residual

-- "21; 27 not direct; 23; 28 other entity unrated; 25; 26; 29 provider's weight not below the counterparty's". Direct is CRE22.84, with
-- CRE22.85 of a guarantee and CRE22.86 of a swap
unfoldable pub guarantee_grounds : Table → Terms → Guarantee → List (Test ℕ)
guarantee_grounds table t g =
    21 when eqb g.lawful 0
    ∷ 27 when eqb g.direct 0
    ∷ 23 when eqb g.not_in_rating 0
    ∷ 28 when is_unrated_entity g
    ∷ 25 when short_original t g.residual g.original
    ∷ 26 when short_residual t g.residual
    ∷ 29 when leb (counterparty_weight_of table t) (provider_weight_of table g)
    ∷ []

-- "First that applies", or 0
unfoldable pub guarantee_ground : Table → Terms → Guarantee → ℕ
guarantee_ground table t g = first_met (guarantee_grounds table t g)

unfoldable pub guarantee_outcome : Table → Terms → Guarantee → Outcome
guarantee_outcome table t g = outcome_for (guarantee_ground table t g) g.amount (guarantee_valuation t g)

-- what it covers with: its value, 0 where it is left out, at its provider's weight
abbrev pub protection_of : Table → Terms → Guarantee → Protection
protection_of table t g = record { value = outcome_value (guarantee_outcome table t g); weight = provider_weight_of table g }
