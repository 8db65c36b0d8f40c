-- The grounds' numbers. 01: Grounds for leaving an item out.
use Rattle.std.specs.Prelude.{ℕ, ◌-◌, [], ◌∷◌, get_or}
use Rattle.relief.specs.declared.ground.Ground.{Ground}
use Rattle.relief.specs.declared.ground.Ground.TheVariants.{NotLawful, Related, AlreadyInRating, NotEligible, ShortOriginalTerm, ShortResidualTerm, NotDirect, UnratedEntity, WeightNotBelow}

unfoldable pub ground_number : Ground → ℕ
-- "not lawful"
ground_number NotLawful = 21
-- "related"
ground_number Related = 22
-- "already in the rating"
ground_number AlreadyInRating = 23
-- "not eligible by type and step"
ground_number NotEligible = 24
-- "mismatch with original term under 360"
ground_number ShortOriginalTerm = 25
-- "mismatch with residual term of 90 or less"
ground_number ShortResidualTerm = 26
-- "not direct"
ground_number NotDirect = 27
-- "other entity unrated"
ground_number UnratedEntity = 28
-- "provider's weight not below the counterparty's"
ground_number WeightNotBelow = 29

-- the ground with a number from 21 to 29, and it is asked for no other (`outcome_for`)
unfoldable pub ground_with : ℕ → Ground
ground_with number =
    get_or
    (NotLawful
    ∷ Related
    ∷ AlreadyInRating
    ∷ NotEligible
    ∷ ShortOriginalTerm
    ∷ ShortResidualTerm
    ∷ NotDirect
    ∷ UnratedEntity
    ∷ [])
    (number - 21)
    WeightNotBelow
