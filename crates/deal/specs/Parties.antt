-- Counterparties and providers of guarantees. 01: What a deal holds; 02: L5.
use Rattle.std.specs.Prelude.{Bool, ◌&&◌, ◌||◌, eqb, if◌then◌else◌}
use Rattle.base.specs.Range.{within}
use Rattle.tables.specs.Classes.{other_entity, retail, sovereign}
use Rattle.deal.specs.Ranges.{step_allowed}
use Rattle.deal.specs.declared.party.Party.{Party}

-- "counterparty class (1 sovereign, 2 bank, 3 corporate, 4 retail ..)"
abbrev pub counterparty_known : Party → Bool
counterparty_known party = within sovereign retail party.class

-- "provider class (1 sovereign, 2 bank or securities firm, 3 other entity)"
abbrev pub provider_known : Party → Bool
provider_known party = within sovereign other_entity party.class

-- ".. 4 retail, which has step 0". A provider of class 4 is refused by 2 before its step is asked for
unfoldable pub party_step_allowed : Party → Bool
party_step_allowed party = if eqb party.class retail then eqb party.step 0 else step_allowed party.step

-- the step of its sovereign of incorporation, under every edition: "It is 0 to 6, and must be 0 for sovereign and retail" (02: L5)
unfoldable pub sovereign_step_allowed : Party → Bool
sovereign_step_allowed party =
    if eqb party.class sovereign || eqb party.class retail then eqb party.sovereign_step 0 else step_allowed party.sovereign_step

-- both of them. "(A wrong entry is 3.)"
unfoldable pub party_steps_allowed : Party → Bool
party_steps_allowed party = party_step_allowed party && sovereign_step_allowed party
