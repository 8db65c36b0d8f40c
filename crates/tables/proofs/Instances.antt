-- At each version's figures, what the versions share is that version's own definitions. Assumes nothing.
use Rattle.std.specs.Prelude.{ℕ, ◌≡◌, Bool, true, false, eqb, if◌then◌else◌}
use mathlib.Core.Path.{ap, refl}
use Rattle.tables.specs.Classes.{retail}
use Rattle.tables.specs.Haircuts.{debt_haircut, haircut, lent_haircut}
use Rattle.tables.specs.Shared.{haircut_by, lent_haircut_by, own_weight_by}
use Rattle.tables.specs.Version2023.{counterparty_weight_2023, debt_haircut_2023, edition_2023, haircut_2023, lent_haircut_2023, own_weight_2023, provider_weight_2023, table_weight_2023}
use Rattle.tables.specs.Weights.{at_least_sovereign, counterparty_weight, floor_for_counterparty, floor_for_provider, own_weight, provider_weight, table_weight}

-- of 2019
haircut_shared : (goods step life : ℕ) → haircut_by 150000 250000 debt_haircut goods step life ≡ haircut goods step life
unfolding haircut_by haircut
haircut_shared goods step life = refl

lent_haircut_shared : (goods step life : ℕ) → lent_haircut_by 250000 150000 250000 debt_haircut goods step life ≡ lent_haircut goods step life
unfolding lent_haircut_by lent_haircut haircut_by haircut
lent_haircut_shared goods step life = refl

own_weight_shared : (class step : ℕ) → own_weight_by table_weight class step ≡ own_weight class step
unfolding own_weight_by own_weight
own_weight_shared class step = refl

provider_weight_shared : (edition class step sovereign_step : ℕ) →
    at_least_sovereign (floor_for_provider edition class step) (table_weight class step) sovereign_step ≡ provider_weight edition class step sovereign_step
unfolding provider_weight
provider_weight_shared edition class step sovereign_step = refl

counterparty_weight_shared : (edition class step sovereign_step : ℕ) →
    at_least_sovereign (floor_for_counterparty edition class step) (own_weight_by table_weight class step) sovereign_step ≡ counterparty_weight edition class step sovereign_step
unfolding counterparty_weight own_weight_by own_weight
counterparty_weight_shared edition class step sovereign_step = refl

-- of 2023
haircut_shared_2023 : (goods step life : ℕ) → haircut_by 200000 300000 debt_haircut_2023 goods step life ≡ haircut_2023 goods step life
unfolding haircut_by haircut_2023
haircut_shared_2023 goods step life = refl

lent_haircut_shared_2023 : (goods step life : ℕ) → lent_haircut_by 300000 200000 300000 debt_haircut_2023 goods step life ≡ lent_haircut_2023 goods step life
unfolding lent_haircut_by lent_haircut_2023 haircut_by haircut_2023
lent_haircut_shared_2023 goods step life = refl

-- retail's is said twice there
asked_twice : {A : Type 0} (b : Bool) (x y z : A) → (if b then x else z) ≡ (if b then if b then x else y else z)
asked_twice true x y z = refl
asked_twice false x y z = refl

own_weight_shared_2023 : (class step : ℕ) → own_weight_by table_weight_2023 class step ≡ own_weight_2023 class step
unfolding own_weight_by own_weight_2023 own_weight
own_weight_shared_2023 class step = asked_twice (eqb class retail) 75 (table_weight class step) (table_weight_2023 class step)

provider_weight_shared_2023 : (class step sovereign_step : ℕ) →
    at_least_sovereign (floor_for_provider edition_2023 class step) (table_weight_2023 class step) sovereign_step ≡ provider_weight_2023 class step sovereign_step
unfolding provider_weight_2023
provider_weight_shared_2023 class step sovereign_step = refl

counterparty_weight_shared_2023 : (class step sovereign_step : ℕ) →
    at_least_sovereign (floor_for_counterparty edition_2023 class step) (own_weight_by table_weight_2023 class step) sovereign_step ≡ counterparty_weight_2023 class step sovereign_step
unfolding counterparty_weight_2023
counterparty_weight_shared_2023 class step sovereign_step =
    ap (λ own. at_least_sovereign (floor_for_counterparty edition_2023 class step) own sovereign_step) (own_weight_shared_2023 class step)
