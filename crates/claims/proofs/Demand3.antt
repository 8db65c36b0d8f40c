-- Demand 3 is met. Assumes nothing.
use Prim.Native.Nat.{◌+◌, ◌-◌}
use mathlib.Core.Path.{refl}
use mathlib.Core.Bool.{true}
use native.Mathlib.Omega.{arith}
use Rattle.tables.specs.Table.{Table, TableLaws}
use Rattle.tables.proofs.Laws.{lawful}
use Rattle.betterment.specs.Betterments.{NeverRaisedUnder}
use Rattle.betterment.proofs.Steps.{instrument_stays}
use Rattle.betterment.proofs.Theorem.{betterments_never_raise, betterments_under, reached_accepted}
use Rattle.claims.specs.Demand3.{Demand3}

pub demand_3 : Demand3
demand_3 = record {
  still_accepted = λ before after a list. reached_accepted a list;
  than_before = λ before after a list. (betterments_never_raise before after a list).0;
  than_unprotected = λ before after a list. (betterments_never_raise before after a list).1;
  instruments_stay = λ currency g g' b. instrument_stays b;
  never_raised = betterments_never_raise;
  under_any_tables = λ table laws. betterments_under laws;
  every_edition = lawful;
}

-- NO LAW ASKS MORE THAN ITS WORDS: a set of tables that has them, though a longer life is cut less, sovereigns are cut deeper and weigh more than
-- others, the unrated weigh less than the rated, and a counterparty weighs more at a better step
abbrev odd : Table
odd = record {
  eligible = λ goods step listed. true;
  haircut = λ goods step life. (200000 - life) + (10 - goods) + step;
  lent_haircut = λ goods step life. (200000 - life) + (10 - goods) + step;
  counterparty_weight = λ class step sovereign_step. 100 - step;
  provider_weight = λ class step sovereign_step. (10 - class) + step + sovereign_step;
}

odd_lawful : TableLaws odd
odd_lawful = record {
  step_eligible = λ goods step step' listed g s l e. refl;
  step_haircut = λ goods step step' listed life g s l e. omega arith;
  step_lent = λ goods step step' life g s. omega arith;
  step_weight = λ class step step' sovereign_step c s k. omega arith;
  sovereign_weight = λ class step sovereign_step sovereign_step' c s k. omega arith;
  listed_eligible = λ goods step g s e. refl;
}

-- so betterments never raise the weighted amount under it either
odd_never_raises : NeverRaisedUnder odd
odd_never_raises = demand_3.under_any_tables odd odd_lawful
