-- DEMAND 3. "For every accepted deal, and for every list of betterments made to it one after another, refused ones among them, the
-- risk-weighted amount reported after the list is no higher than the one reported before it, and no higher than that of the same deal
-- without protection. .. All rounding is included."
--
-- What a betterment is stands in betterment/specs/Betterments: `BetterItem` ("a larger item", "a better step between two rated steps of a
-- security or guarantor", "the deal's own currency", "longer residual or original cover", "a condition now met"; since 02: L5 "A better step
-- of a guarantor's sovereign, between rated steps", not the counterparty's), for swaps as for guarantees, with `BetterGuarantee` (02: L1, "The rule on
-- betterments now includes swaps and this condition": of a swap, restructuring from 0 to 1; that a guarantee never becomes a swap is
-- `instruments_stay`), `OneMore` ("one more item"), `BetterTerms` ("more frequent
-- revaluation", a better step of the goods lent). "A longer life of the pledged bond itself is not one": no constructor changes it. A list of
-- them, refused ones among them, is `Betterments`. The amount is the one in the report that `relief::report::Report::of` gives, whose contract
-- says that it is `report_of`.
--
-- WHAT ANY SET OF TABLES MUST HAVE for this (`TableLaws`, tables/specs/Table; 02: L9, "Prove the betterment rule from what any such table must
-- have, and show each table has it"). Between rated steps: a security that is eligible stays eligible at a better step, and is cut no deeper
-- there; goods lent raise the exposure no more at a better step; a guarantor weighs no more at a better step of its own or of its sovereign.
-- And a listing takes no eligibility away. This suffices: how a table goes by life, by issuer or by class, and what counterparties weigh, is
-- free. That a set of tables has it is one computed test of all its cells (tables/proofs/Laws), so for this demand a further edition needs its
-- figures and that test.
use Rattle.std.specs.Prelude.{ℕ, ◌≤◌, ◌≡◌, true, ◌⊎◌}
use Rattle.tables.specs.Table.{Table, TableLaws, table_of}
use Rattle.deal.specs.Records.{accepted, without_protection}
use Rattle.deal.specs.declared.deal.Deal.{Deal}
use Rattle.deal.specs.declared.guarantee.Guarantee.{Guarantee}
use Rattle.relief.specs.Report.{report_of}
use Rattle.betterment.specs.Betterments.{BetterGuarantee, Betterments, NeverRaised, NeverRaisedUnder}

pub record Demand3 : Type 0 where
  -- the deal after the list is accepted, so that its amount is a figure and not the 0 of a refusal
  pub still_accepted : (before after : Deal) → accepted before ≡ true → Betterments before after → accepted after ≡ true
  -- no higher than before the list
  pub than_before : (before after : Deal) → accepted before ≡ true → Betterments before after → (report_of after).rwa ≤ (report_of before).rwa
  -- no higher than that of the deal as it then stands, without protection
  pub than_unprotected : (before after : Deal) → accepted before ≡ true → Betterments before after →
      (report_of after).rwa ≤ (report_of (without_protection after.terms)).rwa
  -- a guarantee stays one, and a swap a swap, whose restructuring goes from 0 to 1 alone (02: L1)
  pub instruments_stay : (currency : ℕ) (g g' : Guarantee) → BetterGuarantee currency g g' →
      (g'.instrument ≡ g.instrument) ⊎ ((g.instrument ≡ 1) × (g'.instrument ≡ 2))
  -- both as one claim; the same under any tables that have these laws; and the tables of every edition have them
  pub never_raised : NeverRaised
  pub under_any_tables : (table : Table) → TableLaws table → NeverRaisedUnder table
  pub every_edition : (edition : ℕ) → TableLaws (table_of edition)
