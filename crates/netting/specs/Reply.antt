-- The reply to a netting set. 02: L6
use Rattle.std.specs.Prelude.{ℕ, ◌*◌, ◌≢◌, List, Result, Ok, Err, eqb, take, if◌then◌else◌}
use Rattle.deal.specs.Answers.{refusal_number}
use Rattle.deal.specs.declared.refusal.Refusal.TheVariants.{ListFull}
use Rattle.tables.specs.Table.{table_of}
use Rattle.valuation.specs.Exposure.{risk_weighted_amount}
use Rattle.netting.specs.Exposure.{exposure_after_netting}
use Rattle.netting.specs.Refusals.{set_refusal}
use Rattle.netting.specs.declared.position.Position.{Position}
use Rattle.netting.specs.declared.refusal.SetRefusal.{SetRefusal}
use Rattle.netting.specs.declared.refusal.SetRefusal.TheVariants.{Field, SetFull, SecurityDisagrees, NotEligible, AmountsAboveLimit}
use Rattle.netting.specs.declared.set.NettingAmounts.{NettingAmounts}
use Rattle.netting.specs.declared.set.NettingSet.{NettingSet}
use Rattle.netting.specs.declared.terms.SetTerms.{SetTerms}

-- "the counterparty's weight", in the set's tables, with the sovereign floor
unfoldable pub set_weight : SetTerms → ℕ
set_weight t = (table_of t.table).counterparty_weight t.counterparty.class t.counterparty.step t.counterparty.sovereign_step

-- "The weighted amount is E* times the counterparty's weight, divided by 100 and rounded up"
unfoldable pub weighted_amount : SetTerms → List Position → ℕ
weighted_amount t ps = risk_weighted_amount (exposure_after_netting t ps * set_weight t)

-- the numbers that are sent: the refusal or 0, E* and the weighted amount
pub record NettingReply : Type 0 where
  pub refusal : ℕ
  pub exposure : ℕ
  pub rwa : ℕ

-- "A refused set gives zeros"
abbrev pub refused_reply : ℕ → NettingReply
refused_reply refusal = record { refusal = refusal; exposure = 0; rwa = 0 }

-- the reply to these terms and positions, of a set that says it has so many
unfoldable pub reply_to : SetTerms → ℕ → List Position → NettingReply
reply_to t count ps =
    if eqb (set_refusal t count ps) 0
    then record { refusal = 0; exposure = exposure_after_netting t ps; rwa = weighted_amount t ps }
    else refused_reply (set_refusal t count ps)

-- the positions of a set: the counted ones, in their order
abbrev pub positions_of : NettingSet → List Position
positions_of s = take s.count s.positions

-- NETTING A SET: the reply, for every set
unfoldable pub set_reply : NettingSet → NettingReply
set_reply s = reply_to s.terms s.count (positions_of s)

-- THE NUMBERS OF A RESULT

-- its number for each case: of a field that of a deal's
unfoldable pub set_refusal_number : SetRefusal → ℕ
set_refusal_number (Field refusal) = refusal_number refusal
set_refusal_number SetFull = 6
set_refusal_number SecurityDisagrees = 15
set_refusal_number NotEligible = 16
set_refusal_number AmountsAboveLimit = 17

-- what a set is refused for: its 6 is that of a full set, and never that of a full list of a deal, so its number determines the refusal (`refusal_unique`)
abbrev pub OwnRefusal : SetRefusal → Type 0
OwnRefusal refusal = refusal ≢ Field ListFull

-- of an answer: the number of its refusal; 0 where nothing is refused
unfoldable pub set_answer_number : {A : Type 0} → Result A SetRefusal → ℕ
set_answer_number (Ok _) = 0
set_answer_number (Err refusal) = set_refusal_number refusal

-- the numbers that a result is sent as
unfoldable pub reply_sent : Result NettingAmounts SetRefusal → NettingReply
reply_sent (Ok amounts) = record { refusal = 0; exposure = amounts.exposure; rwa = amounts.rwa }
reply_sent (Err refusal) = refused_reply (set_refusal_number refusal)
