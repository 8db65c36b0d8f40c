-- What a lent list holds after reporting, whatever the numbers: each figure of a report in its place, and nothing else. Assumes nothing.
use Prim.Native.Nat.{ℕ, ◌≤◌}
use mathlib.Core.Path.{◌≡◌, refl}
use mathlib.Core.List.{List, [], ◌∷◌, ◌++◌}
use mathlib.Core.Logic.{◌≢◌}
use lib.ListN.{length, replicate}
use borrow.Author.Tests.{eq-eqb, le-ltb, ne_eqb}
use Rattle.base.specs.Writing.{overwrite}
use Rattle.base.proofs.Choice.{if_false, if_true}
use Rattle.deal.specs.Answers.{answer_number, refusal_number}
use Rattle.relief.specs.Grounds.{ground_number}
use Rattle.relief.specs.Outcomes.{outcome_ground, outcome_left_out, outcome_valuation}
use Rattle.relief.specs.Report.{refused_report, report_of}
use Rattle.relief.specs.declared.ground.Ground.{Ground}
use Rattle.relief.specs.declared.outcome.Outcome.{Outcome}
use Rattle.relief.specs.declared.outcome.Outcome.TheVariants.{LeftOut, Valued}
use Rattle.relief.specs.declared.report.Report.{Report}
use Rattle.relief.proofs.Computed.{computed}
use Rattle.hadlephoga.specs.Records.{deal_in, in_order, record_length, slices}
use Rattle.hadlephoga.specs.Reports.{guarantee_numbers, list_after, outcome_numbers, report_in, report_length, report_numbers, reporting_refusal}

-- an item that is valued, one that is left out, and a guarantee's portion behind either
pub valued_in_place : (value haircut maturity cut : ℕ) →
    outcome_numbers (Valued (record { value = value; haircut_loss = haircut; maturity_loss = maturity; cut_loss = cut })) ≡ value ∷ 0 ∷ haircut ∷ maturity ∷ cut ∷ 0 ∷ []
unfolding outcome_valuation outcome_ground outcome_left_out
valued_in_place value haircut maturity cut = refl

pub left_out_in_place : (ground : Ground) (amount : ℕ) → outcome_numbers (LeftOut ground amount) ≡ 0 ∷ ground_number ground ∷ 0 ∷ 0 ∷ 0 ∷ amount ∷ []
unfolding outcome_valuation outcome_ground outcome_left_out
left_out_in_place ground amount = refl

pub portion_in_place : (o : Outcome) (portion : ℕ) → guarantee_numbers (record { outcome = o; portion = portion }) ≡ outcome_numbers o ++ (portion ∷ [])
portion_in_place o portion = refl

-- one behind the other, in a list of any length
pub in_order_none : {A : Type 0} (f : A → List ℕ) → in_order f [] ≡ []
unfolding in_order
in_order_none f = refl

pub in_order_each : {A : Type 0} (f : A → List ℕ) (x : A) (xs : List A) → in_order f (x ∷ xs) ≡ f x ++ in_order f xs
unfolding in_order
in_order_each f x xs = refl

-- a report, and one that is refused
pub parts_in_place : (r : Report) →
    report_numbers r
    ≡ (r.exposure ∷ []) ++ in_order (λ c. outcome_numbers c.outcome) r.collateral ++ in_order guarantee_numbers r.guarantees ++ (r.uncovered ∷ []) ++ (r.rwa ∷ [])
unfolding report_numbers
parts_in_place r = refl

refused_zeros : report_numbers refused_report ≡ replicate report_length 0
unfolding report_numbers in_order outcome_valuation outcome_ground outcome_left_out
refused_zeros = refl

-- THE LIST HOLDS THE REPORT OF THE RECORD, accepted or not, from its front, where it has the places, and the answer is the report's
pub list_reported : (numbers before : List ℕ) → length numbers ≡ record_length → report_length ≤ length before →
    list_after numbers before ≡ overwrite (report_numbers (report_of (deal_in numbers))) before
unfolding list_after report_in
list_reported numbers before e h =
    rw (if_true _ (report_of (deal_in numbers)) _ (eq-eqb (length numbers) record_length e)) (if_false _ _ _ (le-ltb (length before) report_length h))

pub answer_reported : (numbers : List ℕ) (places : ℕ) → length numbers ≡ record_length → report_length ≤ places →
    reporting_refusal numbers places ≡ answer_number (report_of (deal_in numbers)).answer
unfolding reporting_refusal report_in
answer_reported numbers places e h =
    rw (if_true _ (report_of (deal_in numbers)) refused_report (eq-eqb (length numbers) record_length e)) (if_false _ _ _ (le-ltb places report_length h))

-- numbers that are no record: 40, and the zeros of a refused report
pub list_no_record : (numbers before : List ℕ) → length numbers ≢ record_length → report_length ≤ length before →
    list_after numbers before ≡ overwrite (report_numbers refused_report) before
unfolding list_after report_in
list_no_record numbers before e h =
    rw (if_false _ (report_of (deal_in numbers)) _ (ne_eqb (length numbers) record_length e)) (if_false _ _ _ (le-ltb (length before) report_length h))

pub answer_no_record : (numbers : List ℕ) (places : ℕ) → length numbers ≢ record_length → report_length ≤ places → reporting_refusal numbers places ≡ 40
unfolding reporting_refusal report_in answer_number refusal_number
answer_no_record numbers places e h =
    rw (if_false _ (report_of (deal_in numbers)) refused_report (ne_eqb (length numbers) record_length e)) (if_false _ _ _ (le-ltb places report_length h))

-- so is a record of zeros
zeros_reported : (reporting_refusal (replicate 366 0) 212 ≡ 40) × (list_after (replicate 366 0) (replicate 212 7) ≡ replicate 211 0 ++ 7 ∷ [])
unfolding computed reporting_refusal list_after report_numbers report_in deal_in slices in_order answer_number refusal_number
zeros_reported = (refl, refl)
