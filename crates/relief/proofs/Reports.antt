-- The report of a record that is accepted and of one that is not; and a portion for each guarantee. Assumes nothing.
use Prim.Native.Nat.{ℕ}
use mathlib.Core.Path.{◌≡◌, ap}
use mathlib.Core.Bool.{true, false, not}
use mathlib.Core.List.{List, [], ◌∷◌}
use native.Mathlib.Omega.{arith}
use lib.ListN.{length, length-map}
use Rattle.base.specs.FirstMet.{◌when◌}
use Rattle.base.proofs.Choice.{if_true, if_false}
use Rattle.base.proofs.FirstMet.{none_met}
use Rattle.base.proofs.Tests.{not_false}
use Rattle.tables.specs.Table.{Table}
use Rattle.cover.specs.Cover.{portions, covered}
use Rattle.cover.proofs.Portions.{covered_length}
use Rattle.deal.specs.Records.{accepted}
use Rattle.deal.specs.Views.{View, view_of}
use Rattle.deal.specs.declared.deal.Deal.{Deal}
use Rattle.relief.specs.Guarantees.{protection_of}
use Rattle.relief.specs.Exposure.{exposure_after, pieces_of, risk_weighted_amount_of}
use Rattle.relief.specs.Report.{full_report, refused_report, report_refusal, report_under}

-- an accepted deal is not refused
pub accepted_unrefused : (d : Deal) → accepted d ≡ true → report_refusal d ≡ 0
unfolding report_refusal
accepted_unrefused d e = none_met (40 when not (accepted d) ∷ []) (not_false (accepted d) e, tt)

module _ (table : Table) (d : Deal) where
  pub report_accepted : accepted d ≡ true → report_under table d ≡ full_report table (view_of d)
  unfolding report_under
  report_accepted e = if_true (accepted d) (full_report table (view_of d)) refused_report e

  pub report_refused : accepted d ≡ false → report_under table d ≡ refused_report
  unfolding report_under
  report_refused e = if_false (accepted d) (full_report table (view_of d)) refused_report e

  -- the amounts of an accepted deal
  pub rwa_of : accepted d ≡ true → (report_under table d).rwa ≡ risk_weighted_amount_of table (view_of d)
  unfolding full_report
  rwa_of e = ap (λ r. r.rwa) (report_accepted e)

  pub exposure_of : accepted d ≡ true → (report_under table d).exposure ≡ exposure_after table (view_of d)
  unfolding full_report
  exposure_of e = ap (λ r. r.exposure) (report_accepted e)

-- Portions

module _ (table : Table) (v : View) where
  abbrev pub shares : List ℕ
  shares = portions (exposure_after table v) (pieces_of table v)

  -- a portion for each guarantee
  pub portion_each : length v.guarantees ≡ length shares
  portion_each =
      omega (
        arith,
        length-map (covered (exposure_after table v) (pieces_of table v)) (λ p. p.value),
        covered_length (exposure_after table v) (pieces_of table v),
        length-map v.guarantees (protection_of table v.terms),
      )
