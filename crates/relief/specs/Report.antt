-- Reporting a deal. 01: The four operations, Reporting a deal; 02: L2
use Rattle.std.specs.Prelude.{ℕ, not, if◌then◌else◌, Ok, Err}
use mathlib.Core.List.{List, [], ◌∷◌, map, zip_with}
use Rattle.base.specs.FirstMet.{◌when◌, first_met}
use Rattle.base.specs.Places.{in_places}
use Rattle.tables.specs.Table.{Table}
use Rattle.valuation.specs.Valuation.{no_valuation}
use Rattle.cover.specs.Cover.{portions, uncovered}
use Rattle.deal.specs.Lists.{list_limit}
use Rattle.deal.specs.Records.{accepted}
use Rattle.deal.specs.Editions.{table_for}
use Rattle.deal.specs.Views.{View, view_of}
use Rattle.deal.specs.declared.refusal.Refusal.TheVariants.{RecordNotAccepted}
use Rattle.deal.specs.declared.terms.Terms.{Terms}
use Rattle.deal.specs.declared.collateral.Collateral.{Collateral}
use Rattle.deal.specs.declared.deal.Deal.{Deal}
use Rattle.relief.specs.declared.outcome.Outcome.TheVariants.{Valued}
use Rattle.relief.specs.declared.collateral.CollateralReport.{CollateralReport}
use Rattle.relief.specs.declared.guarantee.GuaranteeReport.{GuaranteeReport}
use Rattle.relief.specs.declared.report.Report.{Report}
use Rattle.relief.specs.Collateral.{collateral_outcome}
use Rattle.relief.specs.Guarantees.{guarantee_outcome}
use Rattle.relief.specs.Exposure.{exposure_after, pieces_of, risk_weighted_amount_of}

-- "Places past a count hold value 0 and portion 0", and since 02: L2 "hold 0 in all of these"
abbrev pub no_collateral : CollateralReport
no_collateral = record { outcome = Valued no_valuation }

abbrev pub no_guarantee : GuaranteeReport
no_guarantee = record { outcome = Valued no_valuation; portion = 0 }

-- "for each item either its value or its ground", with its losses or the amount left out, in order of adding
abbrev pub collateral_report : Table → Terms → Collateral → CollateralReport
collateral_report table t c = record { outcome = collateral_outcome table t c }

abbrev pub collateral_reports : Table → View → List CollateralReport
collateral_reports table v = map (collateral_report table v.terms) v.collateral

-- and "each guarantee's portion"
abbrev pub guarantee_reports : Table → View → List GuaranteeReport
guarantee_reports table v =
    zip_with (λ g p. record { outcome = guarantee_outcome table v.terms g; portion = p }) v.guarantees (portions (exposure_after table v) (pieces_of table v))

-- of an accepted deal
unfoldable pub full_report : Table → View → Report
full_report table v = record {
  answer = Ok tt;
  exposure = exposure_after table v;
  collateral = in_places list_limit no_collateral (collateral_reports table v);
  guarantees = in_places list_limit no_guarantee (guarantee_reports table v);
  uncovered = uncovered (exposure_after table v) (pieces_of table v);
  rwa = risk_weighted_amount_of table v;
}

-- "40 is its one refusal"
unfoldable pub report_refusal : Deal → ℕ
report_refusal d = first_met (40 when not (accepted d) ∷ [])

-- "The reply is then all zeros beside the 40 and the record is unchanged": reporting is given a copy and hands none back
abbrev pub refused_report : Report
refused_report = record {
  answer = Err RecordNotAccepted;
  exposure = 0;
  collateral = in_places list_limit no_collateral [];
  guarantees = in_places list_limit no_guarantee [];
  uncovered = 0;
  rwa = 0;
}

-- the report of a deal under a table
unfoldable pub report_under : Table → Deal → Report
report_under table d = if accepted d then full_report table (view_of d) else refused_report

-- REPORTING A DEAL: what reporting gives, for every record
abbrev pub report_of : Deal → Report
report_of d = report_under (table_for d.terms) d
