-- The parts of a report, as the code puts them together. Assumes nothing.
use Prim.Native.Nat.{ℕ}
use mathlib.Core.Path.{ap, ◌≡◌, sym, ◌∙◌}
use mathlib.Core.List.{List, map, zip_with}
use lib.ListN.{length, take, length-map}
use Rattle.base.specs.Places.{in_places}
use Rattle.base.proofs.Places.{taken, zip_map}
use Rattle.tables.specs.Table.{Table}
use Rattle.cover.specs.Cover.{cover_of}
use Rattle.cover.specs.declared.protection.Protection.{Protection}
use Rattle.deal.specs.Views.{View}
use Rattle.std.specs.Prelude.{Result, ⊤}
use Rattle.deal.specs.declared.refusal.Refusal.{Refusal}
use Rattle.relief.specs.declared.collateral.CollateralReport.{CollateralReport}
use Rattle.relief.specs.declared.guarantee.GuaranteeReport.{GuaranteeReport}
use Rattle.relief.specs.declared.report.Report.{Report}
use Rattle.relief.specs.Report.{no_guarantee, guarantee_reports}
use Rattle.relief.specs.Portions.{without_portion, covering}
use Rattle.relief.proofs.Reports.{portion_each, shares}

-- the guarantees' outcomes and their portions, place by place
module _ (table : Table) (v : View) (n : ℕ) (long : length v.guarantees ≡ n) where
  values_long : length (map (without_portion table v.terms) v.guarantees) ≡ n
  values_long = length-map v.guarantees (without_portion table v.terms) ∙ long

  shares_long : length (shares table v) ≡ n
  shares_long = sym (portion_each table v) ∙ long

  pub guarantees_assembled : (values : List GuaranteeReport) (given : List ℕ) → values ≡ in_places 16 no_guarantee (map (without_portion table v.terms) v.guarantees) →
      given ≡ in_places 16 0 (shares table v) →
      in_places 16 no_guarantee (zip_with covering (take n values) (take n given)) ≡ in_places 16 no_guarantee (guarantee_reports table v)
  guarantees_assembled values given e s =
      rw (e, s, taken 16 n no_guarantee (map (without_portion table v.terms) v.guarantees) values_long, taken 16 n 0 (shares table v) shares_long)
      (ap (in_places 16 no_guarantee) (zip_map covering (without_portion table v.terms) v.guarantees (shares table v)))

-- reports that agree in every part
pub same_report :
    (a : Result ⊤ Refusal) {E E' : ℕ} {cs cs' : List CollateralReport} {gs gs' : List GuaranteeReport} {r r' w w' : ℕ} → E ≡ E' → cs ≡ cs' → gs ≡ gs' → r ≡ r' → w ≡ w' →
    ◌≡◌ {A = Report} (record { answer = a; exposure = E; collateral = cs; guarantees = gs; uncovered = r; rwa = w }) (record { answer = a; exposure = E'; collateral = cs'; guarantees = gs'; uncovered = r'; rwa = w' })
same_report a e c g r w = rw (e, c, g, r, w)

pub same_cover : {W W' E E' : ℕ} {ps ps' : List Protection} → W ≡ W' → E ≡ E' → ps ≡ ps' → cover_of W E ps ≡ cover_of W' E' ps'
same_cover w e p = rw (w, e, p)
