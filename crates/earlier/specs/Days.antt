-- Opening, adding, reporting and answering with the limit of days as an argument, and the days that the limit is of. 02: L11
use Rattle.std.specs.Prelude.{ℕ, Bool, true, ◌&&◌, List, [], ◌∷◌, leb}
use Rattle.base.specs.All.{all_pass}
use Rattle.deal.specs.Views.{view_of}
use Rattle.deal.specs.declared.terms.Terms.{Terms}
use Rattle.deal.specs.declared.collateral.Collateral.{Collateral}
use Rattle.deal.specs.declared.guarantee.Guarantee.{Guarantee}
use Rattle.deal.specs.declared.deal.Deal.{Deal}
use Rattle.relief.specs.declared.report.Report.{Report}
use Rattle.lines.specs.Lines.{line_of}
use Rattle.lines.specs.declared.line.Line.{Line}
use Rattle.lines.specs.declared.line.Line.TheVariants.{DealLine, CollateralLine, GuaranteeLine, Malformed}
use Rattle.book.specs.Deals.{DealLines}
use Rattle.earlier.specs.Books.{deal_answer_by, printed_by, results_by}
use Rattle.earlier.specs.Deals.{accepted_by, add_collateral_refusal_by, add_guarantee_refusal_by, deal_opened_by, report_by, report_refusal_by, terms_refusal_by, with_collateral_by, with_guarantee_by}
use Rattle.earlier.specs.Rules.{up_to}

abbrev pub terms_refusal_up_to : ℕ → Terms → ℕ
terms_refusal_up_to limit = terms_refusal_by (up_to limit)

abbrev pub opened_up_to : ℕ → Terms → Deal
opened_up_to limit = deal_opened_by (up_to limit)

abbrev pub accepted_up_to : ℕ → Deal → Bool
accepted_up_to limit = accepted_by (up_to limit)

abbrev pub add_collateral_refusal_up_to : ℕ → Deal → Collateral → ℕ
add_collateral_refusal_up_to limit = add_collateral_refusal_by (up_to limit)

abbrev pub add_guarantee_refusal_up_to : ℕ → Deal → Guarantee → ℕ
add_guarantee_refusal_up_to limit = add_guarantee_refusal_by (up_to limit)

abbrev pub with_collateral_up_to : ℕ → Deal → Collateral → Deal
with_collateral_up_to limit = with_collateral_by (up_to limit)

abbrev pub with_guarantee_up_to : ℕ → Deal → Guarantee → Deal
with_guarantee_up_to limit = with_guarantee_by (up_to limit)

abbrev pub report_refusal_up_to : ℕ → Deal → ℕ
report_refusal_up_to limit = report_refusal_by (up_to limit)

abbrev pub report_up_to : ℕ → Deal → Report
report_up_to limit = report_by (up_to limit)

-- in a book headed by an edition
abbrev pub deal_answer_up_to : ℕ → ℕ → DealLines → List ℕ
deal_answer_up_to limit = deal_answer_by (up_to limit)

abbrev pub results_up_to : ℕ → List ℕ → List ℕ → List ℕ
results_up_to limit = results_by (up_to limit)

abbrev pub printed_up_to : ℕ → List ℕ → List ℕ
printed_up_to limit = printed_by (up_to limit)

-- THE DAYS THAT THE LIMIT IS OF: issue life of goods lent and pledged, the deal's residual term, both terms of an item

abbrev pub terms_days : Terms → List ℕ
terms_days t = t.residual ∷ t.lent.life ∷ []

abbrev pub collateral_days : Collateral → List ℕ
collateral_days c = c.residual ∷ c.original ∷ c.asset.life ∷ []

abbrev pub guarantee_days : Guarantee → List ℕ
guarantee_days g = g.residual ∷ g.original ∷ []

-- none of them above a limit
abbrev pub none_above : ℕ → List ℕ → Bool
none_above limit days = all_pass days (λ n. leb n limit)

-- neither in the terms of a deal nor in a counted item
abbrev pub deal_none_above : ℕ → Deal → Bool
deal_none_above limit d =
    none_above limit (terms_days d.terms)
    && all_pass (view_of d).collateral (λ c. none_above limit (collateral_days c))
    && all_pass (view_of d).guarantees (λ g. none_above limit (guarantee_days g))

-- whether a line holds no term or life above a limit; a line that cannot be read holds none
unfoldable pub line_none_above : ℕ → Line → Bool
line_none_above limit (DealLine terms) = none_above limit (terms_days terms)
line_none_above limit (CollateralLine c) = none_above limit (collateral_days c)
line_none_above limit (GuaranteeLine g) = none_above limit (guarantee_days g)
line_none_above limit Malformed = true

-- no line of a list holds one, in a book headed by this edition
abbrev pub lines_none_above : ℕ → ℕ → List (List ℕ) → Bool
lines_none_above limit edition lines = all_pass lines (λ line. line_none_above limit (line_of edition line))

-- no line of a deal holds one
abbrev pub deal_lines_none_above : ℕ → ℕ → DealLines → Bool
deal_lines_none_above limit edition deal = lines_none_above limit edition (deal.opening ∷ deal.further)
