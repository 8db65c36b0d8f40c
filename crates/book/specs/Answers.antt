-- The answers to the deals of a book. 01: The book; Adding an item, "A refused line leaves the deal as it was before it"; 02: L5, "Opening is
-- given what the header says with the deal's own fields"
use Rattle.std.specs.Prelude.{ℕ, ◌+◌, List, [], ◌∷◌, ◌++◌, eqb, if◌then◌else◌}
use Rattle.deal.specs.Fields.{zero_terms}
use Rattle.deal.specs.Terms.{terms_refusal}
use Rattle.deal.specs.Opening.{opened_deal}
use Rattle.deal.specs.Adding.{add_collateral_refusal, with_collateral, add_guarantee_refusal, with_guarantee}
use Rattle.deal.specs.declared.deal.Deal.{Deal}
use Rattle.relief.specs.Report.{report_of, report_refusal}
use Rattle.lines.specs.Lines.{line_of}
use Rattle.lines.specs.declared.line.Line.{Line}
use Rattle.lines.specs.declared.line.Line.TheVariants.{DealLine, CollateralLine, GuaranteeLine, Malformed}
use Rattle.book.specs.Deals.{DealLines}

-- "Refusal 11: unknown letter, wrong number of fields, bad number, or no line feed. It comes before the operation's own refusals."
abbrev pub malformed_line : ℕ
malformed_line = 11

-- how the line that opens a deal is refused, or 0. It begins with D and a tab, so it never reads as a line C, G or S
unfoldable pub opening_refusal : Line → ℕ
opening_refusal (DealLine terms) = terms_refusal terms
opening_refusal (CollateralLine c) = malformed_line
opening_refusal (GuaranteeLine g) = malformed_line
opening_refusal Malformed = malformed_line

-- a record of zeros, where a refusal gives no deal
abbrev pub no_deal : Deal
no_deal = opened_deal (zero_terms)

-- the deal it opens
unfoldable pub opened_by : Line → Deal
opened_by (DealLine terms) = opened_deal terms
opened_by (CollateralLine c) = no_deal
opened_by (GuaranteeLine g) = no_deal
opened_by Malformed = no_deal

-- how a further line of the deal is refused, or 0. It never reads as a line D, which would open the next deal
unfoldable pub line_refusal : Deal → Line → ℕ
line_refusal d (CollateralLine c) = add_collateral_refusal d c
line_refusal d (GuaranteeLine g) = add_guarantee_refusal d g
line_refusal d (DealLine terms) = malformed_line
line_refusal d Malformed = malformed_line

-- the deal after that line
unfoldable pub with_line : Deal → Line → Deal
with_line d (CollateralLine c) = with_collateral d c
with_line d (GuaranteeLine g) = with_guarantee d g
with_line d (DealLine terms) = d
with_line d Malformed = d

-- the three numbers behind a serial: "refusal or 0; E*, or the refused line's number ..; weighted amount, or 0"
unfoldable pub refused_at : ℕ → ℕ → List ℕ
refused_at refusal number = refusal ∷ number ∷ 0 ∷ []

-- the figures of a deal's report
abbrev pub figures_of : Deal → List ℕ
figures_of d = 0 ∷ (report_of d).exposure ∷ (report_of d).rwa ∷ []

-- of a deal that the line with this number opened: where reporting refuses, that is said of this line, and never happens in a book
-- (`each_answered`, crates/book_laws)
unfoldable pub reported : ℕ → Deal → List ℕ
reported opening d = if eqb (report_refusal d) 0 then figures_of d else refused_at (report_refusal d) opening

-- "A deal with a refused line is answered by the first one": a deal opened by the line with the first number, and the lines that follow,
-- the first of which has the second. They read by the edition that the deal holds
unfoldable pub lines_answer : ℕ → ℕ → Deal → List (List ℕ) → List ℕ
lines_answer opening number d [] = reported opening d
lines_answer opening number d (line ∷ lines) =
    let said = line_of d.terms.edition line in
    let refusal = line_refusal d said in
    if eqb refusal 0 then lines_answer opening (number + 1) (with_line d said) lines else refused_at refusal number

-- in a book headed by this edition, the line that opens it, then its further lines
unfoldable pub deal_answer : ℕ → DealLines → List ℕ
deal_answer edition deal =
    let line = line_of edition deal.opening in
    if eqb (opening_refusal line) 0
    then lines_answer deal.number (deal.number + 1) (opened_by line) deal.further
    else refused_at (opening_refusal line) deal.number

-- "The four numbers: serial from 1; .."
unfoldable pub answers_from : ℕ → ℕ → List DealLines → List ℕ
answers_from edition serial [] = []
answers_from edition serial (deal ∷ deals) = serial ∷ (deal_answer edition deal ++ answers_from edition (serial + 1) deals)
