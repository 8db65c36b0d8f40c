-- The answers to a book by a set of rules. Each follows the definition that it is named after (`answers_by` of `answers_from`, `results_by` of
-- `results_after`); by the rules in force it is proved to be that one (proofs/Now)
use Rattle.std.specs.Prelude.{ℕ, ◌+◌, ◌*◌, not, List, [], ◌∷◌, ◌++◌, eqb, ltb, length, take, if◌then◌else◌}
use Rattle.base.specs.All.{all_pass}
use Rattle.base.specs.FirstMet.{Test, ◌when◌, first_met}
use Rattle.base.specs.Writing.{overwrite}
use Rattle.text.specs.Text.{book_limit, first_line}
use Rattle.deal.specs.declared.deal.Deal.{Deal}
use Rattle.lines.specs.declared.line.Line.{Line}
use Rattle.lines.specs.declared.line.Line.TheVariants.{DealLine, CollateralLine, GuaranteeLine, Malformed}
use Rattle.book.specs.Answers.{malformed_line, no_deal, refused_at}
use Rattle.book.specs.Book.{deals_of, lines_behind}
use Rattle.book.specs.Deals.{DealLines, opens_deal}
use Rattle.book.specs.Heading.{edition_of, is_wrong}
use Rattle.book.specs.Book.{BookReply}
use Rattle.result.specs.Result.{result_text}
use Rattle.response.specs.Response.{places}
use Rattle.earlier.specs.Deals.{add_collateral_refusal_by, add_guarantee_refusal_by, deal_opened_by, report_by, report_refusal_by, terms_refusal_by, with_collateral_by, with_guarantee_by}
use Rattle.earlier.specs.Rules.{Rules}

-- A deal of a book

unfoldable pub opening_refusal_by : Rules → Line → ℕ
opening_refusal_by rules (DealLine terms) = terms_refusal_by rules terms
opening_refusal_by rules (CollateralLine c) = malformed_line
opening_refusal_by rules (GuaranteeLine g) = malformed_line
opening_refusal_by rules Malformed = malformed_line

unfoldable pub line_opened_by : Rules → Line → Deal
line_opened_by rules (DealLine terms) = deal_opened_by rules terms
line_opened_by rules (CollateralLine c) = no_deal
line_opened_by rules (GuaranteeLine g) = no_deal
line_opened_by rules Malformed = no_deal

unfoldable pub line_refusal_by : Rules → Deal → Line → ℕ
line_refusal_by rules d (CollateralLine c) = add_collateral_refusal_by rules d c
line_refusal_by rules d (GuaranteeLine g) = add_guarantee_refusal_by rules d g
line_refusal_by rules d (DealLine terms) = malformed_line
line_refusal_by rules d Malformed = malformed_line

unfoldable pub with_line_by : Rules → Deal → Line → Deal
with_line_by rules d (CollateralLine c) = with_collateral_by rules d c
with_line_by rules d (GuaranteeLine g) = with_guarantee_by rules d g
with_line_by rules d (DealLine terms) = d
with_line_by rules d Malformed = d

unfoldable pub reported_by : Rules → ℕ → Deal → List ℕ
reported_by rules opening d =
    if eqb (report_refusal_by rules d) 0
    then 0 ∷ (report_by rules d).exposure ∷ (report_by rules d).rwa ∷ []
    else refused_at (report_refusal_by rules d) opening

unfoldable pub lines_answer_by : Rules → ℕ → ℕ → Deal → List (List ℕ) → List ℕ
lines_answer_by rules opening number d [] = reported_by rules opening d
lines_answer_by rules opening number d (line ∷ lines) =
    let said = rules.line d.terms.edition line in
    let refusal = line_refusal_by rules d said in
    if eqb refusal 0 then lines_answer_by rules opening (number + 1) (with_line_by rules d said) lines else refused_at refusal number

-- the three numbers of a deal's answer
unfoldable pub deal_answer_by : Rules → ℕ → DealLines → List ℕ
deal_answer_by rules edition deal =
    let line = rules.line edition deal.opening in
    if eqb (opening_refusal_by rules line) 0
    then lines_answer_by rules deal.number (deal.number + 1) (line_opened_by rules line) deal.further
    else refused_at (opening_refusal_by rules line) deal.number

unfoldable pub answers_by : Rules → ℕ → ℕ → List DealLines → List ℕ
answers_by rules edition serial [] = []
answers_by rules edition serial (deal ∷ deals) = serial ∷ (deal_answer_by rules edition deal ++ answers_by rules edition (serial + 1) deals)

-- A book

abbrev pub edition_by : Rules → List ℕ → ℕ
edition_by rules book = edition_of (rules.heading (first_line book))

unfoldable pub book_tests_by : Rules → List ℕ → ℕ → List (Test ℕ)
book_tests_by rules book places =
    10 when ltb book_limit (length book)
    ∷ 9 when is_wrong (rules.heading (first_line book))
    ∷ 12 when not (all_pass (take 1 (lines_behind book)) opens_deal)
    ∷ 13 when ltb places (4 * length (deals_of book))
    ∷ []

unfoldable pub book_refusal_by : Rules → List ℕ → ℕ → ℕ
book_refusal_by rules book places = first_met (book_tests_by rules book places)

unfoldable pub answered_deals_by : Rules → List ℕ → ℕ → List DealLines
answered_deals_by rules book places = if eqb (book_refusal_by rules book places) 0 then deals_of book else []

unfoldable pub book_reply_by : Rules → List ℕ → ℕ → BookReply
book_reply_by rules book places = record { refusal = book_refusal_by rules book places; deals = length (answered_deals_by rules book places) }

-- the results list after a book, and what is printed for it
unfoldable pub results_by : Rules → List ℕ → List ℕ → List ℕ
results_by rules book list = overwrite (answers_by rules (edition_by rules book) 1 (answered_deals_by rules book (length list))) list

unfoldable pub printed_by : Rules → List ℕ → List ℕ
printed_by rules book =
    let deals = answered_deals_by rules book places in
    result_text (book_refusal_by rules book places) (length deals) (answers_by rules (edition_by rules book) 1 deals)
