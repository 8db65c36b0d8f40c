-- Parts of a book's text, the header left out, for the claims about deals that stand together in one book. 01: The book, "In an accepted
-- book no other line but the header affects its answer, save by being counted in serials and line numbers"
use Rattle.std.specs.Prelude.{ℕ, Bool, true, false, List, [], ◌∷◌, ◌⊎◌, ◌≡◌, eqb, length, take}
use Rattle.base.specs.All.{all_pass}
use Rattle.text.specs.Text.{line_feed, lines_of}
use Rattle.deal.specs.Records.{accepted}
use Rattle.deal.specs.declared.deal.Deal.{Deal}
use Rattle.book.specs.Deals.{opens_deal, deals_from}
use Rattle.book.specs.Answers.{refused_at, figures_of, answers_from}

-- how many deals a text has, whatever its first line's number; and how many lines
abbrev pub deals_in : List ℕ → ℕ
deals_in text = length (deals_from 2 (lines_of text))

abbrev pub lines_in : List ℕ → ℕ
lines_in text = length (lines_of text)

-- a text whose first line, if it has one, opens a deal
abbrev pub StartsDeal : List ℕ → Type 0
StartsDeal text = all_pass (take 1 (lines_of text)) opens_deal ≡ true

-- the answers to the deals of a text under an edition, where the first deal has this serial, and the text's first line this number
abbrev pub answers_to : ℕ → ℕ → ℕ → List ℕ → List ℕ
answers_to edition serial number text = answers_from edition serial (deals_from number (lines_of text))

-- whether a text ends in a line feed or is empty, so that what follows it starts a line
unfoldable pub ended : List ℕ → Bool
ended [] = true
ended (b ∷ []) = eqb b line_feed
ended (b ∷ c ∷ bs) = ended (c ∷ bs)

-- the second text starts a new line behind the first, or is empty
abbrev pub Parted : List ℕ → List ℕ → Type 0
Parted first second = (ended first ≡ true) ⊎ (second ≡ [])

-- what a deal is answered by: a refused line, whose refusal is not 40, or the report of an accepted deal
pub data AnsweredBy (answer : List ℕ) : Type 0 where
  by_line : (refusal number : ℕ) → answer ≡ refused_at refusal number → eqb refusal 0 ≡ false → eqb refusal 40 ≡ false → AnsweredBy answer
  by_report : (d : Deal) → accepted d ≡ true → answer ≡ figures_of d → AnsweredBy answer
