-- What a mail program makes of a text. 02: L14, "A mail program turns tabs into spaces and adds carriage returns"
use Rattle.std.specs.Prelude.{ℕ, suc, ◌≡◌, false, List, [], ◌∷◌, ◌++◌, eqb, replicate}
use Rattle.mail.specs.OnRuns.{NotFirst}

-- the text that was sent, and what came: a tab came as one space or more, with no further space behind them; a line feed came behind any
-- number of carriage returns, or none; any other byte came as it was, a tab that the program left alone too. It speaks of no text sent with a
-- space or a carriage return of its own, and of two tabs side by side one at most came as spaces: a book whose every line can be read has
-- none of these, nor two tabs side by side
pub data Mailed : List ℕ → List ℕ → Type 0 where
  nothing : Mailed [] []
  tabbing : {sent came : List ℕ} (n : ℕ) → NotFirst 32 came → Mailed sent came → Mailed (9 ∷ sent) (replicate (suc n) 32 ++ came)
  feeding : {sent came : List ℕ} (n : ℕ) → Mailed sent came → Mailed (10 ∷ sent) (replicate n 13 ++ 10 ∷ came)
  leaving : {sent came : List ℕ} (b : ℕ) → eqb b 32 ≡ false → eqb b 13 ≡ false → Mailed sent came → Mailed (b ∷ sent) (b ∷ came)
