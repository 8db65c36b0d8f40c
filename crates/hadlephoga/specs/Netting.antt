-- A netting set for callers in other languages, on numbers. 02: L6. Of lists of numbers the paper says nothing; it says of a book's line that a "wrong
-- number of fields" is 11, which "comes before the operation's own refusals" (01: The book)
use Rattle.std.specs.Prelude.{ℕ, ⊤, Result, Ok, Err, ◌+◌, ◌*◌, ◌-◌, ◌/◌, Bool, List, map, eqb, drop, length, if◌then◌else◌}
use Rattle.netting.specs.Fields.{position_in, position_width, set_terms_in, set_terms_width}
use Rattle.netting.specs.Reply.{NettingReply, OwnRefusal, refused_reply, reply_sent, reply_to, set_refusal_number}
use Rattle.netting.specs.declared.position.Position.{Position}
use Rattle.netting.specs.declared.set.NettingAmounts.{NettingAmounts}
use Rattle.hadlephoga.specs.Records.{slices}
use Rattle.hadlephoga.specs.declared.sets.NumbersRefusal.{NumbersRefusal}
use Rattle.hadlephoga.specs.declared.sets.NumbersRefusal.TheVariants.{Malformed, Set}

-- the set's own fields, and behind them the numbers of its positions, one behind the other: how many positions there are
unfoldable pub position_count : List ℕ → ℕ
position_count numbers = (length numbers - set_terms_width) / position_width

-- whether no number is missing, and none too many
unfoldable pub set_complete : List ℕ → Bool
set_complete numbers = eqb (length numbers) (set_terms_width + position_count numbers * position_width)

-- the positions
unfoldable pub positions_in : List ℕ → List Position
positions_in numbers = map position_in (slices position_width (position_count numbers) (drop set_terms_width numbers))

-- the reply to the set that these numbers are; 11 where they are none
unfoldable pub netting_reply : List ℕ → NettingReply
netting_reply numbers = if set_complete numbers then reply_to (set_terms_in numbers) (position_count numbers) (positions_in numbers) else refused_reply 11

-- THE NUMBERS OF A RESULT

-- its number for each case
unfoldable pub numbers_refusal_number : NumbersRefusal → ℕ
numbers_refusal_number Malformed = 11
numbers_refusal_number (Set refusal) = set_refusal_number refusal

-- what numbers are refused for: a set by a refusal of its own, so that the number determines it
abbrev pub OwnNumbersRefusal : NumbersRefusal → Type 0
OwnNumbersRefusal Malformed = ⊤
OwnNumbersRefusal (Set refusal) = OwnRefusal refusal

-- the numbers that a result is sent as
unfoldable pub numbers_sent : Result NettingAmounts NumbersRefusal → NettingReply
numbers_sent (Ok amounts) = reply_sent (Ok amounts)
numbers_sent (Err refusal) = refused_reply (numbers_refusal_number refusal)
