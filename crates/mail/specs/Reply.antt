-- The reply to a mailed book, and both lent lists afterwards. 02: L14
use Rattle.std.specs.Prelude.{ℕ, ◌≡◌, List, [], ◌∷◌, Result, Ok, Err, eqb, ltb, length, if◌then◌else◌}
use Rattle.base.specs.FirstMet.{Test, ◌when◌, first_met}
use Rattle.base.specs.Writing.{overwrite}
use Rattle.text.specs.Text.{book_limit}
use Rattle.mail.specs.Mail.{repaired, altered_lines}
use Rattle.mail.specs.declared.Repaired.{Repaired}
use Rattle.mail.specs.declared.RepairRefusal.{RepairRefusal}
use Rattle.mail.specs.declared.RepairRefusal.TheVariants.{TooLong, BufferTooShort, ListTooShort}

-- "10 as for a book; 20 the second buffer is shorter than the result; 41 the list is shorter than the altered lines". `room` is
-- how many bytes the second buffer holds, `places` how many numbers the list does
unfoldable pub repair_tests : List ℕ → ℕ → ℕ → List (Test ℕ)
repair_tests book room places =
    10 when ltb book_limit (length book)
    ∷ 20 when ltb room (length (repaired book))
    ∷ 41 when ltb places (length (altered_lines book))
    ∷ []

-- the first one met, or 0
unfoldable pub repair_refusal : List ℕ → ℕ → ℕ → ℕ
repair_refusal book room places = first_met (repair_tests book room places)

-- what is written: nothing of a refused book
unfoldable pub unless_refused : ℕ → List ℕ → List ℕ
unless_refused refusal written = if eqb refusal 0 then written else []

-- to the second buffer, and to the list
abbrev pub bytes_written : List ℕ → ℕ → ℕ → List ℕ
bytes_written book room places = unless_refused (repair_refusal book room places) (repaired book)

abbrev pub numbers_written : List ℕ → ℕ → ℕ → List ℕ
numbers_written book room places = unless_refused (repair_refusal book room places) (altered_lines book)

-- a reply as it is sent: the refusal, or 0; how many bytes the repaired book has, and how many lines were altered, both 0 where it is refused
pub record RepairReply : Type 0 where
  pub refusal : ℕ
  pub bytes : ℕ
  pub lines : ℕ

-- the reply where it is refused
abbrev pub refused_reply : ℕ → RepairReply
refused_reply refusal = record { refusal = refusal; bytes = 0; lines = 0 }

-- the number that a refusal is sent as
unfoldable pub refusal_number : RepairRefusal → ℕ
refusal_number TooLong = 10
refusal_number BufferTooShort = 20
refusal_number ListTooShort = 41

-- and the reply that a result is sent as
unfoldable pub reply_sent : Result Repaired RepairRefusal → RepairReply
reply_sent (Ok repaired) = record { refusal = 0; bytes = repaired.bytes; lines = repaired.lines }
reply_sent (Err refusal) = refused_reply (refusal_number refusal)

-- REPAIRING A BOOK. "It gives both lengths, 0 when refused"
unfoldable pub repair_reply : List ℕ → ℕ → ℕ → RepairReply
repair_reply book room places =
    record {
      refusal = repair_refusal book room places;
      bytes = length (bytes_written book room places);
      lines = length (numbers_written book room places);
    }

-- the second buffer afterwards, and the list: "writes nothing behind them"; "both buffers are then untouched", which is said of these two
unfoldable pub buffer_after : List ℕ → List ℕ → ℕ → List ℕ
buffer_after book buffer places = overwrite (bytes_written book (length buffer) places) buffer

unfoldable pub numbers_after : List ℕ → ℕ → List ℕ → List ℕ
numbers_after book room list = overwrite (numbers_written book room (length list)) list

-- the reply, and both afterwards
pub record RepairOutcome (book buffer list : List ℕ) (reply : RepairReply) (buffer' list' : List ℕ) : Type 0 where
  pub replied : reply ≡ repair_reply book (length buffer) (length list)
  pub written : buffer' ≡ buffer_after book buffer (length list)
  pub numbered : list' ≡ numbers_after book (length buffer) list
