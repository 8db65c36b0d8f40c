-- BOOKS THAT CAME BY MAIL. 02: L14, "A mail program turns tabs into spaces and adds carriage returns. Make a tool that reads a book, turns each run of
-- spaces into one tab, drops every carriage return of a run that ends at a line feed, and writes the book to a second buffer with the numbers of
-- the lines it altered, rising, each once. It gives both lengths, 0 when refused, and writes nothing behind them. A book with neither is copied with an
-- empty list, and the tool run on its own output alters nothing. (In this order: 10 as for a book; 20 the second buffer is shorter than the result; 41 the
-- list is shorter than the altered lines; both buffers are then untouched.)"
--
-- The contract of `mail::repair_book` asks nothing of the caller. It says that the reply, the second buffer at exit and the list at exit are
-- `repair_reply`, `buffer_after` and `numbers_after`, as the record `RepairOutcome` (`outcome`). That of `hadlephoga::hadlephoga_repair_book` says the same of its
-- numbers. That of `repairing::respond` says that `book_written` and `notice_written` stand at the front of its buffers, which `crmrepair` writes to standard
-- output and standard error. Bytes are numbers: 32 is a space, 9 a tab, 13 a carriage return, 10 a line feed.
use Rattle.std.specs.Prelude.{ℕ, suc, ◌+◌, ◌<◌, ◌≤◌, ◌≡◌, true, false, not, ◌&&◌, List, [], ◌∷◌, ◌++◌, map, eqb, leb, ltb, drop, get_or, length, replicate}
use Rattle.base.specs.All.{all_pass}
use Rattle.base.specs.FirstMet.{ExactFor, ◌when◌}
use Rattle.text.specs.Bytes.{bytes}
use Rattle.text.specs.Decimal.{decimal}
use Rattle.text.specs.Text.{lines_of}
use Rattle.result.specs.List.{number_lines}
use Rattle.result.specs.Numbers.{number_text}
use Rattle.response.specs.Response.{printed}
use Rattle.mail.specs.Feeds.{feeds}
use Rattle.mail.specs.Listed.{listed}
use Rattle.mail.specs.Mail.{altered_lines, repaired}
use Rattle.mail.specs.Mailed.{Mailed}
use Rattle.mail.specs.OnRuns.{OnRuns}
use Rattle.mail.specs.Reply.{RepairOutcome, RepairReply, buffer_after, numbers_after, repair_refusal, repair_reply}
use Rattle.repairing.specs.Repairing.{book_written, notice_written}

pub record MailedBooks : Type 0 where
  -- EACH RUN

  -- of no bytes there are none; each run of spaces, of one or of many, becomes one tab; every carriage return of a run that ends at a line feed goes; a
  -- run of them that ends at another byte, or where the text ends, stays, and so does every other byte. An empty text reads as 0 at its first place
  pub of_nothing : repaired [] ≡ []
  pub spaces : (n : ℕ) (rest : List ℕ) → eqb (get_or rest 0 0) 32 ≡ false → repaired (replicate (suc n) 32 ++ rest) ≡ 9 ∷ repaired rest
  pub returns : (n : ℕ) (rest : List ℕ) → repaired (replicate n 13 ++ 10 ∷ rest) ≡ 10 ∷ repaired rest
  pub returns_stay : (n : ℕ) (rest : List ℕ) → eqb (get_or rest 0 0) 13 ≡ false → eqb (get_or rest 0 0) 10 ≡ false →
      repaired (replicate n 13 ++ rest) ≡ replicate n 13 ++ repaired rest
  pub others : (b : ℕ) (rest : List ℕ) → eqb b 32 ≡ false → eqb b 13 ≡ false → repaired (b ∷ rest) ≡ b ∷ repaired rest
  -- these five (mail/specs/OnRuns) say it of every text: one function alone does so
  pub runs : OnRuns repaired
  pub only : (f : List ℕ → List ℕ) → OnRuns f → (text : List ℕ) → f text ≡ repaired text
  -- so what a mail program did to a book whose every line can be read (mail/specs/Mailed says what it did) is undone ..
  pub undone : {sent came : List ℕ} → Mailed sent came → repaired came ≡ sent
  -- .. and that is said of every text whose repair has no carriage return: each could have been made by mail from its repair ..
  pub made_by_mail : (came : List ℕ) → ((i : ℕ) → eqb (get_or (repaired came) i 0) 13 ≡ false) → Mailed (repaired came) came
  -- .. and where what came has 65,536 bytes at most, the pipe in `crmrepair < came | crmbook` hands on what was sent, so it prints what `crmbook < sent` does
  -- (`printed`, by the contract of `response::respond`)
  pub handed_on : {sent came : List ℕ} → Mailed sent came → length came ≤ 65536 → book_written came ≡ sent
  pub answered : {sent came : List ℕ} → Mailed sent came → length came ≤ 65536 → printed (book_written came) ≡ printed sent
  -- THE LINES IT ALTERED

  -- what lines are: none of no bytes, each up to its line feed and with it, the last one perhaps without
  pub no_lines : lines_of [] ≡ []
  pub fed_line : (line rest : List ℕ) → all_pass line (λ b. not (eqb b 10)) ≡ true → lines_of (line ++ 10 ∷ rest) ≡ (line ++ 10 ∷ []) ∷ lines_of rest
  pub last_line : (b : ℕ) (bs : List ℕ) → all_pass (b ∷ bs) (λ b. not (eqb b 10)) ≡ true → lines_of (b ∷ bs) ≡ (b ∷ bs) ∷ []
  -- a line is in the list exactly if its bytes differ afterwards; the first one is line 1
  pub in_the_list : (text : List ℕ) (i : ℕ) → i < length (lines_of text) →
      (listed (1 + i) (altered_lines text) ≡ true → get_or (lines_of (repaired text)) i [] ≡ get_or (lines_of text) i [] → ⊥)
      × ((get_or (lines_of (repaired text)) i [] ≡ get_or (lines_of text) i [] → ⊥) → listed (1 + i) (altered_lines text) ≡ true)
  -- rising, each once, none below 1 and none above the count of lines, of which there are no more than bytes
  pub rising : (text : List ℕ) (i j : ℕ) → i < j → j < length (altered_lines text) → get_or (altered_lines text) i 0 < get_or (altered_lines text) j 0
  pub none_below : (text : List ℕ) (i : ℕ) → i < length (altered_lines text) → 1 ≤ get_or (altered_lines text) i 0
  pub none_past : (text : List ℕ) (k : ℕ) → length (lines_of text) < k → listed k (altered_lines text) ≡ false
  pub few_lines : (text : List ℕ) → length (lines_of text) ≤ length text
  -- line feeds are neither made nor lost, so line numbers are the same before and after: the lines are repaired one by one. What `feeds` counts:
  pub feeds_none : feeds [] ≡ 0
  pub feeds_more : (rest : List ℕ) → feeds (10 ∷ rest) ≡ suc (feeds rest)
  pub feeds_same : (b : ℕ) (rest : List ℕ) → eqb b 10 ≡ false → feeds (b ∷ rest) ≡ feeds rest
  pub feeds_kept : (text : List ℕ) → feeds (repaired text) ≡ feeds text
  pub lines_kept : (text : List ℕ) → length (lines_of (repaired text)) ≡ length (lines_of text)
  pub line_by_line : (text : List ℕ) → lines_of (repaired text) ≡ map repaired (lines_of text)
  -- "A BOOK WITH NEITHER IS COPIED WITH AN EMPTY LIST, AND THE TOOL RUN ON ITS OWN OUTPUT ALTERS NOTHING"

  -- no place holds a space, and none a carriage return with a line feed right behind it; whatever the list, one without places too
  pub copied : (book buffer list : List ℕ) →
      ((i : ℕ) → eqb (get_or book i 0) 32 ≡ false) → ((i : ℕ) → (eqb (get_or book i 0) 13 && eqb (get_or book (suc i) 0) 10) ≡ false) →
      length book ≤ 65536 → length book ≤ length buffer →
      RepairOutcome book buffer list (record { refusal = 0; bytes = length book; lines = 0 }) (book ++ drop (length book) buffer) list
  -- and no other is copied
  pub copied_only : (text : List ℕ) → repaired text ≡ text →
      ((i : ℕ) → eqb (get_or text i 0) 32 ≡ false) × ((i : ℕ) → (eqb (get_or text i 0) 13 && eqb (get_or text (suc i) 0) 10) ≡ false)
  pub again : (book buffer list : List ℕ) → length book ≤ 65536 → length (repaired book) ≤ length buffer →
      RepairOutcome (repaired book) buffer list (record { refusal = 0; bytes = length (repaired book); lines = 0 })
      (repaired book ++ drop (length (repaired book)) buffer) list
  -- REFUSALS, each exactly where it is due

  pub due : (book : List ℕ) (room places : ℕ) →
      ExactFor (repair_refusal book room places)
      (10 when ltb 65536 (length book) ∷ 20 when ltb room (length (repaired book)) ∷ 41 when ltb places (length (altered_lines book)) ∷ [])
  -- a refused book: its number, 0 and 0, and both as they were
  pub refused : (book buffer list : List ℕ) → eqb (repair_refusal book (length buffer) (length list)) 0 ≡ false →
      (repair_reply book (length buffer) (length list) ≡ record { refusal = repair_refusal book (length buffer) (length list); bytes = 0; lines = 0 })
      × ((buffer_after book buffer (length list) ≡ buffer) × (numbers_after book (length buffer) list ≡ list))
  -- any other: 0 and both lengths, both written from the front, and nothing behind
  pub accepted : (book buffer list : List ℕ) → repair_refusal book (length buffer) (length list) ≡ 0 →
      (repair_reply book (length buffer) (length list) ≡ record { refusal = 0; bytes = length (repaired book); lines = length (altered_lines book) })
      × ((buffer_after book buffer (length list) ≡ repaired book ++ drop (length (repaired book)) buffer)
      × (numbers_after book (length buffer) list ≡ altered_lines book ++ drop (length (altered_lines book)) list))
  -- and whoever has the outcome has the reply and both lists at exit
  pub outcome : {book buffer list : List ℕ} {reply : RepairReply} {buffer' list' : List ℕ} → RepairOutcome book buffer list reply buffer' list' →
      (reply ≡ repair_reply book (length buffer) (length list)) × ((buffer' ≡ buffer_after book buffer (length list)) × (list' ≡ numbers_after book (length buffer) list))
  -- of a book of 65,536 bytes at most: a buffer as long as the book, and a list with a place for each of its lines, are enough
  pub enough : (book : List ℕ) (room places : ℕ) → length book ≤ 65536 → length book ≤ room → length (lines_of book) ≤ places → repair_refusal book room places ≡ 0
  -- THE PROGRAM

  -- it writes the repaired book of one of up to 65,536 bytes, and the altered lines' numbers, one a line
  pub program : (book : List ℕ) → length book ≤ 65536 →
      (book_written book ≡ repaired book) × (notice_written book ≡ number_lines (length (altered_lines book)) (altered_lines book))
  -- run on what it wrote, it writes that again and says nothing
  pub program_again : (book : List ℕ) → length book ≤ 65536 → (book_written (book_written book) ≡ book_written book) × (notice_written (book_written book) ≡ [])
  -- of a longer one it writes nothing, and its refusal
  pub program_refuses : (book : List ℕ) → 65536 < length book → (book_written book ≡ []) × (notice_written book ≡ bytes "REFUSED\t10\n")
  -- each number is followed by a line feed ..
  pub no_numbers : (numbers : List ℕ) → number_lines 0 numbers ≡ []
  pub one_a_line : (k n : ℕ) (numbers : List ℕ) → number_lines (suc k) (n ∷ numbers) ≡ number_text n ++ 10 ∷ number_lines k numbers
  -- .. and is digits alone, which read back as the number where it has 64 bits, and start with no zero where it is 1 or more; those of lines are from 1 to
  -- 65,536 (`none_below`, `none_past`, `few_lines`)
  pub digits : (n : ℕ) → all_pass (number_text n) (λ b. leb 48 b && leb b 57) ≡ true
  pub read_back : (n : ℕ) → n < 18446744073709551616 → decimal (number_text n) ≡ n
  pub no_leading_zero : (n : ℕ) → 0 < n → n < 18446744073709551616 → get_or (number_text n) 0 0 ≡ 48 → ⊥
  pub numbers : number_lines 3 (1 ∷ 12 ∷ 65536 ∷ []) ≡ bytes "1\n12\n65536\n"
  -- AN EXAMPLE: the second line stays; in the third a space beside a tab gives a second tab, and the return that is not before a line feed stays; the
  -- fourth has no line feed, so its return stays

  pub example : repaired (bytes "CRM   1 \r\r\nD\t1\nD \t\r2\r\n  3\r") ≡ bytes "CRM\t1\t\nD\t1\nD\t\t\r2\n\t3\r"
  pub example_lines : altered_lines (bytes "CRM   1 \r\r\nD\t1\nD \t\r2\r\n  3\r") ≡ 1 ∷ 3 ∷ 4 ∷ []
