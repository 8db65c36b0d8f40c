-- A mailed book is repaired run by run, and its altered lines are listed. Assumes nothing.
use Prim.Native.Nat.{ℕ, suc, ◌≤◌}
use mathlib.Core.Path.{◌≡◌, refl, ap, ◌∙◌}
use mathlib.Core.List.{List, [], ◌∷◌, ◌++◌, append_assoc}
use lib.ListN.{length}
use Rattle.text.proofs.Lines.{no_lines}
use Rattle.text.proofs.WholeLines.{fed_line, last_line}
use Rattle.result.specs.List.{number_lines}
use Rattle.result.specs.Numbers.{digit_text, number_text}
use Rattle.book_laws.proofs.Written.{no_leading_zero, number_digits, number_read}
use Rattle.response.specs.Response.{printed}
use Rattle.mail.specs.Feeds.{feeds}
use Rattle.mail.specs.Mailed.{Mailed}
use Rattle.mail.proofs.Again.{copied_only, copied_run, second_run}
use Rattle.mail.proofs.Examples.{worked}
use Rattle.mail.proofs.Kept.{feeds_kept, few_lines, lines_kept, lines_repaired}
use Rattle.mail.proofs.Listed.{listed_exactly, none_below, none_past, rising_places}
use Rattle.mail.proofs.MadeByMail.{mailed_all}
use Rattle.mail.proofs.Only.{only_repaired}
use Rattle.mail.proofs.OnRuns.{mailed_back, on_runs}
use Rattle.mail.proofs.Refusals.{accepted_written, enough, refused_untouched, repair_exact}
use Rattle.repairing.specs.Repairing.{book_written}
use Rattle.repairing.proofs.Noticed.{own_output, too_long, whole_book, whole_notice}
use Rattle.claims.specs.MailedBooks.{MailedBooks}

handed_on : {sent came : List ℕ} → Mailed sent came → length came ≤ 65536 → book_written came ≡ sent
handed_on {sent} {came} m h = whole_book came h ∙ mailed_back m

numbered : (numbers : List ℕ) → number_lines 0 numbers ≡ []
unfolding number_lines
numbered numbers = refl

one_a_line : (k n : ℕ) (numbers : List ℕ) → number_lines (suc k) (n ∷ numbers) ≡ number_text n ++ 10 ∷ number_lines k numbers
unfolding number_lines
one_a_line k n numbers = append_assoc (number_text n) (10 ∷ []) (number_lines k numbers)

pub mailed_books : MailedBooks
unfolding feeds worked number_lines number_text digit_text
mailed_books = record {
  of_nothing = on_runs.nothing;
  spaces = on_runs.spaces;
  returns = on_runs.returns;
  returns_stay = on_runs.returns_stay;
  others = on_runs.others;
  runs = on_runs;
  only = only_repaired;
  undone = mailed_back;
  made_by_mail = mailed_all;
  handed_on = handed_on;
  answered = λ m h. ap printed (handed_on m h);
  no_lines = no_lines;
  fed_line = fed_line;
  last_line = last_line;
  in_the_list = listed_exactly;
  rising = rising_places;
  none_below = none_below;
  none_past = none_past;
  few_lines = few_lines;
  feeds_none = refl;
  feeds_more = λ rest. refl;
  feeds_same = λ b rest e. rw e;
  feeds_kept = feeds_kept;
  lines_kept = lines_kept;
  line_by_line = lines_repaired;
  copied = λ book buffer list s r short room. copied_run book buffer list (record { no_space = s; no_return = r }) short room;
  copied_only = λ text e. let h = copied_only text e in (h.no_space, h.no_return);
  again = second_run;
  due = repair_exact;
  refused = refused_untouched;
  accepted = accepted_written;
  outcome = λ r. (r.replied, (r.written, r.numbered));
  enough = enough;
  program = λ book h. (whole_book book h, whole_notice book h);
  program_again = own_output;
  program_refuses = too_long;
  no_numbers = numbered;
  one_a_line = one_a_line;
  digits = number_digits;
  read_back = number_read;
  no_leading_zero = no_leading_zero;
  numbers = refl;
  example = refl;
  example_lines = refl;
}
