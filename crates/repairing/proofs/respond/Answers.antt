use Rattle.std.proofs.Common.{rules}
use Rattle.mail.specs.Reply.{reply_sent}
use Rattle.repairing.proofs.Noticed.{book_whole, notice_whole}
use Rattle.repairing.proofs.respond.Goals as goal

pub returns-in-Ok-clause-book_printed : goal.returns-in-Ok-clause-book_printed
unfolding reply_sent
returns-in-Ok-clause-book_printed c = book_whole _ _ _ _ _ _ c.in-Ok.ensures (search rules) (search rules)

pub returns-in-Ok-clause-notice_printed : goal.returns-in-Ok-clause-notice_printed
unfolding reply_sent
returns-in-Ok-clause-notice_printed c =
    notice_whole _ _ _ _ _ _ c.in-Ok.ensures (search rules) (search rules) _ _ _ (search rules) c.write_list.ensures

pub returns-in-Err-clause-book_printed : goal.returns-in-Err-clause-book_printed
unfolding reply_sent
returns-in-Err-clause-book_printed c = book_whole _ _ _ _ _ _ c.in-Err.ensures (search rules) (search rules)

pub returns-in-Err-clause-notice_printed : goal.returns-in-Err-clause-notice_printed
unfolding reply_sent
returns-in-Err-clause-notice_printed c =
    notice_whole _ _ _ _ _ _ c.in-Err.ensures (search rules) (search rules) _ _ _ (search rules) (rw c.number.ensures at c.write_list-in-Err.ensures)
