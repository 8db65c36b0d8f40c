use Rattle.std.proofs.Common.{arith, refl}
use Rattle.mail.specs.Reply.{refusal_number, reply_sent}
use Rattle.mail.proofs.Replying.{refused_outcome, accepted_outcome, too_long, buffer_short, list_short}
use Rattle.mail.proofs.repair_book.Goals as goal

pub returns-then-book-gt-BOOK_LIMIT : goal.returns-then-book-gt-BOOK_LIMIT
unfolding reply_sent refusal_number
returns-then-book-gt-BOOK_LIMIT c =
    let a = c.args in
    refused_outcome a.book.now a.buffer.now a.list.now 10 refl (too_long a.book.now _ _ (omega arith))

pub returns-then-buffer-bytes : goal.returns-then-buffer-bytes
unfolding reply_sent refusal_number
returns-then-buffer-bytes c =
    let a = c.args in
    refused_outcome a.book.now a.buffer.now a.list.now 20 refl
    (buffer_short a.book.now a.buffer.now a.list.now (omega arith) (omega (arith, c.measure-sizes.ensures.bytes)))

pub returns-then-list-sizes : goal.returns-then-list-sizes
unfolding reply_sent refusal_number
returns-then-list-sizes c =
    let a = c.args in
    let m = c.measure-sizes.ensures in
    refused_outcome a.book.now a.buffer.now a.list.now 41 refl
    (list_short a.book.now a.buffer.now a.list.now (omega arith) (omega (arith, m.bytes)) (omega (arith, m.lines)))

pub returns : goal.returns
unfolding reply_sent
returns c =
    let a = c.args in
    let m = c.measure-sizes.ensures in
    accepted_outcome a.book.now a.buffer.now a.list.now (omega arith) (omega (arith, m.bytes)) _ _ _ _
    (omega (arith, m.lines)) (omega (arith, m.bytes)) m.lines c.write.ensures.0 c.write.ensures.1
