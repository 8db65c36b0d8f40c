-- `response::respond`: the book's answers are written whole. Assumes nothing.
use Rattle.std.proofs.Common.{ℕ, List, ◌≡◌, ◌∙◌, ◌++◌, ap, rules, sym, drop, length}
use Rattle.result.specs.Result.{written}
use Rattle.book.specs.Book.{BookReply, book_reply, refused_reply, results_after}
use Rattle.book.specs.Reply.{book_refusal_number, reply_sent}
use Rattle.response.specs.Response.{places, printed}
use Rattle.response.proofs.Printed.{all_written}
use Rattle.response.proofs.respond.Goals as goal

-- what is written of a reply
text : (book before out : List ℕ) {results : List ℕ} {reply : BookReply} → length before ≡ places → length out ≡ 172061 → reply ≡ book_reply book (length before) →
    results ≡ results_after book before → written reply.refusal reply.deals results (length out) ≡ printed book
text book before out {results} long room e s =
    ap (λ r. written r.refusal r.deals results (length out)) (e ∙ ap (book_reply book) long)
    ∙ ap (λ xs. written (book_reply book places).refusal (book_reply book places).deals xs (length out)) s
    ∙ ap (written (book_reply book places).refusal (book_reply book places).deals (results_after book before)) room
    ∙ all_written book before long

pub returns-in-Ok : goal.returns-in-Ok
unfolding reply_sent
returns-in-Ok c =
    let long : length c.args.results.now ≡ places = search rules in
    let room : length c.args.out.now ≡ 172061 = search rules in
    let t = text c.args.book.now c.args.results.now c.args.out.now long room (ap reply_sent (sym c.in-Ok.is) ∙ c.answer_book.ensures.0) c.answer_book.ensures.1 in
    let w = c.write_result.ensures in
    record { text_printed = (w.0 ∙ ap length t, w.1 ∙ ap (λ t'. t' ++ drop (length t') c.args.out.now) t); results_after = c.answer_book.ensures.1 }

pub returns-in-Err : goal.returns-in-Err
unfolding reply_sent
returns-in-Err c =
    let long : length c.args.results.now ≡ places = search rules in
    let room : length c.args.out.now ≡ 172061 = search rules in
    let reply = ap reply_sent (sym c.in-Err.is) ∙ c.answer_book.ensures.0 in
    let number : ◌≡◌ {A = BookReply} (record { refusal = c.number.result; deals = 0 }) (record { refusal = book_refusal_number c.in-Err.refusal; deals = 0 }) = ap (λ (n : ℕ). refused_reply n) c.number.ensures in
    let t = text c.args.book.now c.args.results.now c.args.out.now long room (number ∙ reply) c.answer_book.ensures.1 in
    let w = c.write_result-in-Err.ensures in
    record { text_printed = (w.0 ∙ ap length t, w.1 ∙ ap (λ t'. t' ++ drop (length t') c.args.out.now) t); results_after = c.answer_book.ensures.1 }
