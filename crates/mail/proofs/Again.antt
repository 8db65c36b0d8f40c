-- Repairing a book that needs none: its own output, and a book with neither. 02: L14. Assumes nothing.
use Prim.Native.Nat.{ℕ, zero, suc, ◌≤◌}
use mathlib.Core.Path.{◌≡◌, refl, sym, ap, ◌∙◌}
use mathlib.Core.Bool.{Bool, true, false, ◌&&◌}
use mathlib.Core.List.{List, [], ◌∷◌, map}
use native.Mathlib.Omega.{arith}
use lib.Dec.{eqb}
use lib.ListN.{get_or, length}
use Rattle.base.specs.Writing.{overwrite}
use Rattle.base.proofs.Choice.{if_false, never}
use Rattle.base.proofs.Tests.{or_both}
use Rattle.text.specs.Text.{book_limit, lines_of}
use Rattle.mail.specs.Mail.{altered_lines, repaired}
use Rattle.mail.specs.Bytewise.{feed_first, bytewise, changed_from, numbers_of}
use Rattle.mail.specs.Listed.{Neither}
use Rattle.mail.specs.Reply.{RepairOutcome}
use Rattle.mail.proofs.Altering.{altered, alters, alters_bytewise, bytewise_twice, changed_is, unaltered}
use Rattle.mail.proofs.Kept.{no_longer}
use Rattle.mail.proofs.Kind.{Kind, kind, a_space, a_return, a_feed, other}
use Rattle.mail.proofs.Lines.{lines_bytewise}
use Rattle.mail.proofs.Replying.{accepted_outcome}
use Rattle.mail.proofs.Runs.{bytewise_is, numbers_are}

none_again : (n : ℕ) (lines : List (List ℕ)) → changed_from n (map bytewise lines) ≡ []
unfolding changed_from
none_again n [] = refl
none_again n (line ∷ lines) =
    rw (changed_is (bytewise line), alters_bytewise line, if_false false (n ∷ changed_from (suc n) (map bytewise lines)) (changed_from (suc n) (map bytewise lines)) refl)
    (none_again (suc n) lines)

none_altered : (text : List ℕ) → numbers_of 1 (bytewise text) ≡ []
none_altered text = rw (lines_bytewise text) (none_again 1 (lines_of text))

-- "the tool run on its own output alters nothing"
pub repaired_twice : (text : List ℕ) → repaired (repaired text) ≡ repaired text
repaired_twice text = rw (bytewise_is text, bytewise_is (bytewise text)) (bytewise_twice text)

pub none_listed : (text : List ℕ) → altered_lines (repaired text) ≡ []
none_listed text = rw (bytewise_is text, numbers_are (bytewise text)) (none_altered text)

-- a text that a repair leaves as it is has an empty list
plain_listed : (text : List ℕ) → repaired text ≡ text → altered_lines text ≡ []
plain_listed text e = rw e at (none_listed text)

-- and is copied, whatever the list
plain_run : (book buffer list : List ℕ) → repaired book ≡ book → length book ≤ book_limit → length book ≤ length buffer →
    RepairOutcome book buffer list (record { refusal = 0; bytes = length book; lines = 0 }) (overwrite book buffer) list
plain_run book buffer list e short room =
    let b : bytewise book ≡ book = sym (bytewise_is book) ∙ e in
    let n : numbers_of 1 book ≡ [] = sym (numbers_are book) ∙ plain_listed book e in
    accepted_outcome book buffer list short (rw b room) (length book) 0 (overwrite book buffer) list (rw n (omega arith)) (rw b) (rw n) (rw b) (rw n)

pub second_run : (book buffer list : List ℕ) → length book ≤ book_limit → length (repaired book) ≤ length buffer →
    RepairOutcome (repaired book) buffer list (record { refusal = 0; bytes = length (repaired book); lines = 0 }) (overwrite (repaired book) buffer) list
second_run book buffer list short room =
    plain_run (repaired book) buffer list (repaired_twice book) (omega (arith, no_longer book, short)) room

-- a book with neither
behind : {b : ℕ} {bs : List ℕ} → Neither (b ∷ bs) → Neither bs
behind h = record { no_space = λ i. h.no_space (suc i); no_return = λ i. h.no_return (suc i) }

no_feed : (bs : List ℕ) → Neither (13 ∷ bs) → feed_first bs ≡ false
unfolding feed_first
no_feed [] h = refl
no_feed (c ∷ cs) h = go (kind c) (no_feed cs) h
  where
    go : {c : ℕ} → Kind c → (Neither (13 ∷ cs) → feed_first cs ≡ false) → Neither (13 ∷ c ∷ cs) → feed_first (c ∷ cs) ≡ false
    go a_space rest h = refl
    go a_return rest h = rest (behind h)
    go a_feed rest h = absurd (never refl (h.no_return 0))
    go (other p q r) rest h = simp (q, r)

neither : (text : List ℕ) → Neither text → alters text ≡ false
neither [] h = refl
neither (b ∷ bs) h = go (kind b) (neither bs (behind h)) h
  where
    go : {b : ℕ} → Kind b → alters bs ≡ false → Neither (b ∷ bs) → alters (b ∷ bs) ≡ false
    go a_space rest h = absurd (never refl (h.no_space 0))
    go a_return rest h = rw (no_feed bs h) rest
    go a_feed rest h = rest
    go (other p q r) rest h = simp (p, q) rest

pub copied : (text : List ℕ) → Neither text → (repaired text ≡ text) × (altered_lines text ≡ [])
copied text h =
    let e = bytewise_is text ∙ unaltered text (neither text h) in
    (e, plain_listed text e)

-- "A book with neither is copied with an empty list"
pub copied_run : (book buffer list : List ℕ) → Neither book → length book ≤ book_limit → length book ≤ length buffer →
    RepairOutcome book buffer list (record { refusal = 0; bytes = length book; lines = 0 }) (overwrite book buffer) list
copied_run book buffer list h short room = plain_run book buffer list (copied book h).0 short room

-- and no other text is
no_start : (bs : List ℕ) → feed_first bs ≡ false → eqb (get_or bs 0 0) 10 ≡ false
unfolding feed_first
no_start [] e = refl
no_start (c ∷ cs) e = (or_both (eqb c 10) _ e).0

weaker : (a f n : Bool) → (f ≡ false → n ≡ false) → (a && f) ≡ false → (a && n) ≡ false
weaker true f n h e = h e
weaker false f n h e = refl

space_free : (text : List ℕ) → alters text ≡ false → (i : ℕ) → eqb (get_or text i 0) 32 ≡ false
space_free [] h i = refl
space_free (b ∷ bs) h zero = (or_both (eqb b 32) _ (or_both (altered b (feed_first bs)) (alters bs) h).0).0
space_free (b ∷ bs) h (suc i) = space_free bs (or_both (altered b (feed_first bs)) (alters bs) h).1 i

return_free : (text : List ℕ) → alters text ≡ false → (i : ℕ) → (eqb (get_or text i 0) 13 && eqb (get_or text (suc i) 0) 10) ≡ false
return_free [] h i = refl
return_free (b ∷ bs) h zero =
    weaker (eqb b 13) (feed_first bs) _ (no_start bs) (or_both (eqb b 32) _ (or_both (altered b (feed_first bs)) (alters bs) h).0).1
return_free (b ∷ bs) h (suc i) = return_free bs (or_both (altered b (feed_first bs)) (alters bs) h).1 i

pub copied_only : (text : List ℕ) → repaired text ≡ text → Neither text
copied_only text e =
    let h = ap alters (sym (sym (bytewise_is text) ∙ e)) ∙ alters_bytewise text in
    record { no_space = space_free text h; no_return = return_free text h }
