-- One step back in a book. Assumes nothing.
use Prim.Native.Nat.{ℕ, suc, ◌-◌, ◌<◌, ◌≤◌}
use mathlib.Core.Path.{◌≡◌, refl, sym, ap, ◌∙◌}
use mathlib.Core.Bool.{Bool, true, false, not, ◌||◌}
use mathlib.Core.List.{List, ◌∷◌, ◌++◌}
use native.Mathlib.Omega.{arith}
use borrow.Author.Tests.{lt-ltb, le-ltb, ltb-true, ltb-false}
use lib.Dec.{eqb, ltb}
use lib.ListN.{length, drop, get_or, length-drop, replicate}
use lib.Seq.{drop-cons, drop-length}
use Rattle.base.proofs.Choice.{never}
use Rattle.base.proofs.Every.{both}
use Rattle.base.proofs.Tests.{told_not_false}
use Rattle.text.specs.Text.{line_feed, first_line, same_bytes}
use Rattle.mail.specs.Mail.{space, carriage_return}
use Rattle.mail.specs.Bytewise.{space_first, feed_first, bytewise, changed}
use Rattle.mail.specs.Working.{Ahead, FourBefore, Returns, Stepped, no_feed_in_four}
use Rattle.mail.specs.declared.place.Place.{Place}
use Rattle.mail.proofs.Over.{fed, fed_space, fed_changed, byte_changed, byte_feed, over_length}

-- one place back
pub drop_back : (text : List ℕ) (i : ℕ) → 0 < i → i ≤ length text → drop (i - 1) text ≡ get_or text (i - 1) 0 ∷ drop i text
drop_back text i h k =
    let e : suc (i - 1) ≡ i = omega arith in
    drop-cons text (i - 1) 0 (omega arith) ∙ ap (λ n. get_or text (i - 1) 0 ∷ drop n text) e

-- at the end of a book nothing is seen
pub none_ahead : (book : List ℕ) → Ahead book (record { at = length book; space = false; altered = false })
unfolding space_first feed_first first_line changed same_bytes bytewise
none_ahead book =
    record { inside = omega arith; spaces = rw drop-length; changing = rw drop-length; settled = λ h e. rw drop-length }

-- one carriage return more
pub return_more : (book : List ℕ) (start end : ℕ) → 0 < start → end ≤ length book → start ≤ end → drop start book ≡ replicate (end - start) carriage_return ++ drop end book →
    get_or book (start - 1) 0 ≡ carriage_return → drop (start - 1) book ≡ replicate (end - (start - 1)) carriage_return ++ drop end book
return_more book start end some inside back run e =
    let k : end - (start - 1) ≡ suc (end - start) = omega arith in
    drop_back book start some (omega arith) ∙ rw (e, k) (ap (λ l. carriage_return ∷ l) run)

module _ (book : List ℕ) (place : Place) (some : 0 < place.at) (a : Ahead book place) where
  -- over a byte that is no line feed
  pub past_byte_on : (b : ℕ) → b ≡ get_or book (place.at - 1) 0 → eqb b line_feed ≡ false →
      Stepped book b place (record { at = place.at - 1; space = eqb b space; altered = eqb b space || place.altered })
  unfolding space_first
  past_byte_on b e unfed =
      let text = drop place.at book in
      let parts : drop (place.at - 1) book ≡ b ∷ text = drop_back book place.at some a.inside ∙ rw (← e) in
      let stays : eqb b carriage_return ≡ true → feed_first text ≡ false = λ h. a.settled some (rw (← e) h) in
      record {
        back = omega arith;
        over = record { returns = 0; bytes = parts; alone = λ h. refl; settled = λ h. stays };
        ahead =
            record {
              inside = omega (arith, a.inside);
              spaces = rw parts;
              changing = rw (parts, a.changing) (sym (byte_changed b text unfed stays));
              settled = λ h k. rw parts (byte_feed b text unfed stays);
            };
      }

  -- over a line feed, and the carriage returns of its run
  pub past_feed_on : (start : ℕ) → get_or book (place.at - 1) 0 ≡ line_feed → Returns book start (place.at - 1) →
      Stepped book line_feed place (record { at = start; space = false; altered = ltb start (place.at - 1) })
  past_feed_on start e r =
      let text = drop place.at book in
      let k = place.at - 1 - start in
      let parts : drop start book ≡ fed k text = r.run ∙ rw (drop_back book place.at some a.inside, e) in
      record {
        back = omega (arith, r.back);
        over = record { returns = k; bytes = parts; alone = λ h. absurd (never refl h); settled = λ h. absurd (never refl h) };
        ahead =
            record {
              inside = omega (arith, r.back, a.inside);
              spaces = rw parts (sym (fed_space k text));
              changing = rw (parts, fed_changed k text) (some_dropped start (place.at - 1));
              settled = λ h c. absurd (never c (r.first h));
            };
      }
    where
      some_dropped : (start last : ℕ) → ltb start last ≡ ltb 0 (last - start)
      some_dropped start last = go (ltb start last) refl
        where
          go : (t : Bool) → ltb start last ≡ t → ltb start last ≡ ltb 0 (last - start)
          go true h = h ∙ sym (lt-ltb 0 (last - start) (omega (arith, ltb-true start last h)))
          go false h = h ∙ sym (le-ltb 0 (last - start) (omega (arith, ltb-false start last h)))

-- four bytes at once
pub four_before : (book : List ℕ) (place : Place) → no_feed_in_four book place.at ≡ true → FourBefore book place
unfolding no_feed_in_four
four_before book place h =
    let a = both (not (ltb place.at 4)) _ h in
    let b = both _ (not (eqb (get_or book (place.at - 4) 0) line_feed)) a.1 in
    let c = both _ (not (eqb (get_or book (place.at - 3) 0) line_feed)) b.0 in
    let d = both (not (eqb (get_or book (place.at - 1) 0) line_feed)) (not (eqb (get_or book (place.at - 2) 0) line_feed)) c.0 in
    record {
      four = ltb-false place.at 4 (told_not_false (ltb place.at 4) _ refl a.0);
      first = told_not_false (eqb (get_or book (place.at - 1) 0) line_feed) _ refl d.0;
      second = told_not_false (eqb (get_or book (place.at - 2) 0) line_feed) _ refl d.1;
      third = told_not_false (eqb (get_or book (place.at - 3) 0) line_feed) _ refl c.1;
      fourth = told_not_false (eqb (get_or book (place.at - 4) 0) line_feed) _ refl b.1;
    }

-- over a byte that is no line feed it is one place
pub one_step : (book : List ℕ) (b : ℕ) (place next : Place) → place.at ≤ length book → eqb b line_feed ≡ false → Stepped book b place next → suc next.at ≡ place.at
one_step book b place next inside unfed h =
    omega (arith, over_length h.over, h.over.alone unfed, length-drop place.at book, length-drop next.at book, h.back, inside)
