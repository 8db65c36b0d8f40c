-- The sizes of what a text is repaired to, with one step's bytes in front of it. Assumes nothing.
use Rattle.std.proofs.Common.{if◌then◌else◌}
use Prim.Native.Nat.{ℕ, suc, ◌+◌, ◌-◌, ◌<◌, ◌≤◌}
use mathlib.Core.Path.{◌≡◌, refl, sym, ap, ◌∙◌}
use mathlib.Core.Bool.{Bool, true, false, not, ◌&&◌}
use mathlib.Core.List.{List, [], ◌∷◌}
use native.Mathlib.Omega.{arith}
use native.Mathlib.Numerals.{add-one}
use lib.Dec.{eqb}
use lib.ListN.{length, drop, get_or, length-drop}
use lib.Seq.{drop-length}
use Rattle.text.specs.Text.{line_feed, first_line, lines_of}
use Rattle.mail.specs.Mail.{space}
use Rattle.mail.specs.Bytewise.{space_first, tabbed, bytewise, changed, changed_from, later_numbers}
use Rattle.mail.specs.Feeds.{plus_if, feeds}
use Rattle.mail.specs.Working.{BytePassed, FourBefore, Over, Sized, Measuring, Measured, Stepped}
use Rattle.mail.specs.declared.measure.Sizes.{Sizes}
use Rattle.mail.specs.declared.place.Place.{Place}
use Rattle.mail.proofs.Numbers.{numbers_first}
use Rattle.mail.proofs.Over.{over_bytes, over_numbers, over_feeds, over_length}
use Rattle.mail.proofs.Stepping.{none_ahead}

pub none_sized : Sized [] (record { dropped = 0; lines = 0; feeds = 0 })
unfolding bytewise lines_of changed_from feeds
none_sized = record { bytes = refl; lines = λ n. refl; feeding = refl; few_lines = omega arith; few_feeds = omega arith }

length_unless : (t : Bool) (x : ℕ) (xs : List ℕ) → length (if t then xs else x ∷ xs) ≡ plus_if (not t) (length xs)
length_unless true x xs = refl
length_unless false x xs = refl

twice_not : (t : Bool) (n : ℕ) → plus_if (not (not t)) n ≡ plus_if t n
twice_not true n = refl
twice_not false n = refl

-- a number is dropped, or stands in front
dropped_or_not : (t : Bool) (d n m : ℕ) → d + n ≡ m → plus_if t d + plus_if (not t) n ≡ suc m
dropped_or_not true d n m h = omega arith
dropped_or_not false d n m h = omega arith

few : (t : Bool) (n m : ℕ) → n ≤ m → plus_if t n ≤ suc m
few true n m h = omega arith
few false n m h = omega arith

module _ {b : ℕ} {text more : List ℕ} (o : Over b text more) (sizes : Sizes) (h : Sized text sizes) where
  numbers_length : (n : ℕ) → length (later_numbers n more) ≡ plus_if (eqb b line_feed && changed (first_line text)) (length (later_numbers (plus_if (eqb b line_feed) n) text))
  numbers_length n =
      ap length (over_numbers o n)
      ∙ length_unless (not (eqb b line_feed && changed (first_line text))) n (later_numbers (plus_if (eqb b line_feed) n) text)
      ∙ twice_not (eqb b line_feed && changed (first_line text)) _

  -- over a byte that is no line feed
  pub sized_byte : (s : Bool) → s ≡ space_first text → eqb b line_feed ≡ false →
      Sized more (record { dropped = plus_if (eqb b space && s) sizes.dropped; lines = sizes.lines; feeds = sizes.feeds })
  sized_byte s e unfed =
      let l : length more ≡ suc (length text) = omega (arith, over_length o, o.alone unfed) in
      record {
        bytes =
            rw (e, over_bytes o, length_unless (eqb b space && space_first text) (tabbed b) (bytewise text), l)
            (dropped_or_not (eqb b space && space_first text) sizes.dropped (length (bytewise text)) (length text) h.bytes);
        lines = λ n. h.lines n ∙ sym (rw unfed at (numbers_length n));
        feeding = h.feeding ∙ sym (rw unfed at (over_feeds o));
        few_lines = h.few_lines;
        few_feeds = omega (arith, l, h.few_feeds);
      }

  -- over a line feed
  pub sized_feed : (a : Bool) → a ≡ changed (first_line text) → b ≡ line_feed →
      Sized more (record { dropped = sizes.dropped + o.returns; lines = plus_if a sizes.lines; feeds = sizes.feeds + 1 })
  unfolding tabbed
  sized_feed a e fed =
      record {
        bytes = rw (over_bytes o, fed) (omega (arith, over_length o, h.bytes));
        lines = λ n. rw (e, h.lines (suc n)) (sym (rw fed at (numbers_length n)));
        feeding = add-one sizes.feeds ∙ ap suc h.feeding ∙ sym (rw fed at (over_feeds o));
        few_lines = rw (add-one sizes.feeds) (few a sizes.lines sizes.feeds h.few_lines);
        few_feeds = omega (arith, over_length o, h.few_feeds);
      }

-- the whole book: its first line is counted too
pub whole_sized : (book : List ℕ) (sizes : Sizes) (a : Bool) → a ≡ changed (first_line book) → Sized book sizes →
    Measured book (record { dropped = sizes.dropped; lines = plus_if a sizes.lines; feeds = sizes.feeds })
whole_sized book sizes a e h =
    record {
      bytes = h.bytes;
      lines = rw (e, h.lines 2) (sym (ap length (numbers_first 1 book) ∙ length_where (changed (first_line book)) 1 (later_numbers 2 book)));
      feeding = h.feeding;
      few_feeds = h.few_feeds;
    }
  where
    length_where : (t : Bool) (x : ℕ) (xs : List ℕ) → length (if t then x ∷ xs else xs) ≡ plus_if t (length xs)
    length_where true x xs = refl
    length_where false x xs = refl

-- one step back
module _ (book : List ℕ) (place : Place) (sizes : Sizes) (m : Measuring book place sizes) where
  part_length : length (drop place.at book) ≡ length book - place.at
  part_length = length-drop place.at book

  -- every number is small
  pub few_dropped : sizes.dropped ≤ 65536 - place.at
  few_dropped = omega (arith, part_length, m.limit, m.ahead.inside, m.sized.bytes)

  pub feed_passed : (next : Place) → Stepped book line_feed place next →
      Measuring book next (record { dropped = sizes.dropped + (place.at - 1 - next.at); lines = plus_if place.altered sizes.lines; feeds = sizes.feeds + 1 })
  feed_passed next h =
      let k : place.at - 1 - next.at ≡ h.over.returns = omega (arith, over_length h.over, part_length, length-drop next.at book, h.back, m.ahead.inside) in
      record { limit = m.limit; ahead = h.ahead; sized = rw k (sized_feed h.over sizes m.sized place.altered m.ahead.changing refl) }

  pub byte_passed : (b : ℕ) (next : Place) → eqb b line_feed ≡ false → Stepped book b place next →
      Measuring book next (record { dropped = plus_if (eqb b space && place.space) sizes.dropped; lines = sizes.lines; feeds = sizes.feeds })
  byte_passed b next unfed h =
      record { limit = m.limit; ahead = h.ahead; sized = sized_byte h.over sizes m.sized place.space m.ahead.spaces unfed }

-- four bytes that are no line feeds, one behind the other
module _ (book : List ℕ) (place : Place) (sizes : Sizes) (f : FourBefore book place) (m : Measuring book place sizes) where
  module _ (n₁ : Place) (s₁ : Sizes) (p₁ : BytePassed (get_or book (place.at - 1) 0) place sizes n₁ s₁) where
    pub one_passed : (1 + n₁.at ≡ place.at) × Measuring book n₁ s₁
    one_passed = let r = p₁ book refl f.first m in (omega (arith, r.0), r.1)

    module _ (n₂ : Place) (s₂ : Sizes) (p₂ : BytePassed (get_or book (place.at - 2) 0) n₁ s₁ n₂ s₂) where
      pub two_passed : (2 + n₂.at ≡ place.at) × Measuring book n₂ s₂
      two_passed =
          let e : place.at - 2 ≡ n₁.at - 1 = omega (arith, one_passed.0) in
          let r = p₂ book (ap (λ i. get_or book i 0) e) f.second one_passed.1 in
          (omega (arith, r.0, one_passed.0), r.1)

      module _ (n₃ : Place) (s₃ : Sizes) (p₃ : BytePassed (get_or book (place.at - 3) 0) n₂ s₂ n₃ s₃) where
        pub three_passed : (3 + n₃.at ≡ place.at) × Measuring book n₃ s₃
        three_passed =
            let e : place.at - 3 ≡ n₂.at - 1 = omega (arith, two_passed.0) in
            let r = p₃ book (ap (λ i. get_or book i 0) e) f.third two_passed.1 in
            (omega (arith, r.0, two_passed.0), r.1)

        pub four_passed : (n₄ : Place) (s₄ : Sizes) → BytePassed (get_or book (place.at - 4) 0) n₃ s₃ n₄ s₄ → (n₄.at < place.at) × Measuring book n₄ s₄
        four_passed n₄ s₄ p₄ =
            let e : place.at - 4 ≡ n₃.at - 1 = omega (arith, three_passed.0) in
            let r = p₄ book (ap (λ i. get_or book i 0) e) f.fourth three_passed.1 in
            (omega (arith, r.0, three_passed.0), r.1)

-- from the end of a book to its start
pub none_passed : (book : List ℕ) → length book ≤ 65536 →
    Measuring book (record { at = length book; space = false; altered = false }) (record { dropped = 0; lines = 0; feeds = 0 })
none_passed book short = record { limit = short; ahead = none_ahead book; sized = rw drop-length none_sized }

pub all_passed : (book : List ℕ) (place : Place) (sizes : Sizes) → place.at ≡ 0 → Measuring book place sizes →
    Measured book (record { dropped = sizes.dropped; lines = plus_if place.altered sizes.lines; feeds = sizes.feeds })
all_passed book place sizes z m = whole_sized book sizes place.altered (rw z at m.ahead.changing) (rw z at m.sized)
