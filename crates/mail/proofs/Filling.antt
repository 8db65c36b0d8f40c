-- Both lists, filled from their ends to their fronts. Assumes nothing.
use Rattle.std.proofs.Common.{if◌then◌else◌}
use Prim.Native.Nat.{ℕ, zero, suc, ◌+◌, ◌-◌, ◌≤◌, ◌<◌}
use mathlib.Core.Path.{◌≡◌, refl, sym, ap, ◌∙◌}
use mathlib.Core.Bool.{Bool, true, false, not, ◌&&◌}
use mathlib.Core.List.{List, [], ◌∷◌, ◌++◌, append_assoc}
use native.Mathlib.Omega.{arith}
use borrow.Author.Tests.{eqb-true}
use lib.Dec.{eqb}
use lib.ListN.{length, take, drop, get_or, length-append, length-drop}
use lib.Seq.{length-take-le, drop-length, get_or-append-add}
use Rattle.base.specs.Writing.{placed_at, overwrite}
use Rattle.base.proofs.Choice.{never}
use Rattle.base.proofs.Every.{both}
use Rattle.base.proofs.Writing.{placed_none, placed_front}
use Rattle.text.proofs.Lines.{lines_fed}
use Rattle.text.specs.Text.{tab, line_feed, first_line, lines_of}
use Rattle.mail.specs.Mail.{space}
use Rattle.mail.specs.Bytewise.{space_first, feed_first, left_out, tabbed, bytewise, changed, changed_from, numbers_of, later_numbers}
use Rattle.mail.specs.Feeds.{plus_if, feeds}
use Rattle.mail.specs.Working.{Back, Filling, Over, Stepped, Pushed, Room, Placeable, PutOver, Ready, byte_before}
use Rattle.mail.specs.declared.measure.Sizes.{Sizes}
use Rattle.mail.specs.declared.place.Place.{Place}
use Rattle.mail.specs.declared.write.Filled.{Filled}
use Rattle.mail.proofs.Numbers.{numbers_first, later_unfed}
use Rattle.mail.proofs.Over.{over_bytes, over_numbers, over_feeds}
use Rattle.mail.proofs.Stepping.{drop_back, none_ahead}

-- One list

placed_length : (at : ℕ) (xs before : List ℕ) → at + length xs ≤ length before → length (placed_at at xs before) ≡ length before
unfolding placed_at
placed_length at xs before h =
    rw (length-append (take at before ++ xs) (drop (at + length xs) before), length-append (take at before) xs, length-take-le at before (omega (arith, h)), length-drop (at + length xs) before)
    (omega (arith, h))

-- what stands at the first of these places
placed_first : (at x : ℕ) (xs before : List ℕ) → at ≤ length before → get_or (placed_at at (x ∷ xs) before) at 0 ≡ x
unfolding placed_at
placed_first at x xs before h =
    let l = length-take-le at before h in
    let e : at ≡ length (take at before) + 0 = omega (arith, l) in
    let rest = drop (at + length (x ∷ xs)) before in
    ap (λ l. get_or l at 0) (append_assoc (take at before) (x ∷ xs) rest)
    ∙ ap (λ i. get_or (take at before ++ (x ∷ xs ++ rest)) i 0) e
    ∙ get_or-append-add (take at before) (x ∷ xs ++ rest) 0 0

back_none : (end : ℕ) (l : List ℕ) → end ≤ length l → Back [] end end l l
back_none end l h = record { fits = omega arith; room = h; holds = (placed_none end l).holds }

module _ {xs : List ℕ} {at end : ℕ} {before after : List ℕ} (b : Back xs at end before after) where
  back_length : length after ≡ length before
  back_length = rw b.holds (placed_length at xs before (omega (arith, b.fits, b.room)))

  -- where there is one more to come, there is room for it
  back_room : (skip : Bool) (n : ℕ) → length (if skip then xs else n ∷ xs) ≤ end → Room skip at after
  back_room skip n h = record { inside = omega (arith, back_length, b.fits, b.room); some = go skip h }
    where
      go : (skip : Bool) → length (if skip then xs else n ∷ xs) ≤ end → skip ≡ false → 0 < at
      go true h e = absurd (never refl e)
      go false h e = omega (arith, h, b.fits)

  -- one more in front, or none
  back_pushed : (skip : Bool) (n r : ℕ) (after' : List ℕ) → Pushed skip n at after after' r → Back (if skip then xs else n ∷ xs) r end before after'
  back_pushed true n r after' p = rw (p.0, p.1) b
  back_pushed false n r after' p =
      let e : at ≡ suc r = sym p.0 in
      record {
        fits = omega (arith, b.fits, e);
        room = b.room;
        holds = p.1 ∙ rw (b.holds, e) (placed_front r xs before n (omega (arith, b.fits, b.room, e)));
      }

-- at the front
back_whole : (xs : List ℕ) (at : ℕ) (before after : List ℕ) → Back xs at (length xs) before after → after ≡ overwrite xs before
unfolding placed_at
back_whole xs at before after b =
    let z : at ≡ 0 = omega (arith, b.fits) in
    let e : 0 + length xs ≡ length xs = omega arith in
    b.holds ∙ rw (z, e)

-- What is to come

-- what a part of a text gives is no longer than what the text gives
not_less : (t : Bool) (n : ℕ) (xs : List ℕ) → length xs ≤ length (if t then xs else n ∷ xs)
not_less true n xs = omega arith
not_less false n xs = omega arith

bytewise_cons : (b : ℕ) (bs : List ℕ) → bytewise (b ∷ bs) ≡ (if left_out b (space_first bs) (feed_first bs) then bytewise bs else tabbed b ∷ bytewise bs)
unfolding bytewise
bytewise_cons b bs = refl

bytes_part : (i : ℕ) (text : List ℕ) → length (bytewise (drop i text)) ≤ length (bytewise text)
bytes_part zero text = omega arith
bytes_part (suc i) [] = omega arith
bytes_part (suc i) (b ∷ bs) =
    let k = not_less (left_out b (space_first bs) (feed_first bs)) (tabbed b) (bytewise bs) in
    let h = bytes_part i bs in
    rw (bytewise_cons b bs) (omega (arith, h, k))

any_number : (n m : ℕ) (lines : List (List ℕ)) → length (changed_from n lines) ≡ length (changed_from m lines)
unfolding changed_from
any_number n m [] = refl
any_number n m (line ∷ lines) = go (changed line) refl (any_number (suc n) (suc m) lines)
  where
    go : (t : Bool) → changed line ≡ t → length (changed_from (suc n) lines) ≡ length (changed_from (suc m) lines)
        → length (changed_from n (line ∷ lines)) ≡ length (changed_from m (line ∷ lines))
    go true e h = rw e (ap suc h)
    go false e h = rw e h

more_numbers : (t : Bool) (n : ℕ) (xs : List ℕ) → length xs ≤ length (if t then n ∷ xs else xs)
more_numbers true n xs = omega arith
more_numbers false n xs = omega arith

-- the lines behind the first one are among all
later_few : (n m : ℕ) (text : List ℕ) → length (later_numbers n text) ≤ length (numbers_of m text)
later_few n m text =
    let k = more_numbers (changed (first_line text)) m (later_numbers (suc m) text) in
    rw (numbers_first m text) (omega (arith, k, any_number n (suc m) (drop 1 (lines_of text))))

later_part : (n m i : ℕ) (text : List ℕ) → length (later_numbers n (drop i text)) ≤ length (later_numbers m text)
later_part n m zero text = omega (arith, any_number n m (drop 1 (lines_of text)))
later_part n m (suc i) [] = omega (arith, any_number n m (drop 1 (lines_of [])))
later_part n m (suc i) (b ∷ bs) = go (eqb b line_feed) refl (later_part n m i bs)
  where
    go : (t : Bool) → eqb b line_feed ≡ t → length (later_numbers n (drop i bs)) ≤ length (later_numbers m bs) → length (later_numbers n (drop i bs)) ≤ length (later_numbers m (b ∷ bs))
    go true e h = rw (lines_fed b bs e) (omega (arith, h, later_few m m bs))
    go false e h = rw (later_unfed m b bs e) h

feeds_part : (i : ℕ) (text : List ℕ) → feeds (drop i text) ≤ feeds text
unfolding feeds
feeds_part zero text = omega arith
feeds_part (suc i) [] = omega arith
feeds_part (suc i) (b ∷ bs) = let h = feeds_part i bs in go (eqb b line_feed) h
  where
    go : (t : Bool) → feeds (drop i bs) ≤ feeds bs → feeds (drop i bs) ≤ plus_if t (feeds bs)
    go true h = omega (arith, h)
    go false h = h

-- of a run of spaces that was passed, the tab stands in front
record TabFirst (text : List ℕ) : Type 0 where
  rest : List ℕ
  first : bytewise text ≡ tab ∷ rest

tab_first : (text : List ℕ) → space_first text ≡ true → TabFirst text
unfolding space_first bytewise tabbed
tab_first [] e = absurd (never e refl)
tab_first (b ∷ bs) e = go (space_first bs) refl (tab_first bs)
  where
    go : (t : Bool) → space_first bs ≡ t → (space_first bs ≡ true → TabFirst bs) → TabFirst (b ∷ bs)
    go true h more = let m = more h in record { rest = m.rest; first = rw (eqb-true b space e, h) m.first }
    go false h more = record { rest = bytewise bs; first = rw (eqb-true b space e, h) }

-- Both lists

module _ (book buffer₀ list₀ : List ℕ) where
  pub fill_start : (sizes : Sizes) → Ready book buffer₀ list₀ sizes →
      Filling book buffer₀ list₀ buffer₀ list₀
      (record { place = record { at = length book; space = false; altered = false }; bytes = length book - sizes.dropped; lines = sizes.lines; line = sizes.feeds + 1 })
  unfolding bytewise lines_of changed_from feeds
  fill_start sizes r =
      let m = r.measured in
      let e : length book - sizes.dropped ≡ length (bytewise book) = omega (arith, m.bytes) in
      record {
        ahead = none_ahead book;
        numbered = rw drop-length (omega (arith, m.feeding));
        bytes = rw (drop-length, e) (back_none (length (bytewise book)) buffer₀ r.bytes_fit);
        numbers = rw (drop-length, m.lines) (back_none (length (numbers_of 1 book)) list₀ r.lines_fit);
      }

numbers_pushed : (t a : Bool) (line own : ℕ) (text : List ℕ) → line ≡ plus_if t own →
    (if not (t && a) then later_numbers (plus_if t (suc own)) text else suc own ∷ later_numbers (plus_if t (suc own)) text)
    ≡ (if not (t && a) then later_numbers (suc line) text else line ∷ later_numbers (suc line) text)
numbers_pushed true a line own text e = rw e
numbers_pushed false a line own text e = rw e

line_back : (t : Bool) (line own n total : ℕ) → line ≡ plus_if t own → line + n ≡ total → own + plus_if t n ≡ total
line_back true line own n total e h = omega arith
line_back false line own n total e h = omega arith

module _ (book buffer₀ list₀ buffer list : List ℕ) (filled : Filled) (f : Filling book buffer₀ list₀ buffer list filled) where
  pub same_bytes : length buffer ≡ length buffer₀
  same_bytes = back_length f.bytes

  pub same_numbers : length list ≡ length list₀
  same_numbers = back_length f.numbers

  abbrev text : List ℕ
  text = drop filled.place.at book

  abbrev b : ℕ
  b = byte_before book filled.place

  abbrev skip : Bool
  skip = eqb b space && filled.place.space

  abbrev unlisted : Bool
  unlisted = not (eqb b line_feed && filled.place.altered)

  module _ (next : Place) (own : ℕ) (s : Stepped book b filled.place next) (e : filled.line ≡ plus_if (eqb b line_feed) own) where
    bytes_step : bytewise (drop next.at book) ≡ (if skip then bytewise text else tabbed b ∷ bytewise text)
    bytes_step = over_bytes s.over ∙ rw f.ahead.spaces

    numbers_step :
        later_numbers (suc own) (drop next.at book)
        ≡ (if unlisted then later_numbers (suc filled.line) text else filled.line ∷ later_numbers (suc filled.line) text)
    numbers_step =
        over_numbers s.over (suc own) ∙ rw f.ahead.changing (numbers_pushed (eqb b line_feed) (changed (first_line text)) filled.line own text e)

  -- one step back
  pub fill_step : (r : Filled) (buffer' list' : List ℕ) → PutOver book filled r buffer buffer' list list' → Filling book buffer₀ list₀ buffer' list' r
  fill_step r buffer' list' p =
      record {
        ahead = p.stepped.ahead;
        numbered = rw (over_feeds p.stepped.over) (line_back (eqb b line_feed) filled.line r.line (feeds text) (suc (feeds book)) p.line f.numbered);
        bytes = rw (bytes_step r.place r.line p.stepped p.line) (back_pushed f.bytes skip (tabbed b) r.bytes buffer' p.byte);
        numbers = rw (numbers_step r.place r.line p.stepped p.line) (back_pushed f.numbers unlisted filled.line r.lines list' p.number);
      }

  some_line : 0 < filled.line
  some_line = omega (arith, f.numbered, feeds_part filled.place.at book)

  -- there is room for it
  module _ (some : 0 < filled.place.at) where
    over_one : Over b text (drop (filled.place.at - 1) book)
    over_one = record { returns = 0; bytes = drop_back book filled.place.at some f.ahead.inside; alone = λ h. refl; settled = λ h. f.ahead.settled some }

    more_bytes : length (if skip then bytewise text else tabbed b ∷ bytewise text) ≤ length (bytewise book)
    more_bytes = rw (f.ahead.spaces, ← over_bytes over_one) (bytes_part (filled.place.at - 1) book)

    tab_there : skip ≡ true → (filled.bytes < length buffer) × (get_or buffer filled.bytes 0 ≡ tab)
    tab_there h =
        let t = tab_first text (sym f.ahead.spaces ∙ (both (eqb b space) filled.place.space h).1) in
        let k : filled.bytes + suc (length t.rest) ≡ length (bytewise book) = rw t.first at f.bytes.fits in
        let l : buffer ≡ placed_at filled.bytes (tab ∷ t.rest) buffer₀ = rw t.first at f.bytes.holds in
        (omega (arith, k, f.bytes.room, same_bytes), rw l (placed_first filled.bytes tab t.rest buffer₀ (omega (arith, k, f.bytes.room))))

    more_numbered : length (if unlisted then later_numbers (suc filled.line) text else filled.line ∷ later_numbers (suc filled.line) text) ≤ length (numbers_of 1 book)
    more_numbered = go (eqb b line_feed) refl
      where
        at_own : (own : ℕ) → filled.line ≡ plus_if (eqb b line_feed) own →
            length (if unlisted then later_numbers (suc filled.line) text else filled.line ∷ later_numbers (suc filled.line) text) ≤ length (numbers_of 1 book)
        at_own own e =
            let k = numbers_pushed (eqb b line_feed) (changed (first_line text)) filled.line own text e in
            let l = later_part (suc own) 2 (filled.place.at - 1) book in
            rw (f.ahead.changing, ← k, ← over_numbers over_one (suc own)) (omega (arith, l, later_few 2 1 book))

        go : (t : Bool) → eqb b line_feed ≡ t →
            length (if unlisted then later_numbers (suc filled.line) text else filled.line ∷ later_numbers (suc filled.line) text) ≤ length (numbers_of 1 book)
        go true e = at_own (filled.line - 1) (rw e (omega (arith, some_line)))
        go false e = at_own filled.line (rw e)

    pub placeable : Placeable book buffer list filled
    placeable =
        record {
          some = some;
          ahead = f.ahead;
          byte_room = record { room = back_room f.bytes skip (tabbed b) more_bytes; there = tab_there };
          line_room = back_room f.numbers unlisted filled.line more_numbered;
          numbered = some_line;
        }

  -- at the start of the book its first line is left
  module _ (z : filled.place.at ≡ 0) where
    first_line_lem : filled.line ≡ 1
    first_line_lem = let h = rw z at f.numbered in omega (arith, h)

    all_numbers : (if not filled.place.altered then later_numbers (suc filled.line) text else filled.line ∷ later_numbers (suc filled.line) text) ≡ numbers_of 1 book
    all_numbers = rw (first_line_lem, z) (go filled.place.altered (rw z at f.ahead.changing) ∙ sym (numbers_first 1 book))
      where
        go : (t : Bool) → t ≡ changed (first_line book)
            → (if not t then later_numbers 2 book else 1 ∷ later_numbers 2 book) ≡ (if changed (first_line book) then 1 ∷ later_numbers 2 book else later_numbers 2 book)
        go true e = rw (← e)
        go false e = rw (← e)

    pub last_room : Room (not filled.place.altered) filled.lines list
    last_room = back_room f.numbers (not filled.place.altered) filled.line (rw all_numbers (omega arith))

    pub fill_end : (r : ℕ) (list' : List ℕ) → Pushed (not filled.place.altered) filled.line filled.lines list list' r →
        (buffer ≡ overwrite (bytewise book) buffer₀) × (list' ≡ overwrite (numbers_of 1 book) list₀)
    fill_end r list' p = (
      back_whole (bytewise book) filled.bytes buffer₀ buffer (rw z at f.bytes),
      back_whole (numbers_of 1 book) r list₀ list' (rw all_numbers at (back_pushed f.numbers (not filled.place.altered) filled.line r list' p)),
    )
