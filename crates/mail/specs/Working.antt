-- What the contracts of both passes over a book say.
use Rattle.std.specs.Prelude.{ℕ, suc, ◌+◌, ◌-◌, ◌≤◌, ◌<◌, ◌≡◌, Bool, true, false, not, ◌&&◌, List, ◌∷◌, ◌++◌, eqb, ltb, length, drop, get_or, replicate, set}
use Rattle.base.specs.Writing.{placed_at}
use Rattle.text.specs.Text.{tab, line_feed, first_line}
use Rattle.mail.specs.Mail.{space, carriage_return}
use Rattle.mail.specs.Bytewise.{space_first, feed_first, tabbed, bytewise, changed, numbers_of, later_numbers}
use Rattle.mail.specs.Feeds.{feeds, plus_if}
use Rattle.mail.specs.declared.measure.Sizes.{Sizes}
use Rattle.mail.specs.declared.place.Place.{Place}
use Rattle.mail.specs.declared.write.Filled.{Filled}

-- the byte in front of a place
abbrev pub byte_before : List ℕ → Place → ℕ
byte_before book place = get_or book (place.at - 1) 0

-- whether there are four bytes before a place, and none of them is a line feed
unfoldable pub no_feed_in_four : List ℕ → ℕ → Bool
no_feed_in_four book at =
    not (ltb at 4)
    && (((not (eqb (get_or book (at - 1) 0) line_feed) && not (eqb (get_or book (at - 2) 0) line_feed))
    && not (eqb (get_or book (at - 3) 0) line_feed))
    && not (eqb (get_or book (at - 4) 0) line_feed))

pub record FourBefore (book : List ℕ) (place : Place) : Type 0 where
  pub four : 4 ≤ place.at
  pub first : eqb (get_or book (place.at - 1) 0) line_feed ≡ false
  pub second : eqb (get_or book (place.at - 2) 0) line_feed ≡ false
  pub third : eqb (get_or book (place.at - 3) 0) line_feed ≡ false
  pub fourth : eqb (get_or book (place.at - 4) 0) line_feed ≡ false

-- a run of carriage returns, as far back as it goes
pub record Returns (book : List ℕ) (start end : ℕ) : Type 0 where
  pub back : start ≤ end
  pub run : drop start book ≡ replicate (end - start) carriage_return ++ drop end book
  pub first : 0 < start → eqb (get_or book (start - 1) 0) carriage_return ≡ false

-- what is known of the text behind a place
pub record Ahead (book : List ℕ) (place : Place) : Type 0 where
  pub inside : place.at ≤ length book
  pub spaces : place.space ≡ space_first (drop place.at book)
  pub changing : place.altered ≡ changed (first_line (drop place.at book))
  -- a carriage return right in front of it stays
  pub settled : 0 < place.at → eqb (get_or book (place.at - 1) 0) carriage_return ≡ true → feed_first (drop place.at book) ≡ false

-- a text with more in front of it: a byte, and before a line feed the carriage returns of the run that ends there
pub record Over (b : ℕ) (text more : List ℕ) : Type 0 where
  pub returns : ℕ
  pub bytes : more ≡ replicate returns carriage_return ++ b ∷ text
  pub alone : eqb b line_feed ≡ false → returns ≡ 0
  pub settled : eqb b line_feed ≡ false → eqb b carriage_return ≡ true → feed_first text ≡ false

-- one step back
pub record Stepped (book : List ℕ) (b : ℕ) (place next : Place) : Type 0 where
  pub back : next.at < place.at
  pub over : Over b (drop place.at book) (drop next.at book)
  pub ahead : Ahead book next

-- over a byte that is no line feed, in whatever book
abbrev pub PastByte : ℕ → Place → Place → Type 0
PastByte b place r =
    (book : List ℕ) → 0 < place.at → b ≡ get_or book (place.at - 1) 0 → eqb b line_feed ≡ false → Ahead book place → Stepped book b place r

-- the sizes of what a text is repaired to; of altered lines, those behind the first one
pub record Sized (text : List ℕ) (sizes : Sizes) : Type 0 where
  pub bytes : sizes.dropped + length (bytewise text) ≡ length text
  pub lines : (n : ℕ) → sizes.lines ≡ length (later_numbers n text)
  pub feeding : sizes.feeds ≡ feeds text
  pub few_lines : sizes.lines ≤ sizes.feeds
  pub few_feeds : sizes.feeds ≤ length text

-- a book measured from a place on
pub record Measuring (book : List ℕ) (place : Place) (sizes : Sizes) : Type 0 where
  pub limit : length book ≤ 65536
  pub ahead : Ahead book place
  pub sized : Sized (drop place.at book) sizes

-- one byte more that is no line feed, in whatever book
abbrev pub BytePassed : ℕ → Place → Sizes → Place → Sizes → Type 0
BytePassed b place sizes next sizes' =
    (book : List ℕ) → b ≡ byte_before book place → eqb b line_feed ≡ false → Measuring book place sizes → (suc next.at ≡ place.at) × Measuring book next sizes'

-- the sizes of what a book is repaired to
pub record Measured (book : List ℕ) (sizes : Sizes) : Type 0 where
  pub bytes : sizes.dropped + length (bytewise book) ≡ length book
  pub lines : sizes.lines ≡ length (numbers_of 1 book)
  pub feeding : sizes.feeds ≡ feeds book
  pub few_feeds : sizes.feeds ≤ length book

-- a number was put into a list, in front of what it holds from a place on, or left out
abbrev pub Pushed : Bool → ℕ → ℕ → List ℕ → List ℕ → ℕ → Type 0
Pushed true n at before after r = (r ≡ at) × (after ≡ before)
Pushed false n at before after r = (suc r ≡ at) × (after ≡ set before r n)

-- what has to hold before a number is put there
pub record Room (skip : Bool) (at : ℕ) (list : List ℕ) : Type 0 where
  pub inside : at ≤ length list
  pub some : skip ≡ false → 0 < at

-- of a byte that is left out, the tab of its run stands there already
pub record RoomForByte (skip : Bool) (at : ℕ) (buffer : List ℕ) : Type 0 where
  pub room : Room skip at buffer
  pub there : skip ≡ true → (at < length buffer) × (get_or buffer at 0 ≡ tab)

abbrev pub SomeIf : Bool → ℕ → Type 0
SomeIf less n = less ≡ true → 0 < n

-- the number of the line behind a byte, from that of the byte's line
abbrev pub line_behind : ℕ → ℕ → ℕ
line_behind b n = plus_if (eqb b line_feed) n

-- before one step of writing
pub record Placeable (book buffer list : List ℕ) (filled : Filled) : Type 0 where
  pub some : 0 < filled.place.at
  pub ahead : Ahead book filled.place
  pub byte_room : RoomForByte (eqb (byte_before book filled.place) space && filled.place.space) filled.bytes buffer
  pub line_room : Room (not (eqb (byte_before book filled.place) line_feed && filled.place.altered)) filled.lines list
  pub numbered : 0 < filled.line

-- and after it
pub record PutOver (book : List ℕ) (filled r : Filled) (buffer buffer' list list' : List ℕ) : Type 0 where
  pub stepped : Stepped book (byte_before book filled.place) filled.place r.place
  pub byte :
      Pushed (eqb (byte_before book filled.place) space && filled.place.space) (tabbed (byte_before book filled.place)) filled.bytes buffer buffer' r.bytes
  pub number : Pushed (not (eqb (byte_before book filled.place) line_feed && filled.place.altered)) filled.line filled.lines list list' r.lines
  pub line : filled.line ≡ line_behind (byte_before book filled.place) r.line

-- the numbers stand from `at` on, so many more are to come, and the rest is as it was
pub record Back (xs : List ℕ) (at end : ℕ) (before after : List ℕ) : Type 0 where
  pub fits : at + length xs ≡ end
  pub room : end ≤ length before
  pub holds : after ≡ placed_at at xs before

-- both lists, with what stands behind a place written
pub record Filling (book buffer₀ list₀ buffer list : List ℕ) (filled : Filled) : Type 0 where
  pub ahead : Ahead book filled.place
  pub numbered : filled.line + feeds (drop filled.place.at book) ≡ suc (feeds book)
  pub bytes : Back (bytewise (drop filled.place.at book)) filled.bytes (length (bytewise book)) buffer₀ buffer
  pub numbers : Back (later_numbers (suc filled.line) (drop filled.place.at book)) filled.lines (length (numbers_of 1 book)) list₀ list

-- as it may be before one step of writing
pub record Fillable (book buffer list : List ℕ) (filled : Filled) : Type 0 where
  pub buffer₀ : List ℕ
  pub list₀ : List ℕ
  pub filling : Filling book buffer₀ list₀ buffer list filled

-- and after it, whatever stood in both lists before
abbrev pub Refilled : List ℕ → Filled → Filled → List ℕ → List ℕ → List ℕ → List ℕ → Type 0
Refilled book filled r buffer buffer' list list' =
    (buffer₀ list₀ : List ℕ) → Filling book buffer₀ list₀ buffer list filled → (r.place.at < filled.place.at) × Filling book buffer₀ list₀ buffer' list' r

-- over a byte that is no line feed the list stays as it is, in whatever book
abbrev pub BytePut : ℕ → Filled → Filled → List ℕ → List ℕ → Type 0
BytePut b filled r buffer buffer' =
    (book list : List ℕ) → b ≡ byte_before book filled.place → eqb b line_feed ≡ false → Placeable book buffer list filled → PutOver book filled r buffer buffer' list list

-- where no list is at hand
abbrev pub FourPut : List ℕ → Filled → Filled → List ℕ → List ℕ → Type 0
FourPut book filled r buffer buffer' = (list : List ℕ) → Refilled book filled r buffer buffer' list list

pub record FourFillable (book buffer : List ℕ) (filled : Filled) : Type 0 where
  pub list : List ℕ
  pub fillable : Fillable book buffer list filled

-- before both lists are written
pub record Ready (book buffer list : List ℕ) (sizes : Sizes) : Type 0 where
  pub limit : length book ≤ 65536
  pub measured : Measured book sizes
  pub bytes_fit : length (bytewise book) ≤ length buffer
  pub lines_fit : length (numbers_of 1 book) ≤ length list
