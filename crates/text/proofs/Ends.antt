-- Where a line ends: bytes passed one by one. Assumes nothing.
use Prim.Native.Nat.{ℕ, zero, suc, ◌+◌, ◌≤◌, ◌<◌}
use mathlib.Core.Path.{◌≡◌, refl}
use mathlib.Core.Bool.{true, false}
use mathlib.Core.List.{List}
use borrow.Author.Tests.{eq-eqb}
use native.Mathlib.Omega.{arith}
use native.Mathlib.Numerals.{add-one}
use lib.Dec.{eqb}
use lib.ListN.{length, drop, get_or, drop_of_length-le}
use lib.Seq.{drop-cons}
use Rattle.base.proofs.Every.{both}
use Rattle.base.proofs.Tests.{told_not_false}
use Rattle.text.specs.Text.{first_line, line_feed}
use Rattle.text.specs.NoFeeds.{no_feeds}
use Rattle.text.specs.WithinLine.{Near}

module _ (text : List ℕ) (at : ℕ) where
  pub fed : at < length text → get_or text at 0 ≡ line_feed → length (first_line (drop at text)) ≡ 1
  unfolding first_line
  fed h e = rw (drop-cons text at 0 h, eq-eqb _ _ e)

  no_feed : at < length text → eqb (get_or text at 0) line_feed ≡ false → length (first_line (drop at text)) ≡ length (first_line (drop (at + 1) text)) + 1
  unfolding first_line
  no_feed h e = rw (add-one at, drop-cons text at 0 h, e, add-one)

  pub past : length text ≤ at → length (first_line (drop at text)) ≡ 0
  unfolding first_line
  past h = rw (drop_of_length-le text h)

-- one byte further on
pub nearer : (text : List ℕ) (start at : ℕ) → Near text start at → at < length text → eqb (get_or text at 0) line_feed ≡ false → Near text start (at + 1)
nearer text start at p h e = record { inside = omega arith; same = omega (arith, p.same, no_feed text at h e) }

-- several
pub nearer_by : (text : List ℕ) (start at : ℕ) → Near text start at → (n : ℕ) → at + n ≤ length text → no_feeds n text at ≡ true → Near text start (at + n)
unfolding no_feeds
nearer_by text start at p zero h e = let q : at ≡ at + 0 = omega arith in rw q at p
nearer_by text start at p (suc n) h e =
    let b = both (no_feeds n text at) _ e in
    let q : at + n + 1 ≡ at + suc n = omega arith in
    rw q at (nearer text start (at + n) (nearer_by text start at p n (omega arith) b.0) (omega arith) (told_not_false _ _ refl b.1))
