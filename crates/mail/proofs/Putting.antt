-- One step back, written. Assumes nothing.
use Prim.Native.Nat.{ℕ, ◌-◌, ◌<◌}
use mathlib.Core.Path.{◌≡◌, refl}
use mathlib.Core.Bool.{not}
use mathlib.Core.List.{List}
use native.Mathlib.Omega.{arith}
use lib.ListN.{set}
use Rattle.text.specs.Text.{line_feed}
use Rattle.mail.specs.Bytewise.{tabbed}
use Rattle.mail.specs.Working.{Placeable, Pushed, PutOver, Stepped, byte_before}
use Rattle.mail.specs.declared.place.Place.{Place}
use Rattle.mail.specs.declared.write.Filled.{Filled}

module _ (book buffer list : List ℕ) (filled : Filled) (p : Placeable book buffer list filled) where
  -- over a line feed
  module _ (e : byte_before book filled.place ≡ line_feed) where
    pub feed_some : 0 < filled.bytes
    feed_some = p.byte_room.room.some (rw e)

    pub feed_put : (next : Place) (list' : List ℕ) (r : ℕ) → Stepped book line_feed filled.place next →
        Pushed (not filled.place.altered) filled.line filled.lines list list' r →
        PutOver book filled (record { place = next; bytes = filled.bytes - 1; lines = r; line = filled.line - 1 }) buffer (set buffer (filled.bytes - 1) line_feed) list list'
    unfolding tabbed
    feed_put next list' r s q =
        record {
          stepped = rw e s;
          byte = rw e (omega (arith, feed_some), refl);
          number = rw e q;
          line = rw e (omega (arith, p.numbered));
        }
