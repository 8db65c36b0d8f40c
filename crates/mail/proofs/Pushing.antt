-- A byte that is put in front of others, or left out. Assumes nothing.
use Prim.Native.Nat.{ℕ}
use mathlib.Core.Path.{◌≡◌, refl, sym, ap, ◌∙◌}
use mathlib.Core.Bool.{Bool, true, false, not, ◌&&◌}
use mathlib.Core.List.{List}
use lib.Dec.{eqb}
use lib.ListN.{get_or, set}
use lib.Seq.{set-get_or}
use Rattle.base.proofs.Every.{both}
use Rattle.text.specs.Text.{tab}
use Rattle.mail.specs.Mail.{space}
use Rattle.mail.specs.Bytewise.{tabbed}
use Rattle.mail.specs.Feeds.{plus_if}
use Rattle.mail.specs.Working.{Pushed, RoomForByte}

-- the tab that stands there is written again
pub pushed_byte : (b : ℕ) (spaced : Bool) (at r : ℕ) (buffer : List ℕ) → RoomForByte (eqb b space && spaced) at buffer → at ≡ plus_if (not (eqb b space && spaced)) r →
    Pushed (eqb b space && spaced) (tabbed b) at buffer (set buffer r (tabbed b)) r
unfolding tabbed
pushed_byte b spaced at r buffer h e = go (eqb b space && spaced) refl h e
  where
    again : eqb b space ≡ true → get_or buffer r 0 ≡ tab → set buffer r (tabbed b) ≡ buffer
    again s t = rw s (ap (λ n. set buffer r n) (sym t) ∙ set-get_or buffer r 0)

    go : (skip : Bool) → (eqb b space && spaced) ≡ skip → RoomForByte skip at buffer → at ≡ plus_if (not skip) r → Pushed skip (tabbed b) at buffer (set buffer r (tabbed b)) r
    go true k h e = (sym e, again (both (eqb b space) spaced k).0 (rw e at (h.there refl).1))
    go false k h e = (sym e, refl)
