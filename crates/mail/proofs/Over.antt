-- What a text is repaired to, with one step's bytes in front of it. Assumes nothing.
use Rattle.std.proofs.Common.{if◌then◌else◌}
use Prim.Native.Nat.{ℕ, zero, suc, ◌+◌}
use mathlib.Core.Path.{◌≡◌, refl, sym, ap, ◌∙◌}
use mathlib.Core.Bool.{Bool, true, false, not, ◌&&◌, ◌||◌}
use mathlib.Core.List.{List, ◌∷◌, ◌++◌}
use native.Mathlib.Omega.{arith}
use borrow.Author.Tests.{eqb-true, lt-ltb}
use lib.Dec.{eqb, ltb}
use lib.ListN.{length, drop, replicate, length-append, length-replicate}
use Rattle.text.specs.Text.{line_feed, first_line}
use Rattle.text.proofs.Lines.{lines_fed}
use Rattle.mail.specs.Mail.{space, carriage_return}
use Rattle.mail.specs.Bytewise.{space_first, feed_first, tabbed, bytewise, changed, changed_from, numbers_of, later_numbers}
use Rattle.mail.specs.Feeds.{plus_if, feeds}
use Rattle.mail.specs.Working.{Over}
use Rattle.mail.proofs.Kind.{Kind, kind, a_space, a_return, a_feed, other}
use Rattle.mail.proofs.Numbers.{changed_first, numbers_first, later_unfed}

-- a line feed with the carriage returns of its run in front of it
abbrev pub fed : ℕ → List ℕ → List ℕ
fed k text = replicate k carriage_return ++ line_feed ∷ text

-- a step is over those, or over one byte
pub over_cases : {b : ℕ} {text more : List ℕ} (P : ℕ → List ℕ → Type 0) → Over b text more → ((k : ℕ) → P line_feed (fed k text)) →
    ((c : ℕ) → eqb c line_feed ≡ false → (eqb c carriage_return ≡ true → feed_first text ≡ false) → P c (c ∷ text)) → P b more
over_cases {b} {text} {more} P o feed byte = go (eqb b line_feed) refl
  where
    go : (t : Bool) → eqb b line_feed ≡ t → P b more
    go true e = rw (o.bytes, eqb-true b line_feed e) (feed o.returns)
    go false e = rw (o.bytes, o.alone e) (byte b e (o.settled e))

-- a run of carriage returns that ends at a line feed is dropped
fed_first : (k : ℕ) (text : List ℕ) → feed_first (fed k text) ≡ true
unfolding feed_first
fed_first zero text = refl
fed_first (suc k) text = fed_first k text

pub fed_bytes : (k : ℕ) (text : List ℕ) → bytewise (fed k text) ≡ line_feed ∷ bytewise text
unfolding bytewise tabbed
fed_bytes zero text = refl
fed_bytes (suc k) text = rw (fed_first k text) (fed_bytes k text)

pub fed_space : (k : ℕ) (text : List ℕ) → space_first (fed k text) ≡ false
unfolding space_first
fed_space zero text = refl
fed_space (suc k) text = refl

pub fed_changed : (k : ℕ) (text : List ℕ) → changed (first_line (fed k text)) ≡ ltb 0 k
fed_changed zero text = changed_first line_feed text
fed_changed (suc k) text = changed_first carriage_return (fed k text) ∙ rw (fed_first k text) (sym (lt-ltb 0 (suc k) (omega arith)))

fed_later : (n k : ℕ) (text : List ℕ) → later_numbers n (fed k text) ≡ numbers_of n text
fed_later n zero text = ap (λ lines. changed_from n (drop 1 lines)) (lines_fed line_feed text refl)
fed_later n (suc k) text = later_unfed n carriage_return (fed k text) refl ∙ fed_later n k text

fed_feeds : (k : ℕ) (text : List ℕ) → feeds (fed k text) ≡ suc (feeds text)
unfolding feeds
fed_feeds zero text = refl
fed_feeds (suc k) text = fed_feeds k text

pub fed_length : (k : ℕ) (text : List ℕ) → length (fed k text) ≡ k + suc (length text)
fed_length k text = length-append (replicate k carriage_return) (line_feed ∷ text) ∙ rw (length-replicate k carriage_return)

-- another byte, which stays unless it is a space with a space behind it
pub byte_kept : (b : ℕ) (text : List ℕ) → (eqb b carriage_return ≡ true → feed_first text ≡ false) →
    bytewise (b ∷ text) ≡ (if eqb b space && space_first text then bytewise text else tabbed b ∷ bytewise text)
unfolding bytewise
byte_kept b text settled = go (kind b) settled (space_first text) refl
  where
    go : {b : ℕ} → Kind b → (eqb b carriage_return ≡ true → feed_first text ≡ false) → (s : Bool) → space_first text ≡ s
        → bytewise (b ∷ text) ≡ (if eqb b space && space_first text then bytewise text else tabbed b ∷ bytewise text)
    go a_space h true e = rw e
    go a_space h false e = rw e
    go a_return h s e = rw (h refl)
    go a_feed h s e = refl
    go (other p q r) h s e = rw (p, q)

pub byte_changed : (b : ℕ) (text : List ℕ) → eqb b line_feed ≡ false → (eqb b carriage_return ≡ true → feed_first text ≡ false) →
    changed (first_line (b ∷ text)) ≡ (eqb b space || changed (first_line text))
byte_changed b text e settled = changed_first b text ∙ rw e (go (kind b) settled)
  where
    go : {b : ℕ} → Kind b → (eqb b carriage_return ≡ true → feed_first text ≡ false)
        → ((eqb b space || (eqb b carriage_return && feed_first text)) || changed (first_line text)) ≡ (eqb b space || changed (first_line text))
    go a_space h = refl
    go a_return h = rw (h refl)
    go a_feed h = refl
    go (other p q r) h = rw (p, q)

pub byte_feed : (b : ℕ) (text : List ℕ) → eqb b line_feed ≡ false → (eqb b carriage_return ≡ true → feed_first text ≡ false) → feed_first (b ∷ text) ≡ false
unfolding feed_first
byte_feed b text e settled = rw e (go (eqb b carriage_return) refl)
  where
    go : (t : Bool) → eqb b carriage_return ≡ t → (eqb b carriage_return && feed_first text) ≡ false
    go true h = rw (h, settled h)
    go false h = rw h

-- either
module _ {b : ℕ} {text more : List ℕ} (o : Over b text more) where
  pub over_bytes : bytewise more ≡ (if eqb b space && space_first text then bytewise text else tabbed b ∷ bytewise text)
  unfolding tabbed
  over_bytes =
      over_cases
      (λ b more. bytewise more ≡ (if eqb b space && space_first text then bytewise text else tabbed b ∷ bytewise text))
      o
      (λ k. fed_bytes k text)
      (λ c e settled. byte_kept c text settled)

  pub over_numbers : (n : ℕ) →
      later_numbers n more
      ≡ (if not (eqb b line_feed && changed (first_line text)) then later_numbers (plus_if (eqb b line_feed) n) text else n ∷ later_numbers (plus_if (eqb b line_feed) n) text)
  over_numbers n =
      over_cases
      (λ b more. later_numbers n more
      ≡ (if not (eqb b line_feed && changed (first_line text)) then later_numbers (plus_if (eqb b line_feed) n) text else n ∷ later_numbers (plus_if (eqb b line_feed) n) text))
      o
      (λ k. fed_later n k text ∙ numbers_first n text ∙ turned (changed (first_line text)))
      (λ c e settled. later_unfed n c text e ∙ rw e)
    where
      turned : (t : Bool)
          → (if t then n ∷ later_numbers (suc n) text else later_numbers (suc n) text) ≡ (if not t then later_numbers (suc n) text else n ∷ later_numbers (suc n) text)
      turned true = refl
      turned false = refl

  pub over_feeds : feeds more ≡ plus_if (eqb b line_feed) (feeds text)
  unfolding feeds
  over_feeds = over_cases (λ b more. feeds more ≡ plus_if (eqb b line_feed) (feeds text)) o (λ k. fed_feeds k text) (λ c e settled. refl)

  pub over_length : length more ≡ o.returns + suc (length text)
  over_length = rw o.bytes (length-append (replicate o.returns carriage_return) (b ∷ text) ∙ rw (length-replicate o.returns carriage_return))
