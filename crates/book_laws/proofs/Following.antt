-- Texts one behind the other: the lines of both, and the deals of both. Assumes nothing.
use Prim.Native.Nat.{ℕ, suc, ◌+◌}
use mathlib.Core.Path.{◌≡◌, refl, sym, ◌∙◌, ap}
use mathlib.Core.Bool.{Bool, true, false}
use mathlib.Core.List.{List, [], ◌∷◌, ◌++◌}
use native.Mathlib.Omega.{arith}
use lib.Dec.{eqb}
use lib.ListN.{length, take}
use Rattle.base.specs.All.{all_pass}
use Rattle.base.proofs.Every.{both}
use Rattle.text.specs.Text.{line_feed, extend_first, lines_of}
use Rattle.text.proofs.Lines.{lines_fed, lines_unfed, lines_first, no_lines}
use Rattle.book.specs.Deals.{opens_deal, own_lines, deals_from}
use Rattle.book.proofs.Grouping.{deals_open, deals_pass, own_more, own_end, no_own, no_deals}
use Rattle.book_laws.specs.Parts.{ended}

-- a text that ends in a line feed and another have the lines of both
pub lines_append : (a b : List ℕ) → ended a ≡ true → lines_of (a ++ b) ≡ lines_of a ++ lines_of b
unfolding extend_first ended
lines_append [] b h = rw no_lines
lines_append (x ∷ []) b h = lines_fed x b h ∙ rw (lines_fed x [] h, no_lines)
lines_append (x ∷ y ∷ ys) b h = go (lines_append (y ∷ ys) b h) (eqb x line_feed) refl
  where
    go : lines_of (y ∷ (ys ++ b)) ≡ lines_of (y ∷ ys) ++ lines_of b → (t : Bool) → eqb x line_feed ≡ t
        → lines_of (x ∷ y ∷ (ys ++ b)) ≡ lines_of (x ∷ y ∷ ys) ++ lines_of b
    go k true e = rw (lines_fed x (y ∷ (ys ++ b)) e, lines_fed x (y ∷ ys) e, k)
    go k false e = rw (lines_unfed x (y ∷ (ys ++ b)) e, lines_unfed x (y ∷ ys) e, k, lines_first y ys)

-- lines that start with a deal, if there are any, are no one else's own
own_append : (ls ms : List (List ℕ)) → all_pass (take 1 ms) opens_deal ≡ true → own_lines (ls ++ ms) ≡ own_lines ls
own_append [] [] h = refl
own_append [] (m ∷ ms) h = own_end m ms (both (opens_deal m) true h).0 ∙ sym no_own
own_append (l ∷ ls) ms h = go (own_append ls ms h) (opens_deal l) refl
  where
    go : own_lines (ls ++ ms) ≡ own_lines ls → (t : Bool) → opens_deal l ≡ t → own_lines (l ∷ (ls ++ ms)) ≡ own_lines (l ∷ ls)
    go k true e = own_end l (ls ++ ms) e ∙ sym (own_end l ls e)
    go k false e = own_more l (ls ++ ms) e ∙ ap (λ r. l ∷ r) k ∙ sym (own_more l ls e)

-- and their deals stand behind the others
pub deals_append : (number : ℕ) (ls ms : List (List ℕ)) → all_pass (take 1 ms) opens_deal ≡ true
    → deals_from number (ls ++ ms) ≡ deals_from number ls ++ deals_from (number + length ls) ms
deals_append number [] ms h =
    let e : number ≡ number + 0 = omega arith in
    rw (no_deals number) (ap (λ n. deals_from n ms) e)
deals_append number (l ∷ ls) ms h = go (deals_append (number + 1) ls ms h) (opens_deal l) refl
  where
    e : number + 1 + length ls ≡ number + suc (length ls)
    e = omega arith

    go : deals_from (number + 1) (ls ++ ms) ≡ deals_from (number + 1) ls ++ deals_from (number + 1 + length ls) ms → (t : Bool) → opens_deal l ≡ t
        → deals_from number (l ∷ (ls ++ ms)) ≡ deals_from number (l ∷ ls) ++ deals_from (number + suc (length ls)) ms
    go k true p = deals_open number l (ls ++ ms) p ∙ rw (own_append ls ms h, deals_open number l ls p, k, e)
    go k false p = deals_pass number l (ls ++ ms) p ∙ rw (deals_pass number l ls p, k, e)
