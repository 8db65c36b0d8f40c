-- A netting set sent as numbers is answered as the set: each number is the field that the paper names in its place, and none is lost. Assumes nothing.
use Prim.Native.Nat.{ℕ, ◌+◌, ◌*◌}
use mathlib.Core.Path.{◌≡◌, refl, sym, ap, ap₂, ◌∙◌}
use mathlib.Core.List.{List, [], ◌∷◌, ◌++◌, map}
use native.Mathlib.Omega.{arith}
use lib.ListN.{length, length-append}
use Rattle.netting.specs.Fields.{position_in, position_width}
use Rattle.netting.specs.Reply.{reply_to}
use Rattle.netting.specs.declared.position.Position.{Position}
use Rattle.netting.specs.declared.terms.SetTerms.{SetTerms}
use Rattle.hadlephoga.specs.Netting.{netting_reply, position_count, positions_in}
use Rattle.hadlephoga.specs.Records.{in_order, slices}
use Rattle.hadlephoga.proofs.Netted.{reply_complete, reply_malformed}
use Rattle.hadlephoga.proofs.Numbers.{length_in_order}
use Rattle.hadlephoga.proofs.Pieces.{read_back}

-- the numbers of a set, in the order of 02: L6, the table's before them
abbrev pub set_terms_numbers : SetTerms → List ℕ
set_terms_numbers t =
    t.table ∷ t.counterparty.class ∷ t.counterparty.step ∷ t.counterparty.sovereign_step ∷ t.settlement ∷ t.interval ∷ []

abbrev pub position_numbers : Position → List ℕ
position_numbers p = p.side ∷ p.amount ∷ p.security ∷ p.asset.goods ∷ p.asset.step ∷ p.asset.life ∷ p.currency ∷ []

abbrev pub set_numbers : SetTerms → List Position → List ℕ
set_numbers t ps = set_terms_numbers t ++ in_order position_numbers ps

module _ (t : SetTerms) (ps : List Position) where
  numbers_length : length (set_numbers t ps) ≡ 6 + length ps * 7
  numbers_length = length-append (set_terms_numbers t) (in_order position_numbers ps) ∙ omega (arith, length_in_order position_numbers 7 (λ p. refl) ps)

  count_is : position_count (set_numbers t ps) ≡ length ps
  unfolding position_count
  count_is = omega (arith, numbers_length)

  positions_are : positions_in (set_numbers t ps) ≡ ps
  unfolding positions_in
  positions_are =
      ap (λ n. map position_in (slices position_width n (in_order position_numbers ps))) count_is ∙ read_back position_numbers position_in position_width (λ p. refl) (λ p. refl) ps

  -- A SET SENT AS NUMBERS, IN THEIR ORDER, IS ANSWERED AS THE SET
  pub sent_answered : netting_reply (set_numbers t ps) ≡ reply_to t (length ps) ps
  sent_answered =
      reply_complete (set_numbers t ps) (numbers_length ∙ ap (λ n. 6 + n * 7) (sym count_is))
      ∙ ap₂ (λ n qs. reply_to t n qs) count_is positions_are

-- a list of any other length is 11, with 0 and 0
pub other_length : (ns : List ℕ) → ((k : ℕ) → length ns ≡ 6 + k * 7 → ⊥) → netting_reply ns ≡ record { refusal = 11; exposure = 0; rwa = 0 }
other_length ns h = reply_malformed ns (h (position_count ns))
