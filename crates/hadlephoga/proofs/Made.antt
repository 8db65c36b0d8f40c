-- An array made from a function of the place, whose first places are read from slices. Assumes nothing.
use Rattle.std.proofs.Common.{◌≡◌, ℕ, zero, suc, ◌+◌, ◌*◌, ◌-◌, ◌≤◌, ◌<◌, ◌⊎◌, inl, inr, List, [], take, get_or, map, refl, sym, ap, subst, ◌∙◌, arith}
use Rattle.std.specs.Array.{IsFromFnResult, IsFromFnResultFrom}
use Rattle.std.specs.Fn.{Called}
use Rattle.std.proofs.lemmas.List.{get_or-map, get_or-take, same_lists}
use denote.Param.Members.{Mut}
use lib.ListN.{length-map}
use lib.Seq.{length-take-le}
use Rattle.hadlephoga.specs.Records.{slices}
use Rattle.hadlephoga.proofs.Pieces.{length_slices, part, piece_at}

here_or_later : (i k : ℕ) → i ≤ k → (i ≡ k) ⊎ (i + 1 ≤ k)
here_or_later zero zero h = inl refl
here_or_later zero (suc k) h = inr (omega arith)
here_or_later (suc i) zero h = absurd (omega arith)
here_or_later (suc i) (suc k) h = elim (here_or_later i k (omega arith)) [ inl e ↦ inl (ap suc e) | inr l ↦ inr (omega arith) ]

module _ {F B : Type 0} (g : Mut F (ℕ × Unit {0}) B) (f : F) (value : ℕ → B) (count : ℕ) (says : (i : ℕ) (y : B) (q : F) → Called g f (i, tt) y q → (q ≡ f) × (i < count → y ≡ value i)) where
  -- what stands in each place below the count
  made_from : (p : F) → p ≡ f → (ys : List B) (i n : ℕ) → IsFromFnResultFrom g p ys i n → (k : ℕ) (d : B) → i ≤ k → k < i + n → k < count → get_or ys k d ≡ value k
  made_from p e ys i zero h k d l m c = absurd (omega arith)
  made_from p e ys i (suc n) (q, y, at, called, rest) k d l m c =
      let s = says i y q (subst (λ (r : F). Called g r (i, tt) y q) e called) in
      go s (here_or_later i k l) (λ later. made_from q s.0 ys (i + 1) n rest k d later (omega arith) c)
    where
      go : (q ≡ f) × (i < count → y ≡ value i) → (i ≡ k) ⊎ (i + 1 ≤ k) → (i + 1 ≤ k → get_or ys k d ≡ value k) → get_or ys k d ≡ value k
      go s (inl here) next = subst (λ (m : ℕ). get_or ys m d ≡ value m) here (at.1 d ∙ s.1 (omega arith))
      go s (inr later) next = next later

  pub made_front : (width places : ℕ) (read : List ℕ → B) (ns : List ℕ) (ys : List B) → count ≤ places → ((i : ℕ) → value i ≡ read (part width ns (i * width))) → IsFromFnResult g f ys places →
      take count ys ≡ map read (slices width count ns)
  made_front width places read ns ys le is made =
      same_lists (take count ys) (map read (slices width count ns))
      (length-take-le count ys (omega (arith, made.long)) ∙ sym (length-map (slices width count ns) read ∙ length_slices width count ns))
      (λ k d h.
      let c : k < count = omega (arith, h, length-take-le count ys (omega (arith, made.long))) in
      let n : k * width + width - k * width ≡ width = omega arith in
      let piece : part width ns (k * width) ≡ get_or (slices width count ns) k [] = rw n (sym (piece_at width count ns k c)) in
      get_or-take count ys k d c ∙ made_from f refl ys 0 places made.each k d (omega arith) (omega arith) c ∙ is k ∙ ap read piece
      ∙ sym (get_or-map read (slices width count ns) k [] d (omega (arith, length_slices width count ns))))
