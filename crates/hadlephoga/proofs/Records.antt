-- Records and the numbers that they are: one is read from the other and written back unchanged. Assumes nothing.
use Prim.Native.Nat.{ℕ, ◌*◌}
use mathlib.Core.Path.{◌≡◌, refl, ap, ◌∙◌}
use mathlib.Core.List.{List, [], ◌∷◌, ◌++◌, map, append_assoc, append-nil}
use native.Mathlib.Omega.{arith}
use lib.ListN.{length, take, drop, get_or, length-append, length-drop, length-map, take-append-drop, drop_of_length-le}
use lib.Seq.{drop_at, get_or_at, length-take-le, take-add, take_at, take-suc}
use Rattle.base.specs.Writing.{overwrite}
use Rattle.deal.specs.Fields.{collateral_fields, collateral_in, collateral_width, guarantee_fields, guarantee_in, guarantee_width, terms_fields, terms_in, terms_width}
use Rattle.deal.specs.Lists.{list_limit}
use Rattle.deal.specs.declared.terms.Terms.{Terms}
use Rattle.deal.specs.declared.collateral.Collateral.{Collateral}
use Rattle.deal.specs.declared.guarantee.Guarantee.{Guarantee}
use Rattle.deal.specs.declared.deal.Deal.{Deal}
use Rattle.deal.proofs.BothWays.{collateral_back, collateral_forth, guarantee_back, guarantee_forth, terms_back, terms_forth}
use Rattle.hadlephoga.specs.Records.{collateral_count_at, collateral_length, deal_in, deal_numbers, first_collateral, first_guarantee, guarantee_count_at, in_order, slices, record_length}
use Rattle.hadlephoga.proofs.Numbers.{length_in_order}
use Rattle.hadlephoga.proofs.Pieces.{length_slices, read_back, written_back}

-- where the five parts stand
module _ (ts cs gs : List ℕ) (c g : ℕ) (wide : length ts ≡ terms_width) (long : length cs ≡ collateral_length) where
  abbrev parts : List ℕ
  parts = ts ++ (c ∷ []) ++ cs ++ (g ∷ []) ++ gs

  terms_part : take terms_width parts ≡ ts
  terms_part = simp append_assoc (take_at ts _ terms_width wide)

  collateral_count : get_or parts collateral_count_at 0 ≡ c
  collateral_count = simp append_assoc (get_or_at ts c _ 0 terms_width wide)

  collateral_part : take collateral_length (drop first_collateral parts) ≡ cs
  collateral_part =
      let e : length (ts ++ (c ∷ [])) ≡ first_collateral = length-append ts (c ∷ []) ∙ omega (arith, wide) in
      let behind : drop first_collateral parts ≡ cs ++ (g ∷ gs) = simp append_assoc (simp append_assoc at (drop_at (ts ++ (c ∷ [])) (cs ++ (g ∷ gs)) first_collateral e)) in
      rw behind (take_at cs _ collateral_length long)

  in_front : length (ts ++ (c ∷ []) ++ cs) ≡ guarantee_count_at
  in_front = omega (arith, length-append (ts ++ (c ∷ [])) cs, length-append ts (c ∷ []), wide, long)

  guarantee_count : get_or parts guarantee_count_at 0 ≡ g
  guarantee_count = rw (append_assoc (ts ++ (c ∷ []) ++ cs) (g ∷ []) gs) (get_or_at (ts ++ (c ∷ []) ++ cs) g gs 0 guarantee_count_at in_front)

  guarantees_part : drop first_guarantee parts ≡ gs
  guarantees_part = drop_at (ts ++ (c ∷ []) ++ cs ++ (g ∷ [])) gs first_guarantee (omega (arith, length-append (ts ++ (c ∷ []) ++ cs) (g ∷ []), in_front))

-- how many numbers they are
pub length_places : {A : Type 0} (f : A → List ℕ) (width : ℕ) → ((x : A) → length (f x) ≡ width) → (xs : List A) → length xs ≡ list_limit →
    length (in_order f xs) ≡ list_limit * width
length_places f width each xs e = length_in_order f width each xs ∙ ap (λ n. n * width) e

-- part by part
abbrev made : Terms → List Collateral → ℕ → List Guarantee → ℕ → Deal
made t cs c gs g = record { terms = t; collateral = record { items = cs; count = c }; guarantees = record { items = gs; count = g } }

same_deal : {t t' : Terms} {cs cs' : List Collateral} {c c' : ℕ} {gs gs' : List Guarantee} {g g' : ℕ} →
    t ≡ t' → cs ≡ cs' → c ≡ c' → gs ≡ gs' → g ≡ g' → made t cs c gs g ≡ made t' cs' c' gs' g'
same_deal p q r u v = rw (p, q, r, u, v)

same_parts : {ts ts' cs cs' gs gs' : List ℕ} (c g : ℕ) → ts ≡ ts' → cs ≡ cs' → gs ≡ gs' →
    ts ++ (c ∷ []) ++ cs ++ (g ∷ []) ++ gs ≡ ts' ++ (c ∷ []) ++ cs' ++ (g ∷ []) ++ gs'
same_parts c g p q r = rw (p, q, r)

-- a deal whose two lists have sixteen places
pub record HasPlaces (d : Deal) : Type 0 where
  pub pledged : length d.collateral.items ≡ list_limit
  pub guaranteed : length d.guarantees.items ≡ list_limit

pub in_places : (ns : List ℕ) → HasPlaces (deal_in ns)
unfolding deal_in
in_places ns = record { pledged = rw length-map (length_slices collateral_width list_limit _); guaranteed = rw length-map (length_slices guarantee_width list_limit _) }

module _ (d : Deal) (p : HasPlaces d) where
  pub length_numbers : length (deal_numbers d) ≡ record_length
  unfolding deal_numbers
  length_numbers =
      let cs = length_places collateral_fields collateral_width (λ x. refl) d.collateral.items p.pledged in
      let gs = length_places guarantee_fields guarantee_width (λ x. refl) d.guarantees.items p.guaranteed in
      simp length-append (omega (arith, cs, gs))

  -- over numbers that are a record nothing of them stays
  pub over_record : (before : List ℕ) → length before ≡ record_length → overwrite (deal_numbers d) before ≡ deal_numbers d
  over_record before e = rw (drop_of_length-le before {i = length (deal_numbers d)} (omega (arith, e, length_numbers))) (append-nil _)

  pub deal_back : deal_in (deal_numbers d) ≡ d
  unfolding deal_in deal_numbers
  deal_back =
      let ts = terms_fields d.terms in
      let cs = in_order collateral_fields d.collateral.items in
      let gs = in_order guarantee_fields d.guarantees.items in
      let c = d.collateral.count in
      let g = d.guarantees.count in
      let long : length cs ≡ collateral_length = length_places collateral_fields collateral_width (λ x. refl) d.collateral.items p.pledged in
      let pledged : map collateral_in (slices collateral_width list_limit cs) ≡ d.collateral.items = rw p.pledged at (read_back collateral_fields collateral_in collateral_width (λ x. refl) collateral_back d.collateral.items) in
      let guaranteed : map guarantee_in (slices guarantee_width list_limit gs) ≡ d.guarantees.items = rw p.guaranteed at (read_back guarantee_fields guarantee_in guarantee_width (λ x. refl) guarantee_back d.guarantees.items) in
      same_deal
      (ap terms_in (terms_part ts cs gs c g refl long) ∙ terms_back d.terms)
      (ap (λ ns. map collateral_in (slices collateral_width list_limit ns)) (collateral_part ts cs gs c g refl long) ∙ pledged)
      (collateral_count ts cs gs c g refl long)
      (ap (λ ns. map guarantee_in (slices guarantee_width list_limit ns)) (guarantees_part ts cs gs c g refl long) ∙ guaranteed)
      (guarantee_count ts cs gs c g refl long)

pub deal_forth : (ns : List ℕ) → length ns ≡ record_length → deal_numbers (deal_in ns) ≡ ns
unfolding deal_in deal_numbers
deal_forth ns e =
    let pledged = take collateral_length (drop first_collateral ns) in
    same_parts (get_or ns collateral_count_at 0) (get_or ns guarantee_count_at 0)
    (terms_forth (take terms_width ns) (length-take-le terms_width ns (omega (arith, e))))
    (written_back collateral_fields collateral_in collateral_width collateral_forth list_limit pledged (length-take-le collateral_length (drop first_collateral ns) (omega (arith, e, length-drop first_collateral ns))))
    (written_back guarantee_fields guarantee_in guarantee_width guarantee_forth list_limit (drop first_guarantee ns) (length-drop first_guarantee ns ∙ omega (arith, e)))
    ∙ rw (← take-suc ns terms_width 0 (omega (arith, e)), ← take-add first_collateral collateral_length ns, ← take-suc ns guarantee_count_at 0 (omega (arith, e)))
    (take-append-drop first_guarantee ns)
