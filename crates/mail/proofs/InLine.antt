-- Bytes of a line written one in front of the other. Assumes nothing.
use Prim.Native.Nat.{ℕ, suc, ◌+◌, ◌-◌, ◌<◌}
use mathlib.Core.Path.{◌≡◌, refl, sym, ap, ◌∙◌}
use mathlib.Core.Bool.{false, ◌&&◌}
use mathlib.Core.List.{List}
use native.Mathlib.Omega.{arith}
use lib.Dec.{eqb}
use lib.ListN.{get_or}
use Rattle.text.specs.Text.{line_feed}
use Rattle.mail.specs.Mail.{space}
use Rattle.mail.specs.Working.{BytePut, Filling, FourBefore, RoomForByte, byte_before}
use Rattle.mail.specs.declared.write.Filled.{Filled}
use Rattle.mail.proofs.Filling.{fill_step, placeable}
use Rattle.mail.proofs.Stepping.{one_step}

module _ (book buffer₀ list₀ list : List ℕ) where
  module _ (filled : Filled) (buffer : List ℕ) (b : ℕ) (some : 0 < filled.place.at) (f : Filling book buffer₀ list₀ buffer list filled) (e : b ≡ byte_before book filled.place) where
    pub room_on : RoomForByte (eqb b space && filled.place.space) filled.bytes buffer
    room_on = rw e (placeable book buffer₀ list₀ buffer list filled f some).byte_room

    pub put_on : (r : Filled) (buffer' : List ℕ) → eqb b line_feed ≡ false → BytePut b filled r buffer buffer' →
        (suc r.place.at ≡ filled.place.at) × Filling book buffer₀ list₀ buffer' list r
    put_on r buffer' unfed p =
        let o = p book list e unfed (placeable book buffer₀ list₀ buffer list filled f some) in (
          one_step book _ filled.place r.place f.ahead.inside (ap (λ n. eqb n line_feed) (sym e) ∙ unfed) o.stepped,
          fill_step book buffer₀ list₀ buffer list filled f r buffer' list o,
        )

  -- four of them
  module _ (filled : Filled) (buffer : List ℕ) (f : Filling book buffer₀ list₀ buffer list filled) (four : FourBefore book filled.place) where
    abbrev at : ℕ
    at = filled.place.at

    some : 0 < at
    some = omega (arith, four.four)

    pub first_room : RoomForByte (eqb (get_or book (at - 1) 0) space && filled.place.space) filled.bytes buffer
    first_room = room_on filled buffer (get_or book (at - 1) 0) some f refl

    module _ (r₁ : Filled) (b₁ : List ℕ) (p₁ : BytePut (get_or book (at - 1) 0) filled r₁ buffer b₁) where
      pub one_put : (1 + r₁.place.at ≡ at) × Filling book buffer₀ list₀ b₁ list r₁
      one_put = let r = put_on filled buffer (get_or book (at - 1) 0) some f refl r₁ b₁ four.first p₁ in (omega (arith, r.0), r.1)

      second : get_or book (at - 2) 0 ≡ byte_before book r₁.place
      second = let e : at - 2 ≡ r₁.place.at - 1 = omega (arith, one_put.0) in ap (λ i. get_or book i 0) e

      pub second_room : RoomForByte (eqb (get_or book (at - 2) 0) space && r₁.place.space) r₁.bytes b₁
      second_room = room_on r₁ b₁ (get_or book (at - 2) 0) (omega (arith, one_put.0, four.four)) one_put.1 second

      module _ (r₂ : Filled) (b₂ : List ℕ) (p₂ : BytePut (get_or book (at - 2) 0) r₁ r₂ b₁ b₂) where
        pub two_put : (2 + r₂.place.at ≡ at) × Filling book buffer₀ list₀ b₂ list r₂
        two_put =
            let r = put_on r₁ b₁ (get_or book (at - 2) 0) (omega (arith, one_put.0, four.four)) one_put.1 second r₂ b₂ four.second p₂ in
            (omega (arith, r.0, one_put.0), r.1)

        third : get_or book (at - 3) 0 ≡ byte_before book r₂.place
        third = let e : at - 3 ≡ r₂.place.at - 1 = omega (arith, two_put.0) in ap (λ i. get_or book i 0) e

        pub third_room : RoomForByte (eqb (get_or book (at - 3) 0) space && r₂.place.space) r₂.bytes b₂
        third_room = room_on r₂ b₂ (get_or book (at - 3) 0) (omega (arith, two_put.0, four.four)) two_put.1 third

        module _ (r₃ : Filled) (b₃ : List ℕ) (p₃ : BytePut (get_or book (at - 3) 0) r₂ r₃ b₂ b₃) where
          pub three_put : (3 + r₃.place.at ≡ at) × Filling book buffer₀ list₀ b₃ list r₃
          three_put =
              let r = put_on r₂ b₂ (get_or book (at - 3) 0) (omega (arith, two_put.0, four.four)) two_put.1 third r₃ b₃ four.third p₃ in
              (omega (arith, r.0, two_put.0), r.1)

          fourth : get_or book (at - 4) 0 ≡ byte_before book r₃.place
          fourth = let e : at - 4 ≡ r₃.place.at - 1 = omega (arith, three_put.0) in ap (λ i. get_or book i 0) e

          pub fourth_room : RoomForByte (eqb (get_or book (at - 4) 0) space && r₃.place.space) r₃.bytes b₃
          fourth_room = room_on r₃ b₃ (get_or book (at - 4) 0) (omega (arith, three_put.0, four.four)) three_put.1 fourth

          pub four_put : (r₄ : Filled) (b₄ : List ℕ) → BytePut (get_or book (at - 4) 0) r₃ r₄ b₃ b₄ → (r₄.place.at < at) × Filling book buffer₀ list₀ b₄ list r₄
          four_put r₄ b₄ p₄ =
              let r = put_on r₃ b₃ (get_or book (at - 4) 0) (omega (arith, three_put.0, four.four)) three_put.1 fourth r₄ b₄ four.fourth p₄ in
              (omega (arith, r.0, three_put.0), r.1)
