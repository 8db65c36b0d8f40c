-- Terms and items and the numbers that are sent for them: one is read from the other and written back unchanged. Assumes nothing.
use Prim.Native.Nat.{ℕ}
use mathlib.Core.Path.{◌≡◌, refl}
use mathlib.Core.List.{List}
use lib.ListN.{length}
use Rattle.base.proofs.Arrays.{as_read}
use Rattle.deal.specs.Fields.{collateral_fields, collateral_in, collateral_width, guarantee_fields, guarantee_in, guarantee_width, terms_fields, terms_in, terms_width}
use Rattle.deal.specs.declared.terms.Terms.{Terms}
use Rattle.deal.specs.declared.collateral.Collateral.{Collateral}
use Rattle.deal.specs.declared.guarantee.Guarantee.{Guarantee}

pub terms_back : (t : Terms) → terms_in (terms_fields t) ≡ t
terms_back t = refl

pub terms_forth : (ns : List ℕ) → length ns ≡ terms_width → terms_fields (terms_in ns) ≡ ns
terms_forth ns e = rw e at (as_read ns)

pub collateral_back : (c : Collateral) → collateral_in (collateral_fields c) ≡ c
collateral_back c = refl

pub collateral_forth : (ns : List ℕ) → length ns ≡ collateral_width → collateral_fields (collateral_in ns) ≡ ns
collateral_forth ns e = rw e at (as_read ns)

pub guarantee_back : (g : Guarantee) → guarantee_in (guarantee_fields g) ≡ g
guarantee_back g = refl

pub guarantee_forth : (ns : List ℕ) → length ns ≡ guarantee_width → guarantee_fields (guarantee_in ns) ≡ ns
guarantee_forth ns e = rw e at (as_read ns)
