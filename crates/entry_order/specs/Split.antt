-- A cash item in two parts. 02: L7, "one unmismatched cash item in the deal's currency may be split in two, while both fit"
use Rattle.std.specs.Prelude.{ℕ, ◌+◌, ◌≡◌, false, List, ◌∷◌, drop}
use Rattle.base.specs.Reordered.{Inserted}
use Rattle.tables.specs.Goods.{cash}
use Rattle.valuation.specs.Protection.{is_mismatch}
use Rattle.deal.specs.Fields.{collateral_fields, collateral_in}
use Rattle.deal.specs.Views.{View}
use Rattle.deal.specs.declared.terms.Terms.{Terms}
use Rattle.deal.specs.declared.collateral.Collateral.{Collateral}

-- "unmismatched cash item in the deal's currency". Whether it is recognised is not asked: where it is left out, so are its parts
pub record MatchedCash (t : Terms) (c : Collateral) : Type 0 where
  pub goods : c.asset.goods ≡ cash
  pub currency : c.currency ≡ t.currency
  pub matched : is_mismatch c.residual t.residual ≡ false

-- the item with another amount, which is its first number, and all else unchanged
abbrev pub with_amount : ℕ → Collateral → Collateral
with_amount amount c = collateral_in (amount ∷ drop 1 (collateral_fields c))

-- "split in two": instead of one such item two, alike in all but their amounts, which add up to its own; either may be 0. Each part stands
-- anywhere
pub record Split (t : Terms) (cs cs' : List Collateral) : Type 0 where
  pub item : Collateral
  pub is_cash : MatchedCash t item
  pub first : ℕ
  pub second : ℕ
  pub adds_up : first + second ≡ item.amount
  -- the items but this one, and these with the first part
  pub others : List Collateral
  pub with_first : List Collateral
  pub item_there : Inserted item others cs
  pub first_there : Inserted (with_amount first item) others with_first
  pub second_there : Inserted (with_amount second item) with_first cs'

-- two deals by their fields and items, all but that item the same
pub record SplitInTwo (v v' : View) : Type 0 where
  pub terms : v.terms ≡ v'.terms
  pub collateral : Split v.terms v.collateral v'.collateral
  pub guarantees : v.guarantees ≡ v'.guarantees
