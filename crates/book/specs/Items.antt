-- The items of a deal while its lines are read. Only contracts of inner functions use this; a deal's answer is said without it.
use Rattle.std.specs.Prelude.{ℕ}
use Rattle.deal.specs.Collateral.{collateral_list_refusal, collateral_list_with}
use Rattle.deal.specs.Guarantees.{guarantee_list_refusal, guarantee_list_with}
use Rattle.lines.specs.declared.line.Line.{Line}
use Rattle.lines.specs.declared.line.Line.TheVariants.{DealLine, CollateralLine, GuaranteeLine, Malformed}
use Rattle.book.specs.Answers.{malformed_line}
use Rattle.book.specs.declared.reading.Items.{Items}

-- how its list refuses the item on a line, or 0
unfoldable pub item_refusal : Items → Line → ℕ
item_refusal items (CollateralLine c) = collateral_list_refusal items.collateral c
item_refusal items (GuaranteeLine g) = guarantee_list_refusal items.guarantees g
item_refusal items (DealLine terms) = malformed_line
item_refusal items Malformed = malformed_line

-- the items after it
unfoldable pub with_item : Items → Line → Items
with_item items (CollateralLine c) = record { collateral = collateral_list_with items.collateral c; guarantees = items.guarantees }
with_item items (GuaranteeLine g) = record { collateral = items.collateral; guarantees = guarantee_list_with items.guarantees g }
with_item items (DealLine terms) = items
with_item items Malformed = items
