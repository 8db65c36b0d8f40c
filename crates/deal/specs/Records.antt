-- A deal's record: its parts, and which records operations accept. 01: What a deal holds; 40 of Reporting a deal
use Rattle.std.specs.Prelude.{Bool, ◌&&◌, List, eqb, length}
use Rattle.base.specs.Places.{in_places}
use Rattle.deal.specs.Collateral.{collateral_list_allowed, empty_collateral}
use Rattle.deal.specs.Fields.{zero_collateral, zero_guarantee}
use Rattle.deal.specs.Guarantees.{empty_guarantees, guarantee_list_allowed}
use Rattle.deal.specs.Lists.{list_limit}
use Rattle.deal.specs.Terms.{terms_refusal}
use Rattle.deal.specs.declared.terms.Terms.{Terms}
use Rattle.deal.specs.declared.collateral.Collateral.{Collateral}
use Rattle.deal.specs.declared.collateral.CollateralList.{CollateralList}
use Rattle.deal.specs.declared.guarantee.Guarantee.{Guarantee}
use Rattle.deal.specs.declared.guarantee.GuaranteeList.{GuaranteeList}
use Rattle.deal.specs.declared.deal.Deal.{Deal}

-- the deal that these parts make
abbrev pub deal_of : Terms → CollateralList → GuaranteeList → Deal
deal_of t cs gs = record { terms = t; collateral = cs; guarantees = gs }

-- "Without protection all its lists are empty" (01: Betterments)
abbrev pub without_protection : Terms → Deal
without_protection t = deal_of t empty_collateral empty_guarantees

-- a deal with these items, at most sixteen in each list; zeros in the places past them
abbrev pub deal_with : Terms → List Collateral → List Guarantee → Deal
deal_with t cs gs = record {
  terms = t;
  collateral = record { items = in_places list_limit zero_collateral cs; count = length cs };
  guarantees = record { items = in_places list_limit zero_guarantee gs; count = length gs };
}

-- what adding asks of a record: no "list count above sixteen", and no "field, of the deal or of a counted item, that opening or adding
-- would refuse"
unfoldable pub record_allowed : Deal → Bool
record_allowed d = eqb (terms_refusal d.terms) 0 && collateral_list_allowed d.collateral && guarantee_list_allowed d.guarantees

-- what reporting accepts: the same. "An accepted deal is a record on which reporting's 40 does not fall, however it came about" (01: Betterments)
unfoldable pub accepted : Deal → Bool
accepted d = record_allowed d
