-- A deal by its fields and items. 01: Betterments, "Its items are the counted ones in order of adding; unchanged is said of its fields
-- and items, not of how a record holds them". Amounts, the report of an accepted deal and a betterment are said of views
use Rattle.std.specs.Prelude.{Bool, ◌&&◌, List, [], leb, eqb, length}
use Rattle.base.specs.All.{all_pass}
use Rattle.deal.specs.Terms.{terms_refusal}
use Rattle.deal.specs.Collateral.{collateral_refusal, counted_collateral}
use Rattle.deal.specs.Guarantees.{guarantee_refusal, counted_guarantees}
use Rattle.deal.specs.Lists.{list_limit}
use Rattle.deal.specs.Records.{deal_with}
use Rattle.deal.specs.declared.terms.Terms.{Terms}
use Rattle.deal.specs.declared.collateral.Collateral.{Collateral}
use Rattle.deal.specs.declared.guarantee.Guarantee.{Guarantee}
use Rattle.deal.specs.declared.deal.Deal.{Deal}

-- collateral and guarantees each in order of adding
pub record View : Type 0 where
  pub terms : Terms
  pub collateral : List Collateral
  pub guarantees : List Guarantee

abbrev pub view_of : Deal → View
view_of d = record { terms = d.terms; collateral = counted_collateral d.collateral; guarantees = counted_guarantees d.guarantees }

-- a deal on these terms with these items
abbrev pub view_on : Terms → List Collateral → List Guarantee → View
view_on t cs gs = record { terms = t; collateral = cs; guarantees = gs }

-- "Without protection all its lists are empty"
abbrev pub unprotected : Terms → View
unprotected t = record { terms = t; collateral = []; guarantees = [] }

-- whether reporting would take such a deal: every field one that opening or adding takes, at most sixteen items in each list. Of a
-- record whose counts are within its places it says what `accepted` says (`accepted_view_lem`, `view_accepted`)
unfoldable pub accepted_view : View → Bool
accepted_view v =
    eqb (terms_refusal v.terms) 0
    && (leb (length v.collateral) list_limit && all_pass v.collateral (λ c. eqb (collateral_refusal c) 0))
    && (leb (length v.guarantees) list_limit && all_pass v.guarantees (λ g. eqb (guarantee_refusal g) 0))

-- a record that holds these fields and items, one of many, where neither list has more than sixteen
abbrev pub record_of : View → Deal
record_of v = deal_with v.terms v.collateral v.guarantees
