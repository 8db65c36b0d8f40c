-- Betterments of each kind that lower the reported amount, and a list of them with refused ones, computed. Assumes nothing.
use Prim.Native.Nat.{ℕ, ◌≤◌}
use mathlib.Core.Path.{◌≡◌, refl}
use mathlib.Core.Bool.{Bool, true, ◌&&◌}
use mathlib.Core.List.{List, [], ◌∷◌, ◌++◌}
use native.Mathlib.Omega.{arith}
use lib.Dec.{ltb}
use lib.ListN.{replicate}
use Rattle.base.specs.All.{all_pass}
use Rattle.deal.specs.Fields.{guarantee_in, terms_in}
use Rattle.deal.specs.Records.{accepted, without_protection}
use Rattle.deal.specs.declared.terms.Terms.{Terms}
use Rattle.deal.specs.declared.collateral.Collateral.{Collateral}
use Rattle.deal.specs.declared.guarantee.Guarantee.{Guarantee}
use Rattle.deal.specs.declared.deal.Deal.{Deal}
use Rattle.relief.proofs.Computed.{computed}
use Rattle.relief.specs.Report.{report_of}
use Rattle.betterment.specs.Places.{changed_collateral, changed_guarantee, changed_terms, interval_place}
use Rattle.deal.specs.Views.{View, view_of, accepted_view, record_of}
use Rattle.betterment.specs.Betterments.{OneOf, BetterItem, BetterCollateral, BetterGuarantee, better_number, restructuring_met, BetterTerms, OneChanged, OneMore, Better, Betterments}
use Rattle.betterment.proofs.Theorem.{betterments_never_raise}

-- the first deal of 01, The book: a loan of 1,000,000, sovereign debt of 400,000 and a sovereign's guarantee of 200,000
abbrev loan : Terms
loan = terms_in (1000000 ∷ 3 ∷ 0 ∷ 0 ∷ 978 ∷ 3 ∷ 1 ∷ 1800 ∷ 1 ∷ 0 ∷ 0 ∷ 1 ∷ [])

abbrev pledge : ℕ → ℕ → Collateral
pledge goods step = record {
  amount = 400000;
  asset = record { goods = goods; step = step; life = 720 };
  currency = 978;
  residual = 1800;
  original = 1800;
  lawful = 1;
  unrelated = 1;
  not_in_rating = 1;
  listed = 0;
}

abbrev debt : Collateral
debt = pledge 2 1

abbrev backing : Guarantee
backing = record {
  amount = 200000;
  provider = record { class = 1; step = 1; sovereign_step = 0 };
  currency = 978;
  residual = 1800;
  original = 1800;
  lawful = 1;
  direct = 1;
  not_in_rating = 1;
  instrument = 0;
}

-- the same as a swap of which restructuring is no credit event
abbrev swap : Guarantee
swap = changed_guarantee 10 1 backing

abbrev deal : Terms → List Collateral → List Guarantee → Deal
deal t cs gs = record_of (record { terms = t; collateral = cs; guarantees = gs })

-- the weighted amount that reporting gives, worked out
amount : Deal → ℕ
unfolding computed
amount d = (report_of d).rwa

book : amount (deal loan (debt ∷ []) (backing ∷ [])) ≡ 411314
unfolding amount
book = refl

swapped : amount (deal loan (debt ∷ []) (swap ∷ [])) ∷ amount (deal loan (debt ∷ []) (changed_guarantee 10 2 swap ∷ [])) ∷ [] ≡ 491314 ∷ 411314 ∷ []
unfolding amount
swapped = refl

-- one betterment, from a deal to the deal that is proposed
record Case : Type 0 where
  old : Deal
  new : Deal
  better : Better (view_of old) (view_of new)

-- both are accepted, and the amount that reporting gives falls
abbrev lowered : Case → Bool
lowered x = accepted x.old && accepted x.new && ltb (amount x.new) (amount x.old)

-- of an item that stands first, and of one that stands behind another
abbrev of_collateral : {c c' : Collateral} → BetterCollateral 978 c c' → List Case
of_collateral {c} {c'} b =
    record { old = deal loan (c ∷ []) []; new = deal loan (c' ∷ []) []; better = Better.better_collateral (OneChanged.here b) }
    ∷ record { old = deal loan (debt ∷ c ∷ []) []; new = deal loan (debt ∷ c' ∷ []) []; better = Better.better_collateral (OneChanged.later (OneChanged.here b)) }
    ∷ []

abbrev of_guarantee : {g g' : Guarantee} → BetterGuarantee 978 g g' → List Case
of_guarantee {g} {g'} b =
    record { old = deal loan [] (g ∷ []); new = deal loan [] (g' ∷ []); better = Better.better_guarantee (OneChanged.here b) }
    ∷ record { old = deal loan [] (backing ∷ g ∷ []); new = deal loan [] (backing ∷ g' ∷ []); better = Better.better_guarantee (OneChanged.later (OneChanged.here b)) }
    ∷ []

-- of a guarantee under the second edition
abbrev loan_2 : Terms
loan_2 = terms_in (1000000 ∷ 3 ∷ 0 ∷ 6 ∷ 978 ∷ 3 ∷ 1 ∷ 1800 ∷ 1 ∷ 0 ∷ 0 ∷ 2 ∷ [])

abbrev of_floored : {g g' : Guarantee} → BetterGuarantee 978 g g' → List Case
of_floored {g} {g'} b =
    record { old = deal loan_2 [] (g ∷ []); new = deal loan_2 [] (g' ∷ []); better = Better.better_guarantee (OneChanged.here b) }
    ∷ record { old = deal loan_2 [] (backing ∷ g ∷ []); new = deal loan_2 [] (backing ∷ g' ∷ []); better = Better.better_guarantee (OneChanged.later (OneChanged.here b)) }
    ∷ []

-- of the terms, with collateral that a shorter interval makes worth more
abbrev of_terms : {t t' : Terms} → BetterTerms t t' → List Case
of_terms {t} {t'} b = record { old = deal t (debt ∷ []) []; new = deal t' (debt ∷ []) []; better = Better.better_terms b } ∷ []

abbrev cases : List Case
cases =
    of_collateral (BetterItem.higher {x = changed_collateral 0 100000 debt} OneOf.here 400000 (omega arith))
    ++ of_collateral (BetterItem.higher {x = changed_collateral 5 900 debt} (OneOf.later OneOf.here) 1800 (omega arith))
    -- 25, "mismatch with original term under 360", no longer
    ++ of_collateral (BetterItem.higher {x = changed_collateral 6 359 (changed_collateral 5 300 debt)} (OneOf.later (OneOf.later OneOf.here)) 360 (omega arith))
    ++ of_collateral (BetterItem.smaller_step {x = changed_collateral 2 3 debt} OneOf.here 1 (omega arith))
    ++ of_collateral (BetterItem.deal_currency {x = changed_collateral 4 840 debt} OneOf.here)
    ++ of_collateral (BetterItem.now_met {x = changed_collateral 7 0 debt} OneOf.here refl)
    ++ of_collateral (BetterItem.now_met {x = changed_collateral 8 0 debt} (OneOf.later OneOf.here) refl)
    ++ of_collateral (BetterItem.now_met {x = changed_collateral 9 0 debt} (OneOf.later (OneOf.later OneOf.here)) refl)
    -- bank debt, unrated
    ++ of_collateral (BetterItem.now_met {x = pledge 4 0} (OneOf.later (OneOf.later (OneOf.later OneOf.here))) refl)
    ++ of_guarantee (better_number (BetterItem.higher {x = changed_guarantee 0 100000 backing} OneOf.here 200000 (omega arith)))
    ++ of_guarantee (better_number (BetterItem.higher {x = changed_guarantee 5 900 backing} (OneOf.later OneOf.here) 1800 (omega arith)))
    ++ of_guarantee (better_number (BetterItem.higher {x = changed_guarantee 6 359 (changed_guarantee 5 300 backing)} (OneOf.later (OneOf.later OneOf.here)) 360 (omega arith)))
    ++ of_guarantee (better_number (BetterItem.smaller_step {x = changed_guarantee 2 3 backing} OneOf.here 2 (omega arith)))
    ++ of_guarantee (better_number (BetterItem.deal_currency {x = changed_guarantee 4 840 backing} OneOf.here))
    ++ of_guarantee (better_number (BetterItem.now_met {x = changed_guarantee 7 0 backing} OneOf.here refl))
    ++ of_guarantee (better_number (BetterItem.now_met {x = changed_guarantee 8 0 backing} (OneOf.later OneOf.here) refl))
    ++ of_guarantee (better_number (BetterItem.now_met {x = changed_guarantee 9 0 backing} (OneOf.later (OneOf.later OneOf.here)) refl))
    -- an unrated bank under a sovereign of step 4, then of step 2: 100 and 50, for an unrated corporate under one of step 6, which weighs 150
    ++ of_floored (better_number (BetterItem.smaller_step {x = guarantee_in (200000 ∷ 2 ∷ 0 ∷ 4 ∷ 978 ∷ 1800 ∷ 1800 ∷ 1 ∷ 1 ∷ 1 ∷ [])} (OneOf.later OneOf.here) 2 (omega arith)))
    -- the same of a swap, whose 200,000 count as 120,000 without its condition; and the condition
    ++ of_guarantee (better_number (BetterItem.higher {x = changed_guarantee 0 100000 swap} OneOf.here 200000 (omega arith)))
    ++ of_guarantee (better_number (BetterItem.higher {x = changed_guarantee 5 900 swap} (OneOf.later OneOf.here) 1800 (omega arith)))
    ++ of_guarantee (better_number (BetterItem.higher {x = changed_guarantee 6 359 (changed_guarantee 5 300 swap)} (OneOf.later (OneOf.later OneOf.here)) 360 (omega arith)))
    ++ of_guarantee (better_number (BetterItem.smaller_step {x = changed_guarantee 2 3 swap} OneOf.here 2 (omega arith)))
    ++ of_guarantee (better_number (BetterItem.deal_currency {x = changed_guarantee 4 840 swap} OneOf.here))
    ++ of_guarantee (better_number (BetterItem.now_met {x = changed_guarantee 7 0 swap} OneOf.here refl))
    ++ of_guarantee (better_number (BetterItem.now_met {x = changed_guarantee 8 0 swap} (OneOf.later OneOf.here) refl))
    ++ of_guarantee (better_number (BetterItem.now_met {x = changed_guarantee 9 0 swap} (OneOf.later (OneOf.later OneOf.here)) refl))
    ++ of_floored (better_number (BetterItem.smaller_step {x = guarantee_in (200000 ∷ 2 ∷ 0 ∷ 4 ∷ 978 ∷ 1800 ∷ 1800 ∷ 1 ∷ 1 ∷ 1 ∷ 1 ∷ [])} (OneOf.later OneOf.here) 2 (omega arith)))
    ++ of_guarantee (restructuring_met {g = swap} refl)
    -- and where it is met
    ++ of_guarantee (better_number (BetterItem.higher {x = changed_guarantee 0 100000 (changed_guarantee 10 2 swap)} OneOf.here 200000 (omega arith)))
    -- sovereign debt lent under a repo
    ++ of_terms (BetterTerms.smaller_lent_step {t = terms_in (1000000 ∷ 3 ∷ 0 ∷ 0 ∷ 978 ∷ 1 ∷ 1 ∷ 1800 ∷ 2 ∷ 4 ∷ 720 ∷ 1 ∷ [])} 1 (omega arith))
    ++ of_terms (BetterTerms.smaller_interval {t = changed_terms interval_place 250 loan} 1 (omega arith))
    -- one more item, in front of another and behind it
    ++ record { old = deal loan (debt ∷ []) []; new = deal loan (pledge 2 3 ∷ debt ∷ []) []; better = Better.more_collateral OneMore.here }
    ∷ record { old = deal loan (debt ∷ []) []; new = deal loan (debt ∷ pledge 2 3 ∷ []) []; better = Better.more_collateral (OneMore.later OneMore.here) }
    ∷ record { old = deal loan [] (backing ∷ []); new = deal loan [] (swap ∷ backing ∷ []); better = Better.more_guarantees OneMore.here }
    ∷ record { old = deal loan [] (backing ∷ []); new = deal loan [] (backing ∷ swap ∷ []); better = Better.more_guarantees (OneMore.later OneMore.here) }
    ∷ record { old = deal loan [] (swap ∷ swap ∷ []); new = deal loan [] (swap ∷ changed_guarantee 10 2 swap ∷ swap ∷ []); better = Better.more_guarantees (OneMore.later OneMore.here) }
    ∷ record { old = deal loan [] (backing ∷ []); new = deal loan [] (changed_guarantee 2 2 backing ∷ backing ∷ []); better = Better.more_guarantees OneMore.here }
    ∷ record { old = deal loan [] (backing ∷ []); new = deal loan [] (backing ∷ changed_guarantee 2 2 backing ∷ []); better = Better.more_guarantees (OneMore.later OneMore.here) }
    ∷ []

-- EACH KIND OF BETTERMENT, AND EACH PLACE OF IT, CAN LOWER THE REPORTED AMOUNT
each_lowers : all_pass cases lowered ≡ true
unfolding amount
each_lowers = refl

-- A list of betterments. The loan with sixteen pieces of the debt; a seventeenth is refused, and a residual term above the original;
-- a higher amount and a guarantee are not
abbrev piece : Collateral
piece = changed_collateral 0 10000 debt

abbrev start : Deal
start = deal loan (replicate 16 piece) []

abbrev after : List Collateral
after = changed_collateral 0 50000 debt ∷ replicate 15 piece

abbrev seventeen : View
seventeen = record { terms = loan; collateral = piece ∷ replicate 16 piece; guarantees = [] }

abbrev overlong : View
overlong = record { terms = loan; collateral = changed_collateral 5 1801 piece ∷ replicate 15 piece; guarantees = [] }

start_accepted : accepted start ≡ true
unfolding amount
start_accepted = refl

some_refused : Betterments start (deal loan after (backing ∷ []))
unfolding amount accepted_view
some_refused =
    Betterments.refused seventeen (Better.more_collateral OneMore.here) refl
    (Betterments.refused overlong (Better.better_collateral (OneChanged.here (BetterItem.higher {x = piece} (OneOf.later OneOf.here) 1801 (omega arith)))) refl
    (Betterments.made {d' = deal loan after []} (Better.better_collateral (OneChanged.here (BetterItem.higher {x = piece} OneOf.here 50000 (omega arith)))) refl
    (Betterments.made {d' = deal loan after (backing ∷ [])} (Better.more_guarantees OneMore.here) refl
    Betterments.no_more)))

-- before, after, and after without protection
amounts : amount start ∷ amount (deal loan after (backing ∷ [])) ∷ amount (without_protection loan) ∷ [] ≡ 844528 ∷ 605660 ∷ 1000000 ∷ []
unfolding amount
amounts = refl

-- as the rule says
rule : ((report_of (deal loan after (backing ∷ []))).rwa ≤ (report_of start).rwa)
    × ((report_of (deal loan after (backing ∷ []))).rwa ≤ (report_of (without_protection loan)).rwa)
rule = betterments_never_raise start (deal loan after (backing ∷ [])) start_accepted some_refused
