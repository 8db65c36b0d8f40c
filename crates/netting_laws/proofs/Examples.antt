-- Betterments of a netting set that lower its figures, a net that changes side and refused ones among them, computed. Assumes nothing.
use Prim.Native.Nat.{ℕ, ◌+◌, ◌≤◌}
use mathlib.Core.Path.{◌≡◌, refl}
use mathlib.Core.Bool.{true}
use mathlib.Core.List.{List, [], ◌∷◌, map}
use native.Mathlib.Omega.{arith}
use lib.IntN.{pos, negsuc}
use Rattle.netting.specs.Exposure.{currency_add_on, security_add_on}
use Rattle.netting.specs.Fields.{position_in, set_terms_in}
use Rattle.netting.specs.Groups.{member}
use Rattle.netting.specs.Haircuts.{currency_haircut_over, security_haircut}
use Rattle.netting.specs.Nets.{net}
use Rattle.netting.specs.Reply.{set_reply}
use Rattle.netting.specs.declared.group.Group.{Group}
use Rattle.netting.specs.declared.position.Position.{Position}
use Rattle.netting.specs.declared.set.NettingSet.{NettingSet}
use Rattle.netting.specs.declared.terms.SetTerms.{SetTerms}
use Rattle.netting.proofs.Computed.{computed}
use Rattle.netting_laws.specs.Betterments.{BetterSet, SetBetterments, accepted_set, accepted_set_view, lent_alone, lent_only, set_with}
use Rattle.netting_laws.specs.ByNumber.{haircut_for, of_currency, of_security}
use Rattle.netting_laws.proofs.Theorem.{set_never_raised}

-- a bank at step 3, revalued every so many days
abbrev agreement : ℕ → SetTerms
agreement interval = set_terms_in (2 ∷ 2 ∷ 3 ∷ 1 ∷ 978 ∷ interval ∷ [])

-- a state bond lent; a share lent, and received back
abbrev bond : Position
bond = position_in (1 ∷ 1000000 ∷ 101 ∷ 2 ∷ 1 ∷ 3000 ∷ 978 ∷ [])

abbrev share : ℕ → ℕ → Position
share side amount = position_in (side ∷ amount ∷ 202 ∷ 7 ∷ 0 ∷ 0 ∷ 840 ∷ [])

abbrev cash : Position
cash = position_in (2 ∷ 700000 ∷ 0 ∷ 1 ∷ 0 ∷ 0 ∷ 978 ∷ [])

-- re-securitisations are not eligible
abbrev not_eligible : Position
not_eligible = position_in (2 ∷ 1 ∷ 303 ∷ 6 ∷ 1 ∷ 300 ∷ 978 ∷ [])

abbrev start : NettingSet
start = set_with (agreement 10) (bond ∷ share 1 200000 ∷ share 2 150000 ∷ [])

abbrev larger : NettingSet
larger = set_with (agreement 10) (bond ∷ share 1 200000 ∷ share 2 260000 ∷ [])

abbrev one_more : NettingSet
one_more = set_with (agreement 10) (cash ∷ bond ∷ share 1 200000 ∷ share 2 260000 ∷ [])

abbrev oftener : NettingSet
oftener = set_with (agreement 1) (cash ∷ bond ∷ share 1 200000 ∷ share 2 260000 ∷ [])

start_accepted : accepted_set start ≡ true
unfolding set_reply computed
start_accepted = refl

-- a larger position is made, one that is not eligible is refused (16), an interval of 0 too (5); cash in front and a shorter interval are made
some_refused : SetBetterments start oftener
unfolding accepted_set_view set_reply computed
some_refused =
    SetBetterments.made {s' = larger} (BetterSet.larger_received (bond ∷ share 1 200000 ∷ []) [] (share 2 150000) 260000 refl (omega arith)) refl
    (SetBetterments.refused (record { terms = agreement 10; positions = bond ∷ not_eligible ∷ share 1 200000 ∷ share 2 260000 ∷ [] }) (BetterSet.more_received (bond ∷ []) (share 1 200000 ∷ share 2 260000 ∷ []) not_eligible refl) refl
    (SetBetterments.refused (record { terms = agreement 0; positions = bond ∷ share 1 200000 ∷ share 2 260000 ∷ [] }) (BetterSet.smaller_interval {t = agreement 10} (bond ∷ share 1 200000 ∷ share 2 260000 ∷ []) 0 (omega arith)) refl
    (SetBetterments.made {s' = one_more} (BetterSet.more_received [] (bond ∷ share 1 200000 ∷ share 2 260000 ∷ []) cash refl) refl
    (SetBetterments.made {s' = oftener} (BetterSet.smaller_interval {t = agreement 10} (cash ∷ bond ∷ share 1 200000 ∷ share 2 260000 ∷ []) 1 (omega arith)) refl
    SetBetterments.no_more))))

-- E* and the weighted amount fall at each step; with the lent positions alone both are higher
abbrev figures : NettingSet → List ℕ
figures s = (set_reply s).exposure ∷ (set_reply s).rwa ∷ []

each_lower :
    map figures (start ∷ larger ∷ one_more ∷ oftener ∷ lent_alone oftener ∷ [])
    ≡ (1110937 ∷ 555469 ∷ []) ∷ (1003658 ∷ 501829 ∷ []) ∷ (303658 ∷ 151829 ∷ []) ∷ (278044 ∷ 139022 ∷ []) ∷ (1200000 ∷ 600000 ∷ []) ∷ []
unfolding set_reply lent_only computed
each_lower = refl

-- and the share's net changed side: 50,000 more was lent, then 60,000 more was received
changed_side :
    (net (member (Group.Security 202)) (bond ∷ share 1 200000 ∷ share 2 150000 ∷ []) ≡ pos 50000)
    × (net (member (Group.Security 202)) (bond ∷ share 1 200000 ∷ share 2 260000 ∷ []) ≡ negsuc 59999)
unfolding computed
changed_side = (refl, refl)

-- as the claim says
rule : ((set_reply oftener).rwa ≤ (set_reply start).rwa) × ((set_reply oftener).rwa ≤ (set_reply (lent_alone oftener)).rwa)
rule = (set_never_raised start oftener start_accepted some_refused).0

-- the add-ons of the first set by position, and by number: 50,000 of the share, 1,000,000 of the bond; 50,000 of one currency
abbrev held : List Position
held = bond ∷ share 1 200000 ∷ share 2 150000 ∷ []

by_numbers :
    (security_add_on (security_haircut (agreement 10)) held ≡ of_security (security_haircut (agreement 10)) held 101 + of_security (security_haircut (agreement 10)) held 202)
    × (currency_add_on 978 (currency_haircut_over (agreement 10)) held ≡ of_currency 978 (currency_haircut_over (agreement 10)) held 840)
unfolding haircut_for computed
by_numbers = (refl, refl)

-- a security that is not held, the settlement currency and one that is not held add nothing
nothing_added :
    of_security (security_haircut (agreement 10)) held 7 ∷ of_currency 978 (currency_haircut_over (agreement 10)) held 978 ∷ of_currency 978 (currency_haircut_over (agreement 10)) held 826 ∷ []
    ≡ 0 ∷ 0 ∷ 0 ∷ []
unfolding haircut_for computed
nothing_added = refl
