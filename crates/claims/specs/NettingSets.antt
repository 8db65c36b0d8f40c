-- REPO NETTING SETS. 02: L6, "Treasury wants its master agreements in, by the formula of 22.72. A set has a counterparty class, step and sovereign's step, a
-- settlement currency, an interval of 1 to 60 days, and up to 32 positions: side (1 lent, 2 received), amount, security number 0 to 999 (0 for cash and for
-- nothing else), type, step, issue life, currency. Net each security and each currency other than settlement as a signed sum. E* is lent less received, plus
-- each absolute security net times its haircut, plus each absolute currency net times the currency haircut. Work in millionths and round up once at the end;
-- E* is not below 0 nor above all that was lent. n is interval plus 4. Cash has no security net. Unrated bank debt is not eligible here. The weighted amount is
-- E* times the counterparty's weight, divided by 100 and rounded up. A set's betterments are a larger received position, one more of them and more frequent
-- revaluation, each refused where the new set would be; without protection it keeps its lent positions alone. The set's fields come first, then a thirty-third
-- position as 6, then each position's in order: as in a deal, a wrong side as 2, a wrong security number as 5. A refused set gives zeros. (After the fields: 15 two
-- entries for one nonzero security that disagree in type, step, life or currency; 16 received goods not eligible as collateral; 17 amounts of all positions sum
-- above the amount limit.)"; L9, "A netting set names its table by that number, 2 or 3 (any other is refusal 2)"
--
-- The contract of `netting::set::NettingSet::reply` asks nothing of the caller and says that the numbers of its result (`reply_sent`) are `set_reply`. What follows
-- is proved of that definition, for every set whatever. That of `hadlephoga::hadlephoga_net_set` is over `netting_reply`: a set's numbers in their order are answered as the set (`sent_answered`
-- of that crate), and a list of any other length is 11 (`other_length`). What the tables of an edition weigh is in the claims SovereignFloor and Tables2023; lives
-- go up to 100,000 days by L11.
use Rattle.std.specs.Prelude.{ℕ, suc, ◌+◌, ◌*◌, ◌-◌, ◌≤◌, ◌<◌, min, ◌≡◌, Bool, true, false, not, ◌&&◌, ◌||◌, List, [], ◌∷◌, ◌++◌, map, ◌⊎◌, eqb, leb, get_or, length, replicate, take, if◌then◌else◌}
use Rattle.base.specs.FirstMet.{ExactFor, Test, ◌when◌}
use Rattle.base.specs.Range.{within}
use Rattle.base.specs.Rounding.{round_up}
use Rattle.base.specs.Sum.{sum_below, sum_of}
use Rattle.tables.specs.Eligibility.{eligible}
use Rattle.tables.specs.Table.{table_of}
use Rattle.scaling.specs.Scaling.{IsScaled, scaled}
use Rattle.netting.specs.Fields.{position_in, set_terms_in, zero_position}
use Rattle.netting.specs.Positions.{position_refusal}
use Rattle.netting.specs.Refusals.{set_refusal}
use Rattle.netting.specs.Reply.{NettingReply, set_reply}
use Rattle.netting.specs.Terms.{set_terms_refusal}
use Rattle.netting.specs.declared.position.Position.{Position}
use Rattle.netting.specs.declared.set.NettingSet.{NettingSet}
use Rattle.netting.specs.declared.terms.SetTerms.{SetTerms}
use Rattle.netting_laws.specs.Betterments.{BetterSet, SetBetterments, SetNeverRaised, SetView, accepted_set, accepted_set_view, lent_alone, set_view_of, set_with}
use Rattle.netting_laws.specs.ByNumber.{haircut_for}

-- the positions that a set's count names
abbrev pub its : NettingSet → List Position
its s = take s.count s.positions

-- the refusal that is due, or 0
abbrev pub due : NettingSet → ℕ
due s = set_refusal s.terms s.count (its s)

-- the amounts of the positions on a side that count, summed
abbrev pub amounts_on : ℕ → (Position → Bool) → List Position → ℕ
amounts_on side counts ps = sum_of (λ p. if (eqb p.side side && counts p) then p.amount else 0) ps

abbrev pub all_lent : List Position → ℕ
all_lent ps = amounts_on 1 (λ p. true) ps

abbrev pub all_received : List Position → ℕ
all_received ps = amounts_on 2 (λ p. true) ps

-- the absolute difference of what was lent and what was received, of the positions that count
abbrev pub netted : (Position → Bool) → List Position → ℕ
netted counts ps =
    (amounts_on 1 counts ps - amounts_on 2 counts ps) + (amounts_on 2 counts ps - amounts_on 1 counts ps)

-- H_s: the table haircut over interval + 4 days, of goods not eligible that of lent goods not eligible
abbrev pub haircut_of : SetTerms → Position → ℕ
haircut_of t p = scaled ((table_of t.table).lent_haircut p.asset.goods p.asset.step p.asset.life) (t.interval + 4)

-- Σ (E_s × H_s), over the numbers 1 to 999
abbrev pub of_securities : SetTerms → List Position → ℕ
of_securities t ps = sum_below 999 (λ k. netted (λ p. eqb p.security (suc k)) ps * haircut_for (haircut_of t) ps (suc k))

-- Σ (E_fx × H_fx), over the numbers 1 to 999 but the settlement currency's
abbrev pub of_currencies : SetTerms → List Position → ℕ
of_currencies t ps =
    sum_below 999 (λ k. if eqb (suc k) t.settlement then 0 else (netted (λ p. eqb p.currency (suc k)) ps * scaled 80000 (t.interval + 4)))

-- E* by 22.72, in millionths and rounded up once, "not below 0", as no difference of natural numbers is, "nor above all that was lent"
abbrev pub by_formula : SetTerms → List Position → ℕ
by_formula t ps =
    let lent : ℕ = all_lent ps * 1000000 + of_securities t ps + of_currencies t ps in
    let received : ℕ = all_received ps * 1000000 in
    min (all_lent ps) (round_up (lent - received) 1000000)

-- the counterparty's weight in the set's tables
abbrev pub weight_in : SetTerms → ℕ
weight_in t = (table_of t.table).counterparty_weight t.counterparty.class t.counterparty.step t.counterparty.sovereign_step

-- the reply to a set given by numbers: its terms, and seven for each position
abbrev pub reply_for : List ℕ → List (List ℕ) → NettingReply
reply_for terms positions = set_reply (set_with (set_terms_in terms) (map position_in positions))

-- goods of one type, step and life in one currency
abbrev pub Alike : Position → Position → Type 0
Alike p q =
    (p.asset.goods ≡ q.asset.goods) × ((p.asset.step ≡ q.asset.step) × ((p.asset.life ≡ q.asset.life) × (p.currency ≡ q.currency)))

-- what the set's own fields are asked, and a position's, by number: 2 table, class; 3 step, sovereign's step; 4 settlement currency; 5 interval
abbrev pub set_field_tests : SetTerms → List (Test ℕ)
set_field_tests t =
    2 when not (within 2 3 t.table && within 1 4 t.counterparty.class)
    ∷ 3 when not (
    (if eqb t.counterparty.class 4 then eqb t.counterparty.step 0 else leb t.counterparty.step 6)
    && (if (eqb t.counterparty.class 1 || eqb t.counterparty.class 4) then eqb t.counterparty.sovereign_step 0 else leb t.counterparty.sovereign_step 6)
    )
    ∷ 4 when not (within 1 999 t.settlement)
    ∷ 5 when not (within 1 60 t.interval)
    ∷ []

-- 1 amount; 2 side, type; 3 step; 4 currency; 5 security number, issue life
abbrev pub position_field_tests : Position → List (Test ℕ)
position_field_tests p =
    1 when not (leb p.amount 1000000000000)
    ∷ 2 when not (within 1 2 p.side && within 1 9 p.asset.goods)
    ∷ 3 when not (if within 2 6 p.asset.goods then leb p.asset.step 6 else eqb p.asset.step 0)
    ∷ 4 when not (within 1 999 p.currency)
    ∷ 5 when not (
    (if eqb p.asset.goods 1 then eqb p.security 0 else within 1 999 p.security)
    && (if within 2 6 p.asset.goods then within 1 100000 p.asset.life else eqb p.asset.life 0)
    )
    ∷ []

-- no field of the set or of a position is refused
abbrev pub FieldsPass : NettingSet → Type 0
FieldsPass s =
    (set_terms_refusal s.terms ≡ 0)
    × ((s.count ≤ 32) × ((i : ℕ) → i < length (its s) → position_refusal (get_or (its s) i zero_position) ≡ 0))

-- no two entries for one nonzero security differ
abbrev pub AllAlike : NettingSet → Type 0
AllAlike s =
    (i j : ℕ) → i < j → j < length (its s) → (get_or (its s) i zero_position).security ≡ (get_or (its s) j zero_position).security →
    ((get_or (its s) i zero_position).security ≡ 0 → ⊥) → Alike (get_or (its s) i zero_position) (get_or (its s) j zero_position)

-- all that was received is eligible
abbrev pub AllEligible : NettingSet → Type 0
AllEligible s =
    (i : ℕ) → i < length (its s) → (get_or (its s) i zero_position).side ≡ 2 →
    eligible (get_or (its s) i zero_position).asset.goods (get_or (its s) i zero_position).asset.step 0 ≡ true

pub record NettingSets : Type 0 where
  -- THE REPLY

  -- a set that is not refused: E* by the formula, and its weighted amount
  pub taken : (s : NettingSet) → due s ≡ 0 →
      set_reply s ≡ record { refusal = 0; exposure = by_formula s.terms (its s); rwa = round_up (by_formula s.terms (its s) * weight_in s.terms) 100 }
  -- "A refused set gives zeros"
  pub refused : (s : NettingSet) → eqb (due s) 0 ≡ false → set_reply s ≡ record { refusal = due s; exposure = 0; rwa = 0 }
  -- of an accepted set each entry for a security has the haircut that the formula takes for it; cash, whose number is 0, is no security
  pub any_entry : (s : NettingSet) → due s ≡ 0 → (i : ℕ) → i < length (its s) → ((get_or (its s) i zero_position).security ≡ 0 → ⊥) →
      haircut_for (haircut_of s.terms) (its s) (get_or (its s) i zero_position).security ≡ haircut_of s.terms (get_or (its s) i zero_position)
  -- and no number of a security or a currency is above 999, or 0 for a currency: so the sums leave nothing out
  pub numbers : (s : NettingSet) → due s ≡ 0 → (i : ℕ) → i < length (its s) →
      ((get_or (its s) i zero_position).security ≤ 999) × ((1 ≤ (get_or (its s) i zero_position).currency) × ((get_or (its s) i zero_position).currency ≤ 999))
  -- "the least whole number h with 10 × h × h at or above H × H × n" (01), of each haircut by itself
  pub scaled_by_itself : (H n : ℕ) → IsScaled H n (scaled H n)
  -- of eligible goods it is the table's, of others 25 percent in the tables of 2019 and 30 in those of 2023; and unrated bank debt is not eligible, as it has no listing
  -- condition here
  pub eligible_haircut : (table goods step life : ℕ) → eligible goods step 0 ≡ true → (table_of table).lent_haircut goods step life ≡ (table_of table).haircut goods step life
  pub other_haircut : (table goods step life : ℕ) → eligible goods step 0 ≡ false → (table_of table).lent_haircut goods step life ≡ (if eqb table 3 then 300000 else 250000)
  pub unrated_bank_debt : eligible 4 0 0 ≡ false
  -- REFUSALS, in their order

  -- "The set's fields come first"
  pub terms_first : (s : NettingSet) → eqb (set_terms_refusal s.terms) 0 ≡ false → due s ≡ set_terms_refusal s.terms
  pub terms_due : (t : SetTerms) →
      ExactFor (set_terms_refusal t) (set_field_tests t)
  -- "then a thirty-third position as 6"
  pub thirty_third : (s : NettingSet) → set_terms_refusal s.terms ≡ 0 → 32 < s.count → due s ≡ 6
  -- "then each position's in order": the first that is refused
  pub position_first : (s : NettingSet) → set_terms_refusal s.terms ≡ 0 → s.count ≤ 32 → (i : ℕ) → i < length (its s) →
      ((j : ℕ) → j < i → position_refusal (get_or (its s) j zero_position) ≡ 0) → eqb (position_refusal (get_or (its s) i zero_position)) 0 ≡ false →
      due s ≡ position_refusal (get_or (its s) i zero_position)
  pub position_due : (p : Position) →
      ExactFor (position_refusal p) (position_field_tests p)
  -- "(After the fields: 15 ..": met where two entries for one nonzero security differ, and given before 16 and 17
  pub fifteen : (s : NettingSet) → FieldsPass s → (i j : ℕ) → i < j → j < length (its s) →
      (get_or (its s) i zero_position).security ≡ (get_or (its s) j zero_position).security → ((get_or (its s) i zero_position).security ≡ 0 → ⊥) →
      (Alike (get_or (its s) i zero_position) (get_or (its s) j zero_position) → ⊥) → due s ≡ 15
  -- ".. 16 received goods not eligible as collateral": where none differ so; unrated bank debt, which has no listing here, is not eligible
  pub sixteen : (s : NettingSet) → FieldsPass s → AllAlike s → (i : ℕ) → i < length (its s) → (get_or (its s) i zero_position).side ≡ 2 →
      eligible (get_or (its s) i zero_position).asset.goods (get_or (its s) i zero_position).asset.step 0 ≡ false → due s ≡ 16
  -- ".. 17 amounts of all positions sum above the amount limit"
  pub seventeen : (s : NettingSet) → FieldsPass s → AllAlike s → AllEligible s → 1000000000000 < sum_of (λ p. p.amount) (its s) → due s ≡ 17
  -- and where none of these is met, none is given
  pub none_due : (s : NettingSet) → FieldsPass s → AllAlike s → AllEligible s → sum_of (λ p. p.amount) (its s) ≤ 1000000000000 → due s ≡ 0
  -- nor is any other set taken: of one that is, each of these holds
  pub only_then : (s : NettingSet) → due s ≡ 0 → FieldsPass s × (AllAlike s × (AllEligible s × (sum_of (λ p. p.amount) (its s) ≤ 1000000000000)))
  -- BETTERMENTS, one claim about a whole list of them, refused ones among them

  -- what they are: "a larger received position, one more of them and more frequent revaluation", wherever a position stands
  pub larger_received : (t : SetTerms) (before after : List Position) (p : Position) (new : ℕ) → p.side ≡ 2 → p.amount < new →
      BetterSet (record { terms = t; positions = before ++ p ∷ after })
      (record { terms = t; positions = before ++ record { side = 2; amount = new; security = p.security; asset = p.asset; currency = p.currency } ∷ after })
  pub one_more : (t : SetTerms) (before after : List Position) (p : Position) → p.side ≡ 2 →
      BetterSet (record { terms = t; positions = before ++ after }) (record { terms = t; positions = before ++ p ∷ after })
  pub more_frequent : (t : SetTerms) (ps : List Position) (new : ℕ) → new < t.interval →
      BetterSet (record { terms = t; positions = ps })
      (record { terms = record { table = t.table; counterparty = t.counterparty; settlement = t.settlement; interval = new }; positions = ps })
  -- "each refused where the new set would be": such a set is proposed, and either it is accepted, and then made, or it is refused
  pub would_be : (v : SetView) → accepted_set_view v ≡ eqb (set_refusal v.terms (length v.positions) v.positions) 0
  pub refused_or_made : (s : NettingSet) (v : SetView) → BetterSet (set_view_of s) v →
      (accepted_set_view v ≡ false) ⊎ (BetterSet (set_view_of s) (set_view_of (set_with v.terms v.positions)) × (accepted_set (set_with v.terms v.positions) ≡ true))
  -- an accepted set is one that is not refused, by its terms and the positions that its count names
  pub accepted_is : (s : NettingSet) → accepted_set s ≡ eqb (due s) 0
  pub view_is : (s : NettingSet) → set_view_of s ≡ record { terms = s.terms; positions = its s }
  -- a list of them: none, the same set held otherwise, one that is made, one that is refused, each with a list behind it
  pub no_more : (s : NettingSet) → SetBetterments s s
  pub held_otherwise : (s s' e : NettingSet) → set_view_of s ≡ set_view_of s' → accepted_set s' ≡ true → SetBetterments s' e → SetBetterments s e
  pub one_made : (s s' e : NettingSet) → BetterSet (set_view_of s) (set_view_of s') → accepted_set s' ≡ true → SetBetterments s' e → SetBetterments s e
  pub one_refused : (s e : NettingSet) (v : SetView) → BetterSet (set_view_of s) v → accepted_set_view v ≡ false → SetBetterments s e → SetBetterments s e
  -- the set after the list is accepted, so that its amount is a figure and not the 0 of a refusal, and so is the one with its lent positions alone
  pub still_accepted : (before after : NettingSet) → accepted_set before ≡ true → SetBetterments before after → accepted_set after ≡ true
  pub lent_accepted : (s : NettingSet) → accepted_set s ≡ true → accepted_set (lent_alone s) ≡ true
  -- no higher than before the list, nor than that of the set as it then stands, with its lent positions alone; the same of E*
  pub than_before : (before after : NettingSet) → accepted_set before ≡ true → SetBetterments before after → (set_reply after).rwa ≤ (set_reply before).rwa
  pub than_lent : (before after : NettingSet) → accepted_set before ≡ true → SetBetterments before after → (set_reply after).rwa ≤ (set_reply (lent_alone after)).rwa
  pub never_raised : SetNeverRaised
  -- without protection E* is all that was lent, weighed as the set is
  pub lent_exposure : (s : NettingSet) → accepted_set s ≡ true → (set_reply (lent_alone s)).exposure ≡ all_lent (its s)
  pub lent_weighted : (s : NettingSet) → accepted_set s ≡ true → (set_reply (lent_alone s)).rwa ≡ round_up (all_lent (its s) * weight_in s.terms) 100
  -- what makes it true: both haircuts of one position stay below the whole, under every table, at every interval to 60
  pub together : (t : SetTerms) (p : Position) → t.interval ≤ 60 → haircut_of t p + scaled 80000 (t.interval + 4) ≤ 961333
  -- SETS BY NUMBERS

  -- docs/NETTING.md: a state bond lent for cash, and a share on both sides; by table 2 and by table 3
  pub worked :
      reply_for (2 ∷ 2 ∷ 3 ∷ 1 ∷ 978 ∷ 1 ∷ [])
      ((1 ∷ 1000000 ∷ 101 ∷ 2 ∷ 1 ∷ 3000 ∷ 978 ∷ []) ∷ (2 ∷ 900000 ∷ 0 ∷ 1 ∷ 0 ∷ 0 ∷ 978 ∷ []) ∷ (1 ∷ 200000 ∷ 202 ∷ 7 ∷ 0 ∷ 0 ∷ 840 ∷ []) ∷ (2 ∷ 250000 ∷ 202 ∷ 7 ∷ 0 ∷ 0 ∷ 840 ∷ []) ∷ [])
      ≡ record { refusal = 0; exposure = 86417; rwa = 43209 }
  pub worked_2023 :
      reply_for (3 ∷ 2 ∷ 3 ∷ 1 ∷ 978 ∷ 1 ∷ [])
      ((1 ∷ 1000000 ∷ 101 ∷ 2 ∷ 1 ∷ 3000 ∷ 978 ∷ []) ∷ (2 ∷ 900000 ∷ 0 ∷ 1 ∷ 0 ∷ 0 ∷ 978 ∷ []) ∷ (1 ∷ 200000 ∷ 202 ∷ 7 ∷ 0 ∷ 0 ∷ 840 ∷ []) ∷ (2 ∷ 250000 ∷ 202 ∷ 7 ∷ 0 ∷ 0 ∷ 840 ∷ []) ∷ [])
      ≡ record { refusal = 0; exposure = 88185; rwa = 44093 }
  -- 1,000 lent alone: by table 2 to an unrated bank whose sovereign has step 6, 150 percent and not 50; by table 3 to a bank at step 2, 30 percent
  pub floored : reply_for (2 ∷ 2 ∷ 0 ∷ 6 ∷ 978 ∷ 1 ∷ []) ((1 ∷ 1000 ∷ 0 ∷ 1 ∷ 0 ∷ 0 ∷ 978 ∷ []) ∷ []) ≡ record { refusal = 0; exposure = 1000; rwa = 1500 }
  pub of_2023 : reply_for (3 ∷ 2 ∷ 2 ∷ 1 ∷ 978 ∷ 1 ∷ []) ((1 ∷ 1000 ∷ 0 ∷ 1 ∷ 0 ∷ 0 ∷ 978 ∷ []) ∷ []) ≡ record { refusal = 0; exposure = 1000; rwa = 300 }
  -- unrated bank debt received; a position that is received as one more where there are 32; an interval of 0
  pub bank_debt : reply_for (2 ∷ 2 ∷ 3 ∷ 1 ∷ 978 ∷ 1 ∷ []) ((2 ∷ 1000 ∷ 7 ∷ 4 ∷ 0 ∷ 900 ∷ 978 ∷ []) ∷ []) ≡ record { refusal = 16; exposure = 0; rwa = 0 }
  pub full : accepted_set_view (record { terms = set_terms_in (2 ∷ 2 ∷ 3 ∷ 1 ∷ 978 ∷ 1 ∷ []); positions = replicate 33 (position_in (2 ∷ 10 ∷ 0 ∷ 1 ∷ 0 ∷ 0 ∷ 978 ∷ [])) }) ≡ false
  pub not_full : accepted_set_view (record { terms = set_terms_in (2 ∷ 2 ∷ 3 ∷ 1 ∷ 978 ∷ 1 ∷ []); positions = replicate 32 (position_in (2 ∷ 10 ∷ 0 ∷ 1 ∷ 0 ∷ 0 ∷ 978 ∷ [])) }) ≡ true
  pub never_revalued : accepted_set_view (record { terms = set_terms_in (2 ∷ 2 ∷ 3 ∷ 1 ∷ 978 ∷ 0 ∷ []); positions = [] }) ≡ false
