-- A deal's terms and its items from the numbers that are sent or held in a record, in the order of 01: What a deal holds, and back again. Of lists of
-- so many numbers the two ways are inverse to each other (proofs/BothWays)
use Rattle.std.specs.Prelude.{ℕ, List, [], ◌∷◌, get_or}
use Rattle.deal.specs.Instruments.{as_swap, guarantee_instrument}
use Rattle.deal.specs.declared.party.Party.{Party}
use Rattle.deal.specs.declared.terms.Terms.{Terms}
use Rattle.deal.specs.declared.collateral.Collateral.{Collateral}
use Rattle.deal.specs.declared.guarantee.Guarantee.{Guarantee}

-- how many there are of each
abbrev pub terms_width : ℕ
terms_width = 12

abbrev pub collateral_width : ℕ
collateral_width = 11

-- as a record holds it, a guarantee or a swap; and as each of them is sent, which says what it is
abbrev pub guarantee_width : ℕ
guarantee_width = 11

abbrev pub sent_guarantee_width : ℕ
sent_guarantee_width = 10

abbrev pub sent_swap_width : ℕ
sent_swap_width = 11

-- class, step and sovereign's step of a party, which stand behind the amount of a deal and of a guarantee alike
abbrev pub party_in : List ℕ → Party
party_in fields = record { class = get_or fields 1 0; step = get_or fields 2 0; sovereign_step = get_or fields 3 0 }

-- "Deal: amount; counterparty class ..; step; currency; kind ..; revaluation interval ..; residual term; type, step and issue life of
-- what is lent"; "D lines gain, after the step, the step of that sovereign", and "Opening is given what the header says with the deal's own
-- fields" (02: L5)
abbrev pub terms_under : ℕ → List ℕ → Terms
terms_under edition fields =
    let field : ℕ → ℕ = λ k. get_or fields k 0 in
    record {
      amount = field 0;
      counterparty = party_in fields;
      currency = field 4;
      kind = field 5;
      interval = field 6;
      residual = field 7;
      lent = record { goods = field 8; step = field 9; life = field 10 };
      edition = edition;
    }

-- the deal's own fields, and behind them what the header says
abbrev pub terms_in : List ℕ → Terms
terms_in fields = terms_under (get_or fields 11 0) fields

abbrev pub terms_fields : Terms → List ℕ
terms_fields t =
    t.amount
    ∷ t.counterparty.class
    ∷ t.counterparty.step
    ∷ t.counterparty.sovereign_step
    ∷ t.currency
    ∷ t.kind
    ∷ t.interval
    ∷ t.residual
    ∷ t.lent.goods
    ∷ t.lent.step
    ∷ t.lent.life
    ∷ t.edition
    ∷ []

-- "Collateral: amount; type; step; issue life; currency; residual term of the pledge; its original term; conditions: lawful, unrelated to
-- the counterparty, not already in the rating used, listed senior bank paper"
abbrev pub collateral_in : List ℕ → Collateral
collateral_in fields =
    let field : ℕ → ℕ = λ k. get_or fields k 0 in
    record {
      amount = field 0;
      asset = record { goods = field 1; step = field 2; life = field 3 };
      currency = field 4;
      residual = field 5;
      original = field 6;
      lawful = field 7;
      unrelated = field 8;
      not_in_rating = field 9;
      listed = field 10;
    }

abbrev pub collateral_fields : Collateral → List ℕ
collateral_fields c =
    c.amount
    ∷ c.asset.goods
    ∷ c.asset.step
    ∷ c.asset.life
    ∷ c.currency
    ∷ c.residual
    ∷ c.original
    ∷ c.lawful
    ∷ c.unrelated
    ∷ c.not_in_rating
    ∷ c.listed
    ∷ []

-- "Guarantee: amount; provider class ..; step; currency; residual and original term; conditions: lawful, direct .., not already in the
-- rating used"; the step of the provider's sovereign behind the step (02: L5)
abbrev pub guarantee_under : ℕ → List ℕ → Guarantee
guarantee_under instrument fields =
    let field : ℕ → ℕ = λ k. get_or fields k 0 in
    record {
      amount = field 0;
      provider = party_in fields;
      currency = field 4;
      residual = field 5;
      original = field 6;
      lawful = field 7;
      direct = field 8;
      not_in_rating = field 9;
      instrument = instrument;
    }

-- sent as a guarantee
abbrev pub guarantee_sent : List ℕ → Guarantee
guarantee_sent fields = guarantee_under guarantee_instrument fields

-- sent as a swap: "laid out as G with one more condition at the end: restructuring is a credit event" (02: L1)
abbrev pub swap_sent : List ℕ → Guarantee
swap_sent fields = as_swap (get_or fields 10 0) (guarantee_sent fields)

-- held in a record: the numbers of a guarantee, and behind them the instrument
abbrev pub guarantee_in : List ℕ → Guarantee
guarantee_in fields = guarantee_under (get_or fields 10 0) fields

abbrev pub guarantee_fields : Guarantee → List ℕ
guarantee_fields g =
    g.amount
    ∷ g.provider.class
    ∷ g.provider.step
    ∷ g.provider.sovereign_step
    ∷ g.currency
    ∷ g.residual
    ∷ g.original
    ∷ g.lawful
    ∷ g.direct
    ∷ g.not_in_rating
    ∷ g.instrument
    ∷ []

-- no number is sent: zeros in every field
abbrev pub zero_terms : Terms
zero_terms = terms_in []

abbrev pub zero_collateral : Collateral
zero_collateral = collateral_in []

abbrev pub zero_guarantee : Guarantee
zero_guarantee = guarantee_in []
