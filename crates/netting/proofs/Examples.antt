-- Replies at every refusal's edges, and worked sets, computed: the definitions beside figures that were worked out by hand. Assumes nothing.
use Prim.Native.Nat.{ℕ, ◌-◌}
use mathlib.Core.Path.{◌≡◌, refl}
use mathlib.Core.Bool.{Bool, true, ◌&&◌}
use mathlib.Core.List.{List, [], ◌∷◌, map}
use lib.Dec.{eqb}
use lib.ListN.{get_or, length, replicate}
use Rattle.base.specs.All.{all_pass}
use Rattle.netting.specs.Fields.{position_in, set_terms_in}
use Rattle.netting.specs.Reply.{reply_to}
use Rattle.netting.proofs.Computed.{computed}

-- each number is the field that the paper names in its place
fields_in_place :
    (set_terms_in (0 ∷ 1 ∷ 2 ∷ 3 ∷ 4 ∷ 5 ∷ []) ≡ record { table = 0; counterparty = record { class = 1; step = 2; sovereign_step = 3 }; settlement = 4; interval = 5 })
    × (position_in (0 ∷ 1 ∷ 2 ∷ 3 ∷ 4 ∷ 5 ∷ 6 ∷ []) ≡ record { side = 0; amount = 1; security = 2; asset = record { goods = 3; step = 4; life = 5 }; currency = 6 })
fields_in_place = (refl, refl)

-- a set's terms and positions as numbers, and the reply to it: the refusal, E*, the weighted amount
pub data Row : Type 0 where
  row : List ℕ → List (List ℕ) → List ℕ → Row

abbrev right : Row → Bool
right (row terms positions reply) =
    let r = reply_to (set_terms_in terms) (length positions) (map position_in positions) in
    eqb r.refusal (get_or reply 0 0) && eqb r.exposure (get_or reply 1 0) && eqb r.rwa (get_or reply 2 0)

abbrev refusals : List Row
refusals =
    -- the set's fields, each at its edges: table, class
    row (1 ∷ 2 ∷ 3 ∷ 1 ∷ 978 ∷ 1 ∷ []) [] (2 ∷ 0 ∷ 0 ∷ [])
    ∷ row (2 ∷ 2 ∷ 3 ∷ 1 ∷ 978 ∷ 1 ∷ []) [] (0 ∷ 0 ∷ 0 ∷ [])
    ∷ row (3 ∷ 2 ∷ 3 ∷ 1 ∷ 978 ∷ 1 ∷ []) [] (0 ∷ 0 ∷ 0 ∷ [])
    ∷ row (4 ∷ 2 ∷ 3 ∷ 1 ∷ 978 ∷ 1 ∷ []) [] (2 ∷ 0 ∷ 0 ∷ [])
    ∷ row (2 ∷ 0 ∷ 3 ∷ 1 ∷ 978 ∷ 1 ∷ []) [] (2 ∷ 0 ∷ 0 ∷ [])
    ∷ row (2 ∷ 1 ∷ 3 ∷ 0 ∷ 978 ∷ 1 ∷ []) [] (0 ∷ 0 ∷ 0 ∷ [])
    ∷ row (2 ∷ 4 ∷ 0 ∷ 0 ∷ 978 ∷ 1 ∷ []) [] (0 ∷ 0 ∷ 0 ∷ [])
    ∷ row (2 ∷ 5 ∷ 3 ∷ 1 ∷ 978 ∷ 1 ∷ []) [] (2 ∷ 0 ∷ 0 ∷ [])
    -- step, sovereign's step: retail has 0 and 0, a sovereign 0
    ∷ row (2 ∷ 2 ∷ 6 ∷ 6 ∷ 978 ∷ 1 ∷ []) [] (0 ∷ 0 ∷ 0 ∷ [])
    ∷ row (2 ∷ 2 ∷ 7 ∷ 1 ∷ 978 ∷ 1 ∷ []) [] (3 ∷ 0 ∷ 0 ∷ [])
    ∷ row (2 ∷ 2 ∷ 3 ∷ 7 ∷ 978 ∷ 1 ∷ []) [] (3 ∷ 0 ∷ 0 ∷ [])
    ∷ row (2 ∷ 4 ∷ 1 ∷ 0 ∷ 978 ∷ 1 ∷ []) [] (3 ∷ 0 ∷ 0 ∷ [])
    ∷ row (2 ∷ 4 ∷ 0 ∷ 1 ∷ 978 ∷ 1 ∷ []) [] (3 ∷ 0 ∷ 0 ∷ [])
    ∷ row (2 ∷ 1 ∷ 3 ∷ 1 ∷ 978 ∷ 1 ∷ []) [] (3 ∷ 0 ∷ 0 ∷ [])
    -- settlement currency
    ∷ row (2 ∷ 2 ∷ 3 ∷ 1 ∷ 0 ∷ 1 ∷ []) [] (4 ∷ 0 ∷ 0 ∷ [])
    ∷ row (2 ∷ 2 ∷ 3 ∷ 1 ∷ 1 ∷ 1 ∷ []) [] (0 ∷ 0 ∷ 0 ∷ [])
    ∷ row (2 ∷ 2 ∷ 3 ∷ 1 ∷ 999 ∷ 1 ∷ []) [] (0 ∷ 0 ∷ 0 ∷ [])
    ∷ row (2 ∷ 2 ∷ 3 ∷ 1 ∷ 1000 ∷ 1 ∷ []) [] (4 ∷ 0 ∷ 0 ∷ [])
    -- interval
    ∷ row (2 ∷ 2 ∷ 3 ∷ 1 ∷ 978 ∷ 0 ∷ []) [] (5 ∷ 0 ∷ 0 ∷ [])
    ∷ row (2 ∷ 2 ∷ 3 ∷ 1 ∷ 978 ∷ 60 ∷ []) [] (0 ∷ 0 ∷ 0 ∷ [])
    ∷ row (2 ∷ 2 ∷ 3 ∷ 1 ∷ 978 ∷ 61 ∷ []) [] (5 ∷ 0 ∷ 0 ∷ [])
    -- each before those behind it
    ∷ row (4 ∷ 5 ∷ 7 ∷ 7 ∷ 0 ∷ 0 ∷ []) [] (2 ∷ 0 ∷ 0 ∷ [])
    ∷ row (2 ∷ 2 ∷ 7 ∷ 7 ∷ 0 ∷ 0 ∷ []) [] (3 ∷ 0 ∷ 0 ∷ [])
    ∷ row (2 ∷ 2 ∷ 6 ∷ 6 ∷ 0 ∷ 0 ∷ []) [] (4 ∷ 0 ∷ 0 ∷ [])
    ∷ row (2 ∷ 2 ∷ 6 ∷ 6 ∷ 1 ∷ 0 ∷ []) [] (5 ∷ 0 ∷ 0 ∷ [])
    -- a position's fields: amount
    ∷ row (2 ∷ 2 ∷ 3 ∷ 1 ∷ 978 ∷ 1 ∷ []) ((1 ∷ 1000000000000 ∷ 101 ∷ 2 ∷ 1 ∷ 3000 ∷ 978 ∷ []) ∷ []) (0 ∷ 1000000000000 ∷ 500000000000 ∷ [])
    ∷ row (2 ∷ 2 ∷ 3 ∷ 1 ∷ 978 ∷ 1 ∷ []) ((1 ∷ 1000000000001 ∷ 101 ∷ 2 ∷ 1 ∷ 3000 ∷ 978 ∷ []) ∷ []) (1 ∷ 0 ∷ 0 ∷ [])
    -- side, type
    ∷ row (2 ∷ 2 ∷ 3 ∷ 1 ∷ 978 ∷ 1 ∷ []) ((0 ∷ 1000 ∷ 101 ∷ 2 ∷ 1 ∷ 3000 ∷ 978 ∷ []) ∷ []) (2 ∷ 0 ∷ 0 ∷ [])
    ∷ row (2 ∷ 2 ∷ 3 ∷ 1 ∷ 978 ∷ 1 ∷ []) ((2 ∷ 1000 ∷ 101 ∷ 2 ∷ 1 ∷ 3000 ∷ 978 ∷ []) ∷ []) (0 ∷ 0 ∷ 0 ∷ [])
    ∷ row (2 ∷ 2 ∷ 3 ∷ 1 ∷ 978 ∷ 1 ∷ []) ((3 ∷ 1000 ∷ 101 ∷ 2 ∷ 1 ∷ 3000 ∷ 978 ∷ []) ∷ []) (2 ∷ 0 ∷ 0 ∷ [])
    ∷ row (2 ∷ 2 ∷ 3 ∷ 1 ∷ 978 ∷ 1 ∷ []) ((1 ∷ 1000 ∷ 101 ∷ 0 ∷ 1 ∷ 3000 ∷ 978 ∷ []) ∷ []) (2 ∷ 0 ∷ 0 ∷ [])
    ∷ row (2 ∷ 2 ∷ 3 ∷ 1 ∷ 978 ∷ 1 ∷ []) ((1 ∷ 1000 ∷ 101 ∷ 9 ∷ 0 ∷ 0 ∷ 978 ∷ []) ∷ []) (0 ∷ 1000 ∷ 500 ∷ [])
    ∷ row (2 ∷ 2 ∷ 3 ∷ 1 ∷ 978 ∷ 1 ∷ []) ((1 ∷ 1000 ∷ 101 ∷ 10 ∷ 1 ∷ 3000 ∷ 978 ∷ []) ∷ []) (2 ∷ 0 ∷ 0 ∷ [])
    -- step: 0 to 6 of debt, 0 of cash, equity and gold
    ∷ row (2 ∷ 2 ∷ 3 ∷ 1 ∷ 978 ∷ 1 ∷ []) ((1 ∷ 1000 ∷ 101 ∷ 2 ∷ 6 ∷ 3000 ∷ 978 ∷ []) ∷ []) (0 ∷ 1000 ∷ 500 ∷ [])
    ∷ row (2 ∷ 2 ∷ 3 ∷ 1 ∷ 978 ∷ 1 ∷ []) ((1 ∷ 1000 ∷ 101 ∷ 2 ∷ 7 ∷ 3000 ∷ 978 ∷ []) ∷ []) (3 ∷ 0 ∷ 0 ∷ [])
    ∷ row (2 ∷ 2 ∷ 3 ∷ 1 ∷ 978 ∷ 1 ∷ []) ((1 ∷ 1000 ∷ 101 ∷ 9 ∷ 1 ∷ 0 ∷ 978 ∷ []) ∷ []) (3 ∷ 0 ∷ 0 ∷ [])
    -- currency
    ∷ row (2 ∷ 2 ∷ 3 ∷ 1 ∷ 978 ∷ 1 ∷ []) ((1 ∷ 1000 ∷ 101 ∷ 2 ∷ 1 ∷ 3000 ∷ 0 ∷ []) ∷ []) (4 ∷ 0 ∷ 0 ∷ [])
    ∷ row (2 ∷ 2 ∷ 3 ∷ 1 ∷ 978 ∷ 1 ∷ []) ((1 ∷ 1000 ∷ 101 ∷ 2 ∷ 1 ∷ 3000 ∷ 999 ∷ []) ∷ []) (0 ∷ 1000 ∷ 500 ∷ [])
    ∷ row (2 ∷ 2 ∷ 3 ∷ 1 ∷ 978 ∷ 1 ∷ []) ((1 ∷ 1000 ∷ 101 ∷ 2 ∷ 1 ∷ 3000 ∷ 1000 ∷ []) ∷ []) (4 ∷ 0 ∷ 0 ∷ [])
    -- security: 0 for cash and for nothing else
    ∷ row (2 ∷ 2 ∷ 3 ∷ 1 ∷ 978 ∷ 1 ∷ []) ((1 ∷ 1000 ∷ 0 ∷ 2 ∷ 1 ∷ 3000 ∷ 978 ∷ []) ∷ []) (5 ∷ 0 ∷ 0 ∷ [])
    ∷ row (2 ∷ 2 ∷ 3 ∷ 1 ∷ 978 ∷ 1 ∷ []) ((1 ∷ 1000 ∷ 1 ∷ 2 ∷ 1 ∷ 3000 ∷ 978 ∷ []) ∷ []) (0 ∷ 1000 ∷ 500 ∷ [])
    ∷ row (2 ∷ 2 ∷ 3 ∷ 1 ∷ 978 ∷ 1 ∷ []) ((1 ∷ 1000 ∷ 999 ∷ 2 ∷ 1 ∷ 3000 ∷ 978 ∷ []) ∷ []) (0 ∷ 1000 ∷ 500 ∷ [])
    ∷ row (2 ∷ 2 ∷ 3 ∷ 1 ∷ 978 ∷ 1 ∷ []) ((1 ∷ 1000 ∷ 1000 ∷ 2 ∷ 1 ∷ 3000 ∷ 978 ∷ []) ∷ []) (5 ∷ 0 ∷ 0 ∷ [])
    ∷ row (2 ∷ 2 ∷ 3 ∷ 1 ∷ 978 ∷ 1 ∷ []) ((1 ∷ 1000 ∷ 1 ∷ 1 ∷ 0 ∷ 0 ∷ 978 ∷ []) ∷ []) (5 ∷ 0 ∷ 0 ∷ [])
    ∷ row (2 ∷ 2 ∷ 3 ∷ 1 ∷ 978 ∷ 1 ∷ []) ((1 ∷ 1000 ∷ 0 ∷ 1 ∷ 0 ∷ 0 ∷ 978 ∷ []) ∷ []) (0 ∷ 1000 ∷ 500 ∷ [])
    -- issue life: 1 to 100,000 of debt, 0 of the others
    ∷ row (2 ∷ 2 ∷ 3 ∷ 1 ∷ 978 ∷ 1 ∷ []) ((1 ∷ 1000 ∷ 101 ∷ 2 ∷ 1 ∷ 0 ∷ 978 ∷ []) ∷ []) (5 ∷ 0 ∷ 0 ∷ [])
    ∷ row (2 ∷ 2 ∷ 3 ∷ 1 ∷ 978 ∷ 1 ∷ []) ((1 ∷ 1000 ∷ 101 ∷ 2 ∷ 1 ∷ 100000 ∷ 978 ∷ []) ∷ []) (0 ∷ 1000 ∷ 500 ∷ [])
    ∷ row (2 ∷ 2 ∷ 3 ∷ 1 ∷ 978 ∷ 1 ∷ []) ((1 ∷ 1000 ∷ 101 ∷ 2 ∷ 1 ∷ 100001 ∷ 978 ∷ []) ∷ []) (5 ∷ 0 ∷ 0 ∷ [])
    ∷ row (2 ∷ 2 ∷ 3 ∷ 1 ∷ 978 ∷ 1 ∷ []) ((1 ∷ 1000 ∷ 101 ∷ 9 ∷ 0 ∷ 1 ∷ 978 ∷ []) ∷ []) (5 ∷ 0 ∷ 0 ∷ [])
    -- each before those behind it, and the first position before the second
    ∷ row (2 ∷ 2 ∷ 3 ∷ 1 ∷ 978 ∷ 1 ∷ []) ((3 ∷ 1000000000001 ∷ 0 ∷ 10 ∷ 7 ∷ 0 ∷ 0 ∷ []) ∷ []) (1 ∷ 0 ∷ 0 ∷ [])
    ∷ row (2 ∷ 2 ∷ 3 ∷ 1 ∷ 978 ∷ 1 ∷ []) ((3 ∷ 1 ∷ 0 ∷ 10 ∷ 7 ∷ 0 ∷ 0 ∷ []) ∷ []) (2 ∷ 0 ∷ 0 ∷ [])
    ∷ row (2 ∷ 2 ∷ 3 ∷ 1 ∷ 978 ∷ 1 ∷ []) ((2 ∷ 1 ∷ 0 ∷ 9 ∷ 7 ∷ 0 ∷ 0 ∷ []) ∷ []) (3 ∷ 0 ∷ 0 ∷ [])
    ∷ row (2 ∷ 2 ∷ 3 ∷ 1 ∷ 978 ∷ 1 ∷ []) ((2 ∷ 1 ∷ 0 ∷ 9 ∷ 0 ∷ 0 ∷ 0 ∷ []) ∷ []) (4 ∷ 0 ∷ 0 ∷ [])
    ∷ row (2 ∷ 2 ∷ 3 ∷ 1 ∷ 978 ∷ 1 ∷ []) ((2 ∷ 1 ∷ 0 ∷ 9 ∷ 0 ∷ 0 ∷ 1 ∷ []) ∷ []) (5 ∷ 0 ∷ 0 ∷ [])
    ∷ row (2 ∷ 2 ∷ 3 ∷ 1 ∷ 978 ∷ 1 ∷ []) ((1 ∷ 1000 ∷ 0 ∷ 2 ∷ 1 ∷ 3000 ∷ 978 ∷ []) ∷ (1 ∷ 1000000000001 ∷ 101 ∷ 2 ∷ 1 ∷ 3000 ∷ 978 ∷ []) ∷ []) (5 ∷ 0 ∷ 0 ∷ [])
    -- 15: type, step, life, currency; not on another side or with another amount, nor of cash, nor of two securities
    ∷ row (2 ∷ 2 ∷ 3 ∷ 1 ∷ 978 ∷ 1 ∷ []) ((1 ∷ 1000 ∷ 101 ∷ 2 ∷ 1 ∷ 3000 ∷ 978 ∷ []) ∷ (2 ∷ 1000 ∷ 101 ∷ 3 ∷ 1 ∷ 3000 ∷ 978 ∷ []) ∷ []) (15 ∷ 0 ∷ 0 ∷ [])
    ∷ row (2 ∷ 2 ∷ 3 ∷ 1 ∷ 978 ∷ 1 ∷ []) ((1 ∷ 1000 ∷ 101 ∷ 2 ∷ 1 ∷ 3000 ∷ 978 ∷ []) ∷ (2 ∷ 1000 ∷ 101 ∷ 2 ∷ 2 ∷ 3000 ∷ 978 ∷ []) ∷ []) (15 ∷ 0 ∷ 0 ∷ [])
    ∷ row (2 ∷ 2 ∷ 3 ∷ 1 ∷ 978 ∷ 1 ∷ []) ((1 ∷ 1000 ∷ 101 ∷ 2 ∷ 1 ∷ 3000 ∷ 978 ∷ []) ∷ (2 ∷ 1000 ∷ 101 ∷ 2 ∷ 1 ∷ 3001 ∷ 978 ∷ []) ∷ []) (15 ∷ 0 ∷ 0 ∷ [])
    ∷ row (2 ∷ 2 ∷ 3 ∷ 1 ∷ 978 ∷ 1 ∷ []) ((1 ∷ 1000 ∷ 101 ∷ 2 ∷ 1 ∷ 3000 ∷ 978 ∷ []) ∷ (1 ∷ 1000 ∷ 101 ∷ 2 ∷ 1 ∷ 3000 ∷ 840 ∷ []) ∷ []) (15 ∷ 0 ∷ 0 ∷ [])
    ∷ row (2 ∷ 2 ∷ 3 ∷ 1 ∷ 978 ∷ 1 ∷ []) ((1 ∷ 1000 ∷ 101 ∷ 2 ∷ 1 ∷ 3000 ∷ 978 ∷ []) ∷ (1 ∷ 1000 ∷ 102 ∷ 2 ∷ 1 ∷ 3000 ∷ 840 ∷ []) ∷ (1 ∷ 1000 ∷ 101 ∷ 2 ∷ 1 ∷ 2999 ∷ 978 ∷ []) ∷ []) (15 ∷ 0 ∷ 0 ∷ [])
    ∷ row (2 ∷ 2 ∷ 3 ∷ 1 ∷ 978 ∷ 1 ∷ []) ((1 ∷ 1000 ∷ 101 ∷ 2 ∷ 1 ∷ 3000 ∷ 978 ∷ []) ∷ (1 ∷ 7 ∷ 101 ∷ 2 ∷ 1 ∷ 3000 ∷ 978 ∷ []) ∷ []) (0 ∷ 1007 ∷ 504 ∷ [])
    ∷ row (2 ∷ 2 ∷ 3 ∷ 1 ∷ 978 ∷ 1 ∷ []) ((1 ∷ 1000 ∷ 101 ∷ 2 ∷ 1 ∷ 3000 ∷ 978 ∷ []) ∷ (2 ∷ 1000 ∷ 102 ∷ 3 ∷ 1 ∷ 3000 ∷ 978 ∷ []) ∷ []) (0 ∷ 85 ∷ 43 ∷ [])
    ∷ row (2 ∷ 2 ∷ 3 ∷ 1 ∷ 978 ∷ 1 ∷ []) ((1 ∷ 1000 ∷ 101 ∷ 2 ∷ 1 ∷ 3000 ∷ 978 ∷ []) ∷ (1 ∷ 1000 ∷ 0 ∷ 1 ∷ 0 ∷ 0 ∷ 978 ∷ []) ∷ (2 ∷ 1000 ∷ 0 ∷ 1 ∷ 0 ∷ 0 ∷ 840 ∷ []) ∷ []) (0 ∷ 1085 ∷ 543 ∷ [])
    ∷ row (2 ∷ 2 ∷ 3 ∷ 1 ∷ 978 ∷ 1 ∷ []) ((1 ∷ 1000 ∷ 999 ∷ 2 ∷ 1 ∷ 3000 ∷ 978 ∷ []) ∷ (2 ∷ 1000 ∷ 999 ∷ 2 ∷ 2 ∷ 3000 ∷ 978 ∷ []) ∷ []) (15 ∷ 0 ∷ 0 ∷ [])
    ∷ row (2 ∷ 2 ∷ 3 ∷ 1 ∷ 978 ∷ 1 ∷ []) ((1 ∷ 1000 ∷ 1 ∷ 2 ∷ 1 ∷ 3000 ∷ 978 ∷ []) ∷ (1 ∷ 1000 ∷ 2 ∷ 2 ∷ 1 ∷ 3000 ∷ 978 ∷ []) ∷ (2 ∷ 1000 ∷ 1 ∷ 2 ∷ 1 ∷ 3000 ∷ 999 ∷ []) ∷ []) (15 ∷ 0 ∷ 0 ∷ [])
    -- 16: received and not eligible, even of 0 and where the net is lent; lent it is taken
    ∷ row (2 ∷ 2 ∷ 3 ∷ 1 ∷ 978 ∷ 1 ∷ []) ((2 ∷ 1000 ∷ 101 ∷ 2 ∷ 5 ∷ 3000 ∷ 978 ∷ []) ∷ []) (16 ∷ 0 ∷ 0 ∷ [])
    ∷ row (2 ∷ 2 ∷ 3 ∷ 1 ∷ 978 ∷ 1 ∷ []) ((2 ∷ 0 ∷ 101 ∷ 4 ∷ 0 ∷ 3000 ∷ 978 ∷ []) ∷ []) (16 ∷ 0 ∷ 0 ∷ [])
    ∷ row (2 ∷ 2 ∷ 3 ∷ 1 ∷ 978 ∷ 1 ∷ []) ((1 ∷ 1000 ∷ 101 ∷ 6 ∷ 1 ∷ 3000 ∷ 978 ∷ []) ∷ (2 ∷ 1 ∷ 101 ∷ 6 ∷ 1 ∷ 3000 ∷ 978 ∷ []) ∷ []) (16 ∷ 0 ∷ 0 ∷ [])
    ∷ row (2 ∷ 2 ∷ 3 ∷ 1 ∷ 978 ∷ 1 ∷ []) ((2 ∷ 1000 ∷ 101 ∷ 2 ∷ 4 ∷ 3000 ∷ 978 ∷ []) ∷ []) (0 ∷ 0 ∷ 0 ∷ [])
    ∷ row (2 ∷ 2 ∷ 3 ∷ 1 ∷ 978 ∷ 1 ∷ []) ((1 ∷ 1000 ∷ 101 ∷ 6 ∷ 1 ∷ 3000 ∷ 978 ∷ []) ∷ []) (0 ∷ 1000 ∷ 500 ∷ [])
    -- 17: of both sides together
    ∷ row (2 ∷ 2 ∷ 3 ∷ 1 ∷ 978 ∷ 1 ∷ []) ((1 ∷ 500000000000 ∷ 101 ∷ 2 ∷ 1 ∷ 3000 ∷ 978 ∷ []) ∷ (2 ∷ 500000000000 ∷ 101 ∷ 2 ∷ 1 ∷ 3000 ∷ 978 ∷ []) ∷ []) (0 ∷ 0 ∷ 0 ∷ [])
    ∷ row (2 ∷ 2 ∷ 3 ∷ 1 ∷ 978 ∷ 1 ∷ []) ((1 ∷ 500000000000 ∷ 101 ∷ 2 ∷ 1 ∷ 3000 ∷ 978 ∷ []) ∷ (2 ∷ 500000000001 ∷ 101 ∷ 2 ∷ 1 ∷ 3000 ∷ 978 ∷ []) ∷ []) (17 ∷ 0 ∷ 0 ∷ [])
    -- 15 before 16 before 17
    ∷ row (2 ∷ 2 ∷ 3 ∷ 1 ∷ 978 ∷ 1 ∷ []) ((1 ∷ 1000000000000 ∷ 101 ∷ 2 ∷ 1 ∷ 3000 ∷ 978 ∷ []) ∷ (2 ∷ 1000 ∷ 101 ∷ 2 ∷ 5 ∷ 3000 ∷ 978 ∷ []) ∷ []) (15 ∷ 0 ∷ 0 ∷ [])
    ∷ row (2 ∷ 2 ∷ 3 ∷ 1 ∷ 978 ∷ 1 ∷ []) ((1 ∷ 1000000000000 ∷ 101 ∷ 2 ∷ 1 ∷ 3000 ∷ 978 ∷ []) ∷ (2 ∷ 1000 ∷ 7 ∷ 2 ∷ 5 ∷ 3000 ∷ 978 ∷ []) ∷ []) (16 ∷ 0 ∷ 0 ∷ [])
    ∷ []

abbrev worked : List Row
worked =
    -- 1,000,000 of a state bond lent for cash of 900,000: 100,000 + 1,000,000 * 0.028285, weight 50
    row (2 ∷ 2 ∷ 3 ∷ 1 ∷ 978 ∷ 1 ∷ []) ((1 ∷ 1000000 ∷ 101 ∷ 2 ∷ 1 ∷ 3000 ∷ 978 ∷ []) ∷ (2 ∷ 900000 ∷ 0 ∷ 1 ∷ 0 ∷ 0 ∷ 978 ∷ []) ∷ []) (0 ∷ 128285 ∷ 64143 ∷ [])
    -- a share on both sides besides, in another currency: lent less received 50,000, |- 50,000| * 0.106067, |- 50,000| * 0.056569
    ∷ row (2 ∷ 2 ∷ 3 ∷ 1 ∷ 978 ∷ 1 ∷ []) ((1 ∷ 1000000 ∷ 101 ∷ 2 ∷ 1 ∷ 3000 ∷ 978 ∷ []) ∷ (2 ∷ 900000 ∷ 0 ∷ 1 ∷ 0 ∷ 0 ∷ 978 ∷ []) ∷ (1 ∷ 200000 ∷ 202 ∷ 7 ∷ 0 ∷ 0 ∷ 840 ∷ []) ∷ (2 ∷ 250000 ∷ 202 ∷ 7 ∷ 0 ∷ 0 ∷ 840 ∷ []) ∷ []) (0 ∷ 86417 ∷ 43209 ∷ [])
    -- under the other tables 20 percent of the share
    ∷ row (3 ∷ 2 ∷ 3 ∷ 1 ∷ 978 ∷ 1 ∷ []) ((1 ∷ 1000000 ∷ 101 ∷ 2 ∷ 1 ∷ 3000 ∷ 978 ∷ []) ∷ (2 ∷ 900000 ∷ 0 ∷ 1 ∷ 0 ∷ 0 ∷ 978 ∷ []) ∷ (1 ∷ 200000 ∷ 202 ∷ 7 ∷ 0 ∷ 0 ∷ 840 ∷ []) ∷ (2 ∷ 250000 ∷ 202 ∷ 7 ∷ 0 ∷ 0 ∷ 840 ∷ []) ∷ []) (0 ∷ 88185 ∷ 44093 ∷ [])
    -- settled in that currency: the net of the first counts, 100,000 * 0.056569
    ∷ row (2 ∷ 2 ∷ 3 ∷ 1 ∷ 840 ∷ 1 ∷ []) ((1 ∷ 1000000 ∷ 101 ∷ 2 ∷ 1 ∷ 3000 ∷ 978 ∷ []) ∷ (2 ∷ 900000 ∷ 0 ∷ 1 ∷ 0 ∷ 0 ∷ 978 ∷ []) ∷ (1 ∷ 200000 ∷ 202 ∷ 7 ∷ 0 ∷ 0 ∷ 840 ∷ []) ∷ (2 ∷ 250000 ∷ 202 ∷ 7 ∷ 0 ∷ 0 ∷ 840 ∷ []) ∷ []) (0 ∷ 89246 ∷ 44623 ∷ [])
    -- revalued every 6 and every 60 days: over 10 and 64
    ∷ row (2 ∷ 2 ∷ 3 ∷ 1 ∷ 978 ∷ 6 ∷ []) ((1 ∷ 1000000 ∷ 101 ∷ 2 ∷ 1 ∷ 3000 ∷ 978 ∷ []) ∷ (2 ∷ 900000 ∷ 0 ∷ 1 ∷ 0 ∷ 0 ∷ 978 ∷ []) ∷ (1 ∷ 200000 ∷ 202 ∷ 7 ∷ 0 ∷ 0 ∷ 840 ∷ []) ∷ (2 ∷ 250000 ∷ 202 ∷ 7 ∷ 0 ∷ 0 ∷ 840 ∷ []) ∷ []) (0 ∷ 101500 ∷ 50750 ∷ [])
    ∷ row (2 ∷ 2 ∷ 3 ∷ 1 ∷ 978 ∷ 60 ∷ []) ((1 ∷ 1000000 ∷ 101 ∷ 2 ∷ 1 ∷ 3000 ∷ 978 ∷ []) ∷ (2 ∷ 900000 ∷ 0 ∷ 1 ∷ 0 ∷ 0 ∷ 978 ∷ []) ∷ (1 ∷ 200000 ∷ 202 ∷ 7 ∷ 0 ∷ 0 ∷ 840 ∷ []) ∷ (2 ∷ 250000 ∷ 202 ∷ 7 ∷ 0 ∷ 0 ∷ 840 ∷ []) ∷ []) (0 ∷ 180286 ∷ 90143 ∷ [])
    -- other counterparties: retail; unrated under a sovereign of step 6; a bank, unrated, under one of step 1, by either table
    ∷ row (2 ∷ 4 ∷ 0 ∷ 0 ∷ 978 ∷ 1 ∷ []) ((1 ∷ 1000000 ∷ 101 ∷ 2 ∷ 1 ∷ 3000 ∷ 978 ∷ []) ∷ (2 ∷ 900000 ∷ 0 ∷ 1 ∷ 0 ∷ 0 ∷ 978 ∷ []) ∷ []) (0 ∷ 128285 ∷ 96214 ∷ [])
    ∷ row (2 ∷ 3 ∷ 0 ∷ 6 ∷ 978 ∷ 1 ∷ []) ((1 ∷ 1000000 ∷ 101 ∷ 2 ∷ 1 ∷ 3000 ∷ 978 ∷ []) ∷ (2 ∷ 900000 ∷ 0 ∷ 1 ∷ 0 ∷ 0 ∷ 978 ∷ []) ∷ []) (0 ∷ 128285 ∷ 192428 ∷ [])
    ∷ row (2 ∷ 2 ∷ 0 ∷ 1 ∷ 978 ∷ 1 ∷ []) ((1 ∷ 1000000 ∷ 101 ∷ 2 ∷ 1 ∷ 3000 ∷ 978 ∷ []) ∷ (2 ∷ 900000 ∷ 0 ∷ 1 ∷ 0 ∷ 0 ∷ 978 ∷ []) ∷ []) (0 ∷ 128285 ∷ 64143 ∷ [])
    ∷ row (3 ∷ 2 ∷ 0 ∷ 1 ∷ 978 ∷ 1 ∷ []) ((1 ∷ 1000000 ∷ 101 ∷ 2 ∷ 1 ∷ 3000 ∷ 978 ∷ []) ∷ (2 ∷ 900000 ∷ 0 ∷ 1 ∷ 0 ∷ 0 ∷ 978 ∷ []) ∷ []) (0 ∷ 128285 ∷ 192428 ∷ [])
    -- rounded up once: 100 - 50 + 100 * 0.003536 + 50 * 0.056569 = 53.18205; 100 - 99 + 100 * 0.003536 = 1.3536
    ∷ row (2 ∷ 2 ∷ 3 ∷ 1 ∷ 978 ∷ 1 ∷ []) ((1 ∷ 100 ∷ 5 ∷ 2 ∷ 1 ∷ 360 ∷ 978 ∷ []) ∷ (2 ∷ 50 ∷ 0 ∷ 1 ∷ 0 ∷ 0 ∷ 840 ∷ []) ∷ []) (0 ∷ 54 ∷ 27 ∷ [])
    ∷ row (2 ∷ 2 ∷ 3 ∷ 1 ∷ 978 ∷ 1 ∷ []) ((1 ∷ 100 ∷ 5 ∷ 2 ∷ 1 ∷ 360 ∷ 978 ∷ []) ∷ (2 ∷ 99 ∷ 0 ∷ 1 ∷ 0 ∷ 0 ∷ 978 ∷ []) ∷ []) (0 ∷ 2 ∷ 1 ∷ [])
    -- and not for each security: 300 - 200 + 3 * 0.3536 = 101.0608, where rounding each would give 103
    ∷ row (2 ∷ 2 ∷ 3 ∷ 1 ∷ 978 ∷ 1 ∷ []) ((1 ∷ 100 ∷ 5 ∷ 2 ∷ 1 ∷ 360 ∷ 978 ∷ []) ∷ (1 ∷ 100 ∷ 6 ∷ 2 ∷ 1 ∷ 360 ∷ 978 ∷ []) ∷ (1 ∷ 100 ∷ 7 ∷ 2 ∷ 1 ∷ 360 ∷ 978 ∷ []) ∷ (2 ∷ 200 ∷ 0 ∷ 1 ∷ 0 ∷ 0 ∷ 978 ∷ []) ∷ []) (0 ∷ 102 ∷ 51 ∷ [])
    -- a net of 0 adds nothing; one that was received counts as one that was lent
    ∷ row (2 ∷ 2 ∷ 3 ∷ 1 ∷ 978 ∷ 1 ∷ []) ((1 ∷ 500 ∷ 101 ∷ 2 ∷ 1 ∷ 3000 ∷ 978 ∷ []) ∷ (2 ∷ 500 ∷ 101 ∷ 2 ∷ 1 ∷ 3000 ∷ 978 ∷ []) ∷ []) (0 ∷ 0 ∷ 0 ∷ [])
    ∷ row (2 ∷ 2 ∷ 3 ∷ 1 ∷ 978 ∷ 1 ∷ []) ((1 ∷ 500 ∷ 101 ∷ 2 ∷ 1 ∷ 3000 ∷ 978 ∷ []) ∷ (2 ∷ 300 ∷ 101 ∷ 2 ∷ 1 ∷ 3000 ∷ 978 ∷ []) ∷ (1 ∷ 100 ∷ 8 ∷ 2 ∷ 1 ∷ 3000 ∷ 978 ∷ []) ∷ (2 ∷ 200 ∷ 101 ∷ 2 ∷ 1 ∷ 3000 ∷ 978 ∷ []) ∷ []) (0 ∷ 103 ∷ 52 ∷ [])
    ∷ row (2 ∷ 2 ∷ 3 ∷ 1 ∷ 978 ∷ 1 ∷ []) ((1 ∷ 500 ∷ 8 ∷ 2 ∷ 1 ∷ 3000 ∷ 978 ∷ []) ∷ (2 ∷ 400 ∷ 101 ∷ 2 ∷ 1 ∷ 3000 ∷ 978 ∷ []) ∷ []) (0 ∷ 126 ∷ 63 ∷ [])
    -- not above all that was lent, though something was received: 1,000 - 10 + 1,000 * 0.176777 + 1,000 * 0.056569
    ∷ row (2 ∷ 2 ∷ 3 ∷ 1 ∷ 978 ∷ 1 ∷ []) ((1 ∷ 1000 ∷ 101 ∷ 8 ∷ 0 ∷ 0 ∷ 840 ∷ []) ∷ (2 ∷ 10 ∷ 0 ∷ 1 ∷ 0 ∷ 0 ∷ 978 ∷ []) ∷ []) (0 ∷ 1000 ∷ 500 ∷ [])
    -- not below 0; not above all that was lent; nothing, and received alone
    ∷ row (2 ∷ 2 ∷ 3 ∷ 1 ∷ 978 ∷ 1 ∷ []) ((1 ∷ 500 ∷ 101 ∷ 2 ∷ 1 ∷ 3000 ∷ 978 ∷ []) ∷ (2 ∷ 900 ∷ 101 ∷ 2 ∷ 1 ∷ 3000 ∷ 978 ∷ []) ∷ []) (0 ∷ 0 ∷ 0 ∷ [])
    ∷ row (2 ∷ 2 ∷ 3 ∷ 1 ∷ 978 ∷ 1 ∷ []) ((1 ∷ 1000 ∷ 101 ∷ 8 ∷ 0 ∷ 0 ∷ 840 ∷ []) ∷ []) (0 ∷ 1000 ∷ 500 ∷ [])
    ∷ row (2 ∷ 2 ∷ 3 ∷ 1 ∷ 978 ∷ 1 ∷ []) [] (0 ∷ 0 ∷ 0 ∷ [])
    ∷ row (2 ∷ 2 ∷ 3 ∷ 1 ∷ 978 ∷ 1 ∷ []) ((2 ∷ 1000 ∷ 101 ∷ 2 ∷ 1 ∷ 3000 ∷ 978 ∷ []) ∷ []) (0 ∷ 0 ∷ 0 ∷ [])
    -- one security in three entries counts once, and cash never
    ∷ row (2 ∷ 2 ∷ 3 ∷ 1 ∷ 978 ∷ 1 ∷ []) ((1 ∷ 400 ∷ 101 ∷ 2 ∷ 1 ∷ 3000 ∷ 978 ∷ []) ∷ (1 ∷ 300 ∷ 101 ∷ 2 ∷ 1 ∷ 3000 ∷ 978 ∷ []) ∷ (1 ∷ 300 ∷ 101 ∷ 2 ∷ 1 ∷ 3000 ∷ 978 ∷ []) ∷ (2 ∷ 900 ∷ 0 ∷ 1 ∷ 0 ∷ 0 ∷ 978 ∷ []) ∷ (1 ∷ 500 ∷ 0 ∷ 1 ∷ 0 ∷ 0 ∷ 978 ∷ []) ∷ (2 ∷ 500 ∷ 0 ∷ 1 ∷ 0 ∷ 0 ∷ 978 ∷ []) ∷ []) (0 ∷ 129 ∷ 65 ∷ [])
    -- lent goods that are not eligible, unrated bank debt among them: 25 and 30 percent
    ∷ row (2 ∷ 2 ∷ 3 ∷ 1 ∷ 978 ∷ 1 ∷ []) ((1 ∷ 1000 ∷ 101 ∷ 4 ∷ 0 ∷ 3000 ∷ 978 ∷ []) ∷ (2 ∷ 900 ∷ 0 ∷ 1 ∷ 0 ∷ 0 ∷ 978 ∷ []) ∷ []) (0 ∷ 277 ∷ 139 ∷ [])
    ∷ row (3 ∷ 2 ∷ 3 ∷ 1 ∷ 978 ∷ 1 ∷ []) ((1 ∷ 1000 ∷ 101 ∷ 4 ∷ 0 ∷ 3000 ∷ 978 ∷ []) ∷ (2 ∷ 900 ∷ 0 ∷ 1 ∷ 0 ∷ 0 ∷ 978 ∷ []) ∷ []) (0 ∷ 313 ∷ 157 ∷ [])
    -- other issuers' debt of 1,081 days: 4 and 4 percent at step 1; 6 and 6 at step 3; of 3,601 days 8 and 12
    ∷ row (2 ∷ 2 ∷ 3 ∷ 1 ∷ 978 ∷ 1 ∷ []) ((1 ∷ 10000 ∷ 101 ∷ 3 ∷ 1 ∷ 1081 ∷ 978 ∷ []) ∷ (2 ∷ 9000 ∷ 0 ∷ 1 ∷ 0 ∷ 0 ∷ 978 ∷ []) ∷ []) (0 ∷ 1283 ∷ 642 ∷ [])
    ∷ row (3 ∷ 2 ∷ 3 ∷ 1 ∷ 978 ∷ 1 ∷ []) ((1 ∷ 10000 ∷ 101 ∷ 3 ∷ 1 ∷ 1081 ∷ 978 ∷ []) ∷ (2 ∷ 9000 ∷ 0 ∷ 1 ∷ 0 ∷ 0 ∷ 978 ∷ []) ∷ []) (0 ∷ 1283 ∷ 642 ∷ [])
    ∷ row (2 ∷ 2 ∷ 3 ∷ 1 ∷ 978 ∷ 1 ∷ []) ((1 ∷ 10000 ∷ 101 ∷ 3 ∷ 1 ∷ 3601 ∷ 978 ∷ []) ∷ (2 ∷ 9000 ∷ 0 ∷ 1 ∷ 0 ∷ 0 ∷ 978 ∷ []) ∷ []) (0 ∷ 1566 ∷ 783 ∷ [])
    ∷ row (3 ∷ 2 ∷ 3 ∷ 1 ∷ 978 ∷ 1 ∷ []) ((1 ∷ 10000 ∷ 101 ∷ 3 ∷ 1 ∷ 3601 ∷ 978 ∷ []) ∷ (2 ∷ 9000 ∷ 0 ∷ 1 ∷ 0 ∷ 0 ∷ 978 ∷ []) ∷ []) (0 ∷ 1849 ∷ 925 ∷ [])
    -- two currencies, each by itself: 100 lent in one and 100 received in the other do not cancel
    ∷ row (2 ∷ 2 ∷ 3 ∷ 1 ∷ 978 ∷ 1 ∷ []) ((1 ∷ 1000 ∷ 0 ∷ 1 ∷ 0 ∷ 0 ∷ 840 ∷ []) ∷ (2 ∷ 1000 ∷ 0 ∷ 1 ∷ 0 ∷ 0 ∷ 826 ∷ []) ∷ []) (0 ∷ 114 ∷ 57 ∷ [])
    -- at the limit
    ∷ row (2 ∷ 2 ∷ 3 ∷ 1 ∷ 978 ∷ 1 ∷ []) ((1 ∷ 1000000000000 ∷ 5 ∷ 8 ∷ 0 ∷ 0 ∷ 840 ∷ []) ∷ []) (0 ∷ 1000000000000 ∷ 500000000000 ∷ [])
    ∷ row (2 ∷ 2 ∷ 3 ∷ 1 ∷ 978 ∷ 1 ∷ []) ((1 ∷ 500000000000 ∷ 5 ∷ 8 ∷ 0 ∷ 0 ∷ 840 ∷ []) ∷ (2 ∷ 500000000000 ∷ 6 ∷ 8 ∷ 0 ∷ 0 ∷ 826 ∷ []) ∷ []) (0 ∷ 233346000000 ∷ 116673000000 ∷ [])
    ∷ []

-- EVERY REFUSAL AT ITS EDGES
pub refused_right : all_pass refusals right ≡ true
unfolding computed
refused_right = refl

-- AND EVERY WORKED SET
pub worked_right : all_pass worked right ≡ true
unfolding computed
worked_right = refl

-- 32 positions are taken, a thirty-third is 6, and its fields are not asked for; the set's own fields are
abbrev many : ℕ → ℕ → List ℕ
many table count =
    let r = reply_to (set_terms_in (table ∷ 2 ∷ 3 ∷ 1 ∷ 978 ∷ 1 ∷ [])) count (map position_in (replicate count (1 ∷ 10 ∷ 0 ∷ 1 ∷ 0 ∷ 0 ∷ 978 ∷ []))) in
    r.refusal ∷ r.exposure ∷ r.rwa ∷ []

thirty_two : many 2 32 ≡ 0 ∷ 320 ∷ 160 ∷ []
unfolding computed
thirty_two = refl

thirty_three : many 2 33 ≡ 6 ∷ 0 ∷ 0 ∷ []
unfolding computed
thirty_three = refl

table_first : many 1 33 ≡ 2 ∷ 0 ∷ 0 ∷ []
unfolding computed
table_first = refl

-- a refused set gives zeros beside its number
zeros : reply_to (set_terms_in (2 ∷ 2 ∷ 3 ∷ 1 ∷ 978 ∷ 61 ∷ [])) 0 [] ≡ record { refusal = 5; exposure = 0; rwa = 0 }
unfolding computed
zeros = refl

-- WHAT COUNTERPARTIES WEIGH: 100 lent alone, at steps 1 to 6 and unrated; sovereigns, banks and corporates under a sovereign of step 1
abbrev weighs : ℕ → ℕ → ℕ → ℕ → ℕ
weighs table class sovereign step =
    (reply_to (set_terms_in (table ∷ class ∷ step ∷ sovereign ∷ 978 ∷ 1 ∷ [])) 1 (position_in (1 ∷ 100 ∷ 0 ∷ 1 ∷ 0 ∷ 0 ∷ 978 ∷ []) ∷ [])).rwa

abbrev steps : List ℕ
steps = 1 ∷ 2 ∷ 3 ∷ 4 ∷ 5 ∷ 6 ∷ 0 ∷ []

weights_2019 :
    map (weighs 2 1 0) steps ∷ map (weighs 2 2 1) steps ∷ map (weighs 2 3 1) steps ∷ (weighs 2 4 0 0 ∷ []) ∷ []
    ≡ (0 ∷ 20 ∷ 50 ∷ 100 ∷ 100 ∷ 150 ∷ 100 ∷ []) ∷ (20 ∷ 50 ∷ 50 ∷ 100 ∷ 100 ∷ 150 ∷ 50 ∷ []) ∷ (20 ∷ 50 ∷ 100 ∷ 100 ∷ 150 ∷ 150 ∷ 100 ∷ []) ∷ (75 ∷ []) ∷ []
unfolding computed
weights_2019 = refl

weights_2023 :
    map (weighs 3 1 0) steps ∷ map (weighs 3 2 1) steps ∷ map (weighs 3 3 1) steps ∷ (weighs 3 4 0 0 ∷ []) ∷ []
    ≡ (0 ∷ 20 ∷ 50 ∷ 100 ∷ 100 ∷ 150 ∷ 100 ∷ []) ∷ (20 ∷ 30 ∷ 50 ∷ 100 ∷ 100 ∷ 150 ∷ 150 ∷ []) ∷ (20 ∷ 50 ∷ 75 ∷ 100 ∷ 150 ∷ 150 ∷ 100 ∷ []) ∷ (75 ∷ []) ∷ []
unfolding computed
weights_2023 = refl

-- unrated, by the step of the sovereign: a bank by either table, a corporate by either
floors :
    map (λ k. weighs 2 2 k 0) steps ∷ map (λ k. weighs 2 3 k 0) steps ∷ map (λ k. weighs 3 2 k 0) steps ∷ map (λ k. weighs 3 3 k 0) steps ∷ []
    ≡ (50 ∷ 50 ∷ 50 ∷ 100 ∷ 100 ∷ 150 ∷ 100 ∷ []) ∷ (100 ∷ 100 ∷ 100 ∷ 100 ∷ 100 ∷ 150 ∷ 100 ∷ []) ∷ (150 ∷ 150 ∷ 150 ∷ 150 ∷ 150 ∷ 150 ∷ 150 ∷ []) ∷ (100 ∷ 100 ∷ 100 ∷ 100 ∷ 100 ∷ 150 ∷ 100 ∷ []) ∷ []
unfolding computed
floors = refl

-- WHICH GOODS MAY BE RECEIVED: debt of types 2 to 6 at each step; all of it may be lent
abbrev debt_refusal : ℕ → ℕ → ℕ → ℕ
debt_refusal side goods step = (reply_to (set_terms_in (2 ∷ 2 ∷ 3 ∷ 1 ∷ 978 ∷ 1 ∷ [])) 1 (position_in (side ∷ 100 ∷ 7 ∷ goods ∷ step ∷ 900 ∷ 978 ∷ []) ∷ [])).refusal

received_debt :
    map (λ goods. map (debt_refusal 2 goods) steps) (2 ∷ 3 ∷ 4 ∷ 5 ∷ 6 ∷ [])
    ≡ (0 ∷ 0 ∷ 0 ∷ 0 ∷ 16 ∷ 16 ∷ 16 ∷ [])
    ∷ (0 ∷ 0 ∷ 0 ∷ 16 ∷ 16 ∷ 16 ∷ 16 ∷ [])
    ∷ (0 ∷ 0 ∷ 0 ∷ 16 ∷ 16 ∷ 16 ∷ 16 ∷ [])
    ∷ (0 ∷ 0 ∷ 0 ∷ 16 ∷ 16 ∷ 16 ∷ 16 ∷ [])
    ∷ (16 ∷ 16 ∷ 16 ∷ 16 ∷ 16 ∷ 16 ∷ 16 ∷ [])
    ∷ []
unfolding computed
received_debt = refl

lent_debt : map (λ goods. map (debt_refusal 1 goods) steps) (2 ∷ 3 ∷ 4 ∷ 5 ∷ 6 ∷ []) ≡ replicate 5 (replicate 7 0)
unfolding computed
lent_debt = refl

-- cash, equity and gold, received and lent
others_taken :
    map (λ side. map (λ goods. (reply_to (set_terms_in (2 ∷ 2 ∷ 3 ∷ 1 ∷ 978 ∷ 1 ∷ [])) 1 (position_in (side ∷ 100 ∷ (goods - 6) ∷ goods ∷ 0 ∷ 0 ∷ 978 ∷ []) ∷ [])).refusal) (1 ∷ 7 ∷ 8 ∷ 9 ∷ [])) (1 ∷ 2 ∷ [])
    ≡ replicate 2 (replicate 4 0)
unfolding computed
others_taken = refl
