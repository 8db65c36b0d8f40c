-- One position of a netting set, and what its own fields are refused for. 02: L6, "up to 32 positions: side (1 lent, 2 received), amount, security
-- number 0 to 999 (0 for cash and for nothing else), type, step, issue life, currency"
use Rattle.std.specs.Prelude.{ℕ, Bool, true, ◌&&◌, List, [], ◌∷◌, ◌++◌, eqb, if◌then◌else◌}
use Rattle.base.specs.FirstMet.{Test, first_met}
use Rattle.base.specs.Range.{within}
use Rattle.tables.specs.Goods.{cash}
use Rattle.deal.specs.Assets.{asset_step_allowed, goods_known, life_allowed}
use Rattle.deal.specs.Checks.{field_tests}
use Rattle.deal.specs.Ranges.{amount_allowed, currency_allowed, days_limit}
use Rattle.deal.specs.declared.checks.FieldChecks.{FieldChecks}
use Rattle.netting.specs.declared.position.Position.{Position}

-- "side (1 lent, 2 received)"
abbrev pub lent_side : ℕ
lent_side = 1

abbrev pub received_side : ℕ
received_side = 2

-- another side is refused by 2 before this is asked for, so a position that was not lent was received
abbrev pub is_lent : Position → Bool
is_lent p = eqb p.side lent_side

abbrev pub amount_of : Position → ℕ
amount_of p = p.amount

abbrev pub side_known : Position → Bool
side_known p = within lent_side received_side p.side

-- "security number 0 to 999 (0 for cash and for nothing else)"
unfoldable pub security_allowed : Position → Bool
security_allowed p = if eqb p.asset.goods cash then eqb p.security 0 else within 1 999 p.security

-- "each position's in order: as in a deal, a wrong side as 2, a wrong security number as 5": 1 amount; 2 side, type; 3 step; 4 currency; 5 security
-- number, issue life. 7 and 8 are asked of items of a deal alone
abbrev pub position_checks : Position → FieldChecks
position_checks p = record {
  amount = amount_allowed p.amount;
  codes = side_known p && goods_known p.asset;
  steps = asset_step_allowed p.asset;
  currency = currency_allowed p.currency;
  ranges = security_allowed p && life_allowed days_limit p.asset;
  maturity = true;
  conditions = true;
}

unfoldable pub position_tests : Position → List (Test ℕ)
position_tests p = field_tests (position_checks p)

-- the first that is met, or 0
unfoldable pub position_refusal : Position → ℕ
position_refusal p = first_met (position_tests p)

-- position by position: all tests of the first, then all of the next
unfoldable pub fields_of_each : List Position → List (Test ℕ)
fields_of_each [] = []
fields_of_each (p ∷ ps) = position_tests p ++ fields_of_each ps
