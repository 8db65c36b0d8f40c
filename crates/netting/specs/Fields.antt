-- A set's terms and its positions from the numbers that are sent, in the order of 02: L6, the table's number (L9) before them
use Rattle.std.specs.Prelude.{ℕ, List, [], get_or}
use Rattle.netting.specs.declared.position.Position.{Position}
use Rattle.netting.specs.declared.terms.SetTerms.{SetTerms}

-- how many there are of each
abbrev pub set_terms_width : ℕ
set_terms_width = 6

abbrev pub position_width : ℕ
position_width = 7

-- the table; "a counterparty class, step and sovereign's step, a settlement currency, an interval"
abbrev pub set_terms_in : List ℕ → SetTerms
set_terms_in fields =
    let field : ℕ → ℕ = λ k. get_or fields k 0 in
    record {
      table = field 0;
      counterparty = record { class = field 1; step = field 2; sovereign_step = field 3 };
      settlement = field 4;
      interval = field 5;
    }

-- "side .., amount, security number .., type, step, issue life, currency"
abbrev pub position_in : List ℕ → Position
position_in fields =
    let field : ℕ → ℕ = λ k. get_or fields k 0 in
    record {
      side = field 0;
      amount = field 1;
      security = field 2;
      asset = record { goods = field 3; step = field 4; life = field 5 };
      currency = field 6;
    }

-- no number is sent: zeros in every field
abbrev pub zero_position : Position
zero_position = position_in []
