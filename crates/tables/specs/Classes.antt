-- Classes of counterparties and of protection providers. 01: What a deal holds, "counterparty class", "provider class".
use Rattle.std.specs.Prelude.{ℕ}

-- of either
abbrev pub sovereign : ℕ
sovereign = 1

-- Counterparties

abbrev pub bank : ℕ
bank = 2

abbrev pub corporate : ℕ
corporate = 3

abbrev pub retail : ℕ
retail = 4

-- Providers

abbrev pub bank_or_securities_firm : ℕ
bank_or_securities_firm = 2

abbrev pub other_entity : ℕ
other_entity = 3
