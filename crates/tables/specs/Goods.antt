-- Types of goods. 01: What a deal holds, "Goods types".
use Rattle.std.specs.Prelude.{ℕ}

abbrev pub cash : ℕ
cash = 1

abbrev pub sovereign_debt : ℕ
sovereign_debt = 2

-- debt of issuers other than sovereigns and banks
abbrev pub other_debt : ℕ
other_debt = 3

abbrev pub bank_debt : ℕ
bank_debt = 4

abbrev pub securitisation : ℕ
securitisation = 5

abbrev pub resecuritisation : ℕ
resecuritisation = 6

abbrev pub main_index_equity : ℕ
main_index_equity = 7

abbrev pub other_listed_equity : ℕ
other_listed_equity = 8

abbrev pub gold : ℕ
gold = 9
