-- Haircuts of a netting set. 02: L6, "n is interval plus 4"; CRE22.73, "All other rules regarding the calculation of haircuts .. equivalently apply"
use Rattle.std.specs.Prelude.{ℕ, ◌+◌}
use Rattle.tables.specs.Haircuts.{currency_haircut}
use Rattle.tables.specs.Table.{table_of}
use Rattle.scaling.specs.Scaling.{scaled}
use Rattle.netting.specs.declared.position.Position.{Position}
use Rattle.netting.specs.declared.terms.SetTerms.{SetTerms}

-- "n is interval plus 4", the holding period of a repo-style transaction
unfoldable pub set_period : SetTerms → ℕ
set_period t = t.interval + 4

-- H_s, scaled by itself: the figure of the set's tables, and of goods that are not eligible, which only are lent, that of lent goods not eligible
unfoldable pub security_haircut : SetTerms → Position → ℕ
security_haircut t p = scaled ((table_of t.table).lent_haircut p.asset.goods p.asset.step p.asset.life) (set_period t)

-- H_fx, likewise
unfoldable pub currency_haircut_over : SetTerms → ℕ
currency_haircut_over t = scaled currency_haircut (set_period t)
