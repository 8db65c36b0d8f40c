-- A guarantee's report before it covers anything, and joined with its portion. Only contracts of inner functions use these; the report is
-- said without them.
use Rattle.std.specs.Prelude.{ℕ}
use Rattle.tables.specs.Table.{Table}
use Rattle.cover.specs.declared.protection.Protection.{Protection}
use Rattle.deal.specs.declared.terms.Terms.{Terms}
use Rattle.deal.specs.declared.guarantee.Guarantee.{Guarantee}
use Rattle.relief.specs.declared.guarantee.GuaranteeReport.{GuaranteeReport}
use Rattle.relief.specs.Guarantees.{guarantee_outcome}

abbrev pub without_portion : Table → Terms → Guarantee → GuaranteeReport
without_portion table t g = record { outcome = guarantee_outcome table t g; portion = 0 }

abbrev pub covering : GuaranteeReport → ℕ → GuaranteeReport
covering r portion = record { outcome = r.outcome; portion = portion }

-- a place with no guarantee
abbrev pub no_protection : Protection
no_protection = record { value = 0; weight = 0 }
