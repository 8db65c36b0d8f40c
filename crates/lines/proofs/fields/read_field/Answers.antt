use Rattle.std.proofs.Common.{◌∙◌, sym}
use Rattle.lines.proofs.FieldLaws.{untabbed, tabbed}
use Rattle.lines.proofs.fields.read_field.Goals as goal

pub returns-in_err-strip_prefix : goal.returns-in_err-strip_prefix
returns-in_err-strip_prefix c = c.from_residual.ensures ∙ sym (untabbed _ c.in_err-strip_prefix.ensures.cases)

pub returns : goal.returns
returns c = rw c.in_ok-strip_prefix.ensures.cases.1 at c.read_number.ensures ∙ sym (tabbed _ c.in_ok-strip_prefix.ensures.cases.0)
