use Rattle.std.proofs.Common.{ap, ◌∙◌}
use Rattle.scaling.specs.Scaling.{scaled}
use Rattle.netting.specs.Haircuts.{currency_haircut_over}
use Rattle.netting.proofs.haircuts.currency_haircut.Goals as goal

pub returns : goal.returns
unfolding currency_haircut_over
returns c = c.scale.ensures ∙ ap (scaled 80000) c.requires
