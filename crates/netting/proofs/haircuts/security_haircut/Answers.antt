use Rattle.std.proofs.Common.{ap₂, ◌∙◌, arith}
use Rattle.tables.proofs.EditionBounds.{lent_low}
use Rattle.scaling.specs.Scaling.{scaled}
use Rattle.netting.specs.Haircuts.{security_haircut}
use Rattle.netting.proofs.haircuts.security_haircut.Goals as goal

pub scale-requires : goal.scale-requires
scale-requires c =
    let asset = c.args.position.now.asset in
    omega (arith, c.lent_haircut_under.ensures, lent_low c.args.terms.table asset.goods asset.step asset.life)

pub returns : goal.returns
unfolding security_haircut
returns c = c.scale.ensures ∙ ap₂ scaled c.lent_haircut_under.ensures c.requires
