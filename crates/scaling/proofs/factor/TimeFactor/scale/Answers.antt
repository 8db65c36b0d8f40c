use Rattle.base.proofs.Tests.{and_first, and_second, told_false, told_true}
use Rattle.scaling.proofs.StoredFigures.{has_figures}
use Rattle.scaling.proofs.factor.TimeFactor.scale.Goals as goal
use Rattle.scaling.proofs.factor.TimeFactor.scale.Goals.{then-is_daily+in_default, else-is_daily}

pub work_out-requires-clause-not_stored : goal.work_out-requires-clause-not_stored
work_out-requires-clause-not_stored c =
    elim c.if-is_daily.branch [
      | then-is_daily+in_default w ↦ and_second _ _ (told_true _ _ c.is_daily.ensures w.if-is_daily.true) (rw w.in_default.is at (has_figures _ w.stored_line.ensures))
      | else-is_daily w ↦ and_first _ _ (told_false _ _ c.is_daily.ensures w.if-is_daily.false)
    ]
