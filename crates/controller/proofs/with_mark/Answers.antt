-- `controller::with_mark` adds a mark. Assumes nothing.
use Rattle.controller.proofs.ControllerLaws.{mark_stays, mark_joins}
use Rattle.controller.proofs.with_mark.Goals as goal

pub returns-then-row_holds : goal.returns-then-row_holds
returns-then-row_holds c = mark_stays _ _ c.requires.0 c.row_holds.ensures c.if-row_holds.true

pub returns-else-row_holds : goal.returns-else-row_holds
returns-else-row_holds c =
    mark_joins _ _ c.requires.0 c.row_holds.ensures c.power.ensures c.requires.1
    c.if-row_holds.false
