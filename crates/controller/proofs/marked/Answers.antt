-- `controller::marked` gives the tally after a reply to the open poll. Assumes nothing.
use Rattle.controller.proofs.ControllerLaws.{marked_as}
use Rattle.controller.proofs.marked.Goals as goal

pub returns : goal.returns
returns c =
    marked_as _ _ _ _ _ c.with_mark-marks.ensures.0 c.power.ensures
