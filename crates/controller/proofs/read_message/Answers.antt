-- `controller::read_message` reads the next message of a worker. Assumes nothing.
use Rattle.controller.proofs.ControllerLaws.{stands, controller_read_idle, controller_takes}
use Rattle.cells.proofs.Acting.{idle, acts}
use Rattle.controller.proofs.read_message.Goals as goal

pub returns-then-not-has_out : goal.returns-then-not-has_out
returns-then-not-has_out c =
    λ sys e. idle _ _ (controller_read_idle _ _ _ c.has_out.ensures _ _ _ c.get-read.ensures.0
    c.get-end.ensures.0 c.if-not-has_out.true)

pub returns : goal.returns
returns c =
    λ sys e. acts _ _ _ _ (controller_takes _ _ _ c.has_out.ensures _ _ _ c.get-read.ensures.0
    c.get-end.ensures.0 c.if-not-has_out.false c.get-c.ensures.0 e)
    (stands _ _ _ c.put.ensures c.told.ensures)
