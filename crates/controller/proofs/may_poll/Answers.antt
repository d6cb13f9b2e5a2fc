-- `controller::may_poll` says whether a poll is sent. Assumes nothing.
use Rattle.controller.specs.Controller.{may_poll_t}
use Rattle.controller.proofs.may_poll.Goals as goal

pub returns-then-not-t : goal.returns-then-not-t
unfolding may_poll_t
returns-then-not-t c = rw c.if-not-t.true

pub returns-else-not-t : goal.returns-else-not-t
unfolding may_poll_t
returns-else-not-t c = rw c.if-not-t.false
