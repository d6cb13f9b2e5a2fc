-- `controller::poll` sends the next poll. Assumes nothing.
use native.Mathlib.Omega.{arith}
use Rattle.cells.proofs.Acting.{idle, acts}
use Rattle.controller.proofs.ControllerLaws.{stands, may_poll_room, poll_idle, poll_goes, next_number_lem, poll_put}
use Rattle.controller.proofs.poll.Goals as goal

pub returns-then-not-may_poll : goal.returns-then-not-may_poll
returns-then-not-may_poll c =
    idle _ _ (poll_idle _ c.may_poll.ensures _ c.if-not-may_poll.true)

pub polled-after-requires : goal.polled-after-requires
polled-after-requires c =
    may_poll_room _ c.may_poll.ensures c.if-not-may_poll.false

pub put_poll-requires : goal.put_poll-requires
put_poll-requires c =
    omega (
      arith,
      may_poll_room c.args.t c.may_poll.ensures c.if-not-may_poll.false,
      next_number_lem c.args.t _ c.polled-after.ensures _ c.open_poll.ensures,
    )

pub returns : goal.returns
returns c =
    acts _ _ _ _ (poll_goes _ c.may_poll.ensures _ c.if-not-may_poll.false)
    (stands _ _ _
    (poll_put _ _ c.polled-after.ensures _ c.open_poll.ensures _ _ c.put_poll.ensures)
    c.polled-after.ensures)
