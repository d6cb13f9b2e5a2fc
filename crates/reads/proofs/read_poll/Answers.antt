-- `reads::read_poll` reads the next poll. Assumes nothing.
use Rattle.cells.proofs.Acting.{idle, acts}
use Rattle.reads.proofs.ReadLaws.{read_no_poll, read_holds}
use Rattle.reads.proofs.read_poll.Goals as goal

pub returns-then-polls-n : goal.returns-then-polls-n
returns-then-polls-n c =
    idle _ _ (read_no_poll _ _ _ c.get-polls.ensures.0 c.if-polls-n.true)

pub returns : goal.returns
returns c =
    acts _ _ _ _ (read_holds _ _ _ c.get-polls.ensures.0 c.if-polls-n.false) c.hold.ensures
