-- `engine::run::read` takes the next poll or the next list message. Assumes nothing.
use Rattle.cells.proofs.Acting.{acts_as}
use Rattle.engine.proofs.RunLaws.{read_polls, read_lists}
use Rattle.engine.proofs.run.read.Goals as goal

pub returns-then-d-eq0 : goal.returns-then-d-eq0
returns-then-d-eq0 c =
    acts_as (read_polls _ _ _ _ c.if-d-eq0.true) c.read_poll.ensures

pub returns-else-d-eq0 : goal.returns-else-d-eq0
returns-else-d-eq0 c =
    acts_as (read_lists _ _ _ _ c.if-d-eq0.false) c.read_list.ensures
