-- `cells::queues::delete` takes a label out of its domain, to the end of the log and of the work list. Assumes nothing.
use Rattle.cells.proofs.Pushing.{deleted}
use Rattle.cells.proofs.queues.delete.Goals as goal

pub returns : goal.returns
returns c =
    deleted c.args.i c.args.x c.args.v _ _ _ _ c.put.ensures
    c.push.ensures c.push-2.ensures
