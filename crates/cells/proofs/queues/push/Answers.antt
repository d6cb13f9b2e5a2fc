-- `cells::queues::push` puts a number at the end of a row's list. Assumes nothing.
use Rattle.cells.proofs.Pushing.{pushed, unpushed}
use Rattle.cells.proofs.queues.push.Goals as goal

pub returns-then-end-lt-LABELROOM : goal.returns-then-end-lt-LABELROOM
returns-then-end-lt-LABELROOM c =
    pushed c.args.g.id c.args.col c.args.i c.args.c _ _
    c.get-end.ensures.0 _ _ c.if-end-lt-LABELROOM.true c.put.ensures c.put-then-end-lt-LABELROOM.ensures

pub returns-else-end-lt-LABELROOM : goal.returns-else-end-lt-LABELROOM
returns-else-end-lt-LABELROOM c =
    unpushed c.args.g.id c.args.col c.args.i c.args.c _ _
    c.get-end.ensures.0 c.if-end-lt-LABELROOM.false
