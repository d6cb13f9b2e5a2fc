-- `controller::told` gives the tally after a message. Assumes nothing.
use Rattle.controller.proofs.ControllerLaws.{told_list, told_closed, told_late, told_reply}
use Rattle.controller.proofs.told.Goals as goal
use Rattle.controller.proofs.told.Goals.{else-t-via-then-t+else-eq, else-t-via-else-t}

pub returns-then-c-ge-LISTMARK : goal.returns-then-c-ge-LISTMARK
returns-then-c-ge-LISTMARK c =
    told_list _ _ _ _ c.if-c-ge-LISTMARK.true c.counted.ensures

pub returns-then-eq : goal.returns-then-eq
returns-then-eq c =
    told_reply _ _ _ _ c.if-c-ge-LISTMARK.false c.if-t.true c.eq.ensures c.if-eq.true c.marked.ensures

pub returns-else-t : goal.returns-else-t
returns-else-t c =
    elim c.else-t.branch [
      | else-t-via-then-t+else-eq w ↦ told_late _ _ _ _ c.if-c-ge-LISTMARK.false w.if-t.true w.eq.ensures w.if-eq.false
      | else-t-via-else-t w ↦ told_closed _ _ _ _ c.if-c-ge-LISTMARK.false w.if-t.false
    ]
