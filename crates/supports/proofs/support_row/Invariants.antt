use Rattle.supports.proofs.Left.{Left}
use Rattle.supports.proofs.support_row.Given as goal

abbrev pub invariant-loop-next : goal.invariant-loop-next
invariant-loop-next l = Left l.plan l.x l.v l.y l.values l.row l.next

abbrev pub decreases-loop-next : goal.decreases-loop-next
decreases-loop-next l = l.next
