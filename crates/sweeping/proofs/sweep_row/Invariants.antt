use Rattle.disac4.specs.System.{network_at}
use Rattle.format.specs.Version.{row_words}
use Rattle.sweeping.proofs.RowLeft.{Revised}
use Rattle.sweeping.proofs.sweep_row.Given as goal

abbrev pub invariant-loop-y : goal.invariant-loop-y
invariant-loop-y l = Revised (row_words l.plan) (network_at l.plan) l.lists l.x l.row l.y
