use Rattle.cells.proofs.Done.{Done}
use Rattle.cells.specs.Queues.{copy_label_m}
use Rattle.cells.proofs.queues.copy.Given as goal

abbrev pub invariant-loop-k : goal.invariant-loop-k
invariant-loop-k l = Done (copy_label_m l.j l.i l.from) l.initial.cells l.k l.cells
