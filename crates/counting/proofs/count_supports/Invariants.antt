use Rattle.cells.proofs.Done.{Done}
use Rattle.counting.specs.Count.{count_variable_m}
use Rattle.disac4.specs.System.{system_at}
use Rattle.counting.proofs.count_supports.Given as goal

abbrev pub invariant-loop-x : goal.invariant-loop-x
invariant-loop-x l = Done (count_variable_m (system_at l.plan)) l.initial.cells l.x l.cells
