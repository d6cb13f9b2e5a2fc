use Rattle.disac4.specs.System.{system_at}
use Rattle.cells.proofs.Done.{Done}
use Rattle.loading.specs.Load.{list_variable_m}
use Rattle.loading.proofs.list_plan.Given as goal

abbrev pub invariant-loop-x : goal.invariant-loop-x
invariant-loop-x l = Done (list_variable_m (system_at l.plan)) l.initial.cells l.x l.cells
