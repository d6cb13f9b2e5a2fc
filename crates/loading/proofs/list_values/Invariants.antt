use Rattle.disac4.specs.System.{system_at}
use Rattle.cells.proofs.Done.{Done}
use Rattle.loading.specs.Load.{list_value_m}
use Rattle.loading.proofs.list_values.Given as goal

abbrev pub invariant-loop-v : goal.invariant-loop-v
invariant-loop-v l = Done (list_value_m (system_at l.plan) l.x l.row) l.initial.cells l.v l.cells
