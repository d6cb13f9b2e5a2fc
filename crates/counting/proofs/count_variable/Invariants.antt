use Rattle.cells.proofs.Done.{Done}
use Rattle.counting.specs.Count.{count_both_m}
use Rattle.disac4.specs.System.{system_at}
use Rattle.counting.proofs.count_variable.Given as goal

abbrev pub invariant-loop-y : goal.invariant-loop-y
invariant-loop-y l = Done (λ y. count_both_m (system_at l.plan) y l.x) l.initial.cells l.y l.cells
