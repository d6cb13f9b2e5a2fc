use Rattle.index.specs.Index.{constraint_m}
use Rattle.cells.proofs.Done.{Done}
use Rattle.indexing.proofs.index_constraints.Given as goal

abbrev pub invariant-loop-c : goal.invariant-loop-c
invariant-loop-c l = Done (constraint_m l.plan) l.initial.cells l.c l.cells
