use Rattle.cells.proofs.Done.{Done}
use Rattle.index.specs.Index.{beside_m}
use Rattle.indexing.proofs.put_limits.Given as goal

abbrev pub invariant-loop-j : goal.invariant-loop-j
invariant-loop-j l = Done (λ j. beside_m l.plan l.at j j) l.initial.cells l.j l.cells
