use Prim.Native.Nat.{◌-◌}
use Rattle.cells.proofs.Done.{Done}
use Rattle.format.specs.Format.{limit_at, scope_at}
use Rattle.index.specs.Index.{limit_m}
use Rattle.indexing.proofs.put_beside.Given as goal

abbrev pub invariant-loop-i : goal.invariant-loop-i
invariant-loop-i l =
    Done (λ i. limit_m (limit_at l.plan l.at) (scope_at l.plan l.at i - 1) (scope_at l.plan l.at l.j - 1)) l.initial.cells l.i l.cells
