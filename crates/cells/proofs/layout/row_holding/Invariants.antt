use mathlib.Core.Path.{◌≡◌}
use lib.Dec.{eqb}
use Rattle.base.specs.Row.{row_of}
use Rattle.cells.specs.Memory.{mem_of}
use Rattle.cells.proofs.layout.row_holding.Given as goal

abbrev pub invariant-loop-v : goal.invariant-loop-v
invariant-loop-v l = l.row ≡ row_of l.v (λ w. eqb (mem_of l.cells l.g.id l.i w) l.c)
