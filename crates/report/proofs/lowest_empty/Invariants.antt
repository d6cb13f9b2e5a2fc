use Prim.Native.Nat.{◌≤◌}
use mathlib.Core.Option.{none}
use mathlib.Core.Path.{◌≡◌}
use Rattle.base.specs.Below.{first_below}
use Rattle.report.proofs.Reported.{empty_at}
use Rattle.cells.specs.Memory.{mem_of}
use Rattle.report.proofs.lowest_empty.Given as goal

abbrev pub invariant-loop-x : goal.invariant-loop-x
invariant-loop-x l = (l.x ≤ l.variables) × (first_below l.x (empty_at l.plan (mem_of l.cells)) ≡ none)
