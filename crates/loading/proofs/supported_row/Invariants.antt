use mathlib.Core.Path.{◌≡◌}
use Rattle.cells.specs.Memory.{mem_of}
use Rattle.disac4.specs.System.{system_at}
use Rattle.loading.specs.Load.{suited_row}
use Rattle.loading.proofs.supported_row.Given as goal

abbrev pub invariant-loop-y : goal.invariant-loop-y
invariant-loop-y l = l.row ≡ suited_row (system_at l.plan) (mem_of l.cells) l.x l.y
