use Rattle.cells.proofs.Done.{Done}
use Rattle.cells.specs.Memory.{mem_of}
use Rattle.cells.specs.View.{counter_row}
use Rattle.counting.specs.Count.{count_value_m}
use Rattle.disac4.specs.System.{system_at}
use Rattle.counting.proofs.put_counts.Given as goal

abbrev pub invariant-loop-v : goal.invariant-loop-v
invariant-loop-v l =
    Done (count_value_m (system_at l.plan) l.x l.y (counter_row (mem_of l.initial.cells) l.x l.y)) l.initial.cells l.v l.cells
