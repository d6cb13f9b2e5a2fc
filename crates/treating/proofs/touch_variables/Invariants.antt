use mathlib.Core.Path.{◌≡◌}
use lib.ListN.{length}
use Rattle.format.specs.Format.{variable_count}
use Rattle.index.specs.Index.{Ready}
use Rattle.cells.specs.Memory.{mem_of}
use Rattle.treating.proofs.Chain.{ChainReached, chain_left}
use Rattle.treating.proofs.touch_variables.Given as goal

abbrev pub invariant-loop-next : goal.invariant-loop-next
invariant-loop-next l =
    Ready l.plan l.cells × (length l.cells ≡ length l.initial.cells) × ChainReached l.plan l.i l.y l.w (mem_of l.initial.cells) (mem_of l.cells) l.next

abbrev pub decreases-loop-next : goal.decreases-loop-next
decreases-loop-next l = chain_left (variable_count l.plan) l.next
