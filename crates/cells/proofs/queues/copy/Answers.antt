-- `cells::queues::copy` copies labels of a log to a work list. The loop's invariant: as many as were passed are copied.
-- Assumes nothing.
use Prim.Native.Nat.{ℕ}
use mathlib.Core.Path.{◌∙◌, ap}
use native.Mathlib.Omega.{arith}
use Rattle.cells.proofs.Done.{done_none, done_more, done_all}
use Rattle.cells.specs.Layout.{WORK, TAIL}
use Rattle.cells.specs.Queues.{push_m, copy_m}
use Rattle.cells.specs.Memory.{mem_of}
use Rattle.cells.proofs.queues.copy.Goals as goal

pub loop-k-init : goal.loop-k-init
loop-k-init c = done_none

pub loop-k-preserved : goal.loop-k-preserved
loop-k-preserved c =
    done_more c.loop-k.invariant c.push.auto.cells
    (c.push.ensures
    ∙ ap (λ (l : ℕ). push_m WORK TAIL c.args.i l (mem_of c.loop-k.cells)) c.get-c.ensures.0)

pub returns : goal.returns
unfolding copy_m
returns c = done_all _ c.loop-k.invariant (omega arith)
