-- `rounds::read_all` reads from every worker. The loop's invariant: those passed are read from. Assumes nothing.
use Prim.Native.Nat.{suc}
use mathlib.Core.List.{[], ◌∷◌}
use native.Mathlib.Numerals.{add-one}
use native.Mathlib.Omega.{arith}
use Rattle.disac4.proofs.Allowed.{controller_may_read}
use Rattle.disac4.specs.Turn.{turn}
use Rattle.engine.proofs.Further.{advances_none, underway_after, one_further}
use Rattle.rounds.proofs.read_all.Goals as goal

pub loop-i-init : goal.loop-i-init
loop-i-init c = advances_none _

pub control-requires : goal.control-requires
control-requires c =
    (underway_after c.requires c.loop-i.invariant, controller_may_read _ _ (omega arith) (omega (arith, c.loop-i.invariant.workers)))

pub loop-i-preserved : goal.loop-i-preserved
loop-i-preserved c = one_further (λ _ i. turn 0 (suc i) ∷ []) c.loop-i.i c.loop-i.invariant (rw add-one at c.control.ensures)
