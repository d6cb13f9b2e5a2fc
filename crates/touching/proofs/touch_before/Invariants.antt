use Prim.Native.Nat.{◌≤◌}
use lib.ListN.{get_or}
use Rattle.touching.proofs.Grown.{Grown}
use Rattle.touching.specs.Touching.{among_first}
use Rattle.touching.proofs.touch_before.Given as goal

abbrev pub invariant-loop-i : goal.invariant-loop-i
invariant-loop-i l =
    (l.fresh ≤ l.i) × Grown l.y (among_first l.plan l.at l.i) (get_or l.rows l.y 0) l.row l.fresh
