use Prim.Native.Nat.{◌+◌, ◌*◌, ◌≤◌}
use Rattle.format.specs.Format.{variable_count}
use Rattle.format.specs.Limits.{max_further}
use Rattle.touching.proofs.ScopePairs.{joins_below}
use Rattle.touching.specs.Touching.{Joined}
use Rattle.touching.proofs.touch_pairs.Given as goal

abbrev pub invariant-loop-j : goal.invariant-loop-j
invariant-loop-j l =
    (l.fresh ≤ (2 + max_further) * l.j) × Joined (variable_count l.plan) (joins_below l.plan l.at l.j) l.initial.rows l.rows l.fresh
