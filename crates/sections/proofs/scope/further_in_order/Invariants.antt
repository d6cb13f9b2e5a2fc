use Prim.Native.Nat.{ℕ, ◌+◌}
use mathlib.Core.Bool.{Bool, true, ◌&&◌}
use mathlib.Core.List.{List}
use mathlib.Core.Path.{◌≡◌}
use lib.Dec.{leb, ltb}
use Rattle.base.specs.Below.{all_below}
use Rattle.format.specs.Format.{scope_at, variable_count}
use Rattle.sections.proofs.scope.further_in_order.Given as goal

-- further number i is above the one before it, and in range
abbrev pub ascends-at : List ℕ → ℕ → ℕ → Bool
ascends-at b at i = ltb (scope_at b at (i + 1)) (scope_at b at (i + 2)) && leb (scope_at b at (i + 2)) (variable_count b)

abbrev pub invariant-loop-i : goal.invariant-loop-i
invariant-loop-i l = (l.last ≡ scope_at l.plan l.at (l.i + 1)) × (all_below l.i (ascends-at l.plan l.at) ≡ true)
