use Prim.Native.Nat.{ℕ, ◌^◌}
use mathlib.Core.Bool.{Bool, true}
use mathlib.Core.List.{List}
use mathlib.Core.Path.{◌≡◌}
use lib.Dec.{ltb}
use Rattle.base.specs.Below.{all_below}
use Rattle.format.specs.Format.{table_row_at}
use Rattle.sections.proofs.constraint.rows_fit.Given as goal

-- value v's row is below 2 ^ width
abbrev pub fits : List ℕ → ℕ → ℕ → ℕ → Bool
fits b at width v = ltb (table_row_at b at v) (2 ^ width)

abbrev pub invariant-loop-v : goal.invariant-loop-v
invariant-loop-v l = all_below l.v (fits l.plan l.at l.width) ≡ true
