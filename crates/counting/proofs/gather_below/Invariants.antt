use Prim.Native.Nat.{ℕ, ◌+◌, ◌^◌, ◌≤◌}
use mathlib.Core.Bool.{cond}
use mathlib.Core.Path.{◌≡◌}
use lib.ListN.{get_or}
use Rattle.base.specs.Row.{bit}
use Rattle.counting.specs.Count.{FirstRows}
use Rattle.counting.proofs.gather_below.Given as goal

abbrev pub invariant-loop-w : goal.invariant-loop-w
invariant-loop-w l =
    FirstRows (λ k. get_or l.initial.rows k 0 + cond (bit l.row k) (2 ^ l.v) 0) l.w l.rows × ((k : ℕ) → l.w ≤ k → get_or l.rows k 0 ≡ get_or l.initial.rows k 0)
