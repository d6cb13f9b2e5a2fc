-- `loading::counted_row` gives the row of the values whose counter is not 0. Assumes nothing.
use Prim.Native.Nat.{ℕ, ◌-◌}
use mathlib.Core.Bool.{Bool}
use mathlib.Core.Path.{◌∙◌, ap₂}
use native.Mathlib.Omega.{arith}
use lib.Dec.{eqb}
use Rattle.base.proofs.Row.{row_rest, row_small}
use Rattle.cells.specs.Layout.{COUNTERS}
use Rattle.cells.specs.Memory.{mem_of}
use Rattle.index.proofs.Labels.{linked_row}
use Rattle.index.proofs.Linked.{linked_inside}
use Rattle.loading.proofs.counted_row.Goals as goal
use Rattle.loading.proofs.counted_row.Goals.{After-counter_row-at}

pub size-n-requires : goal.size-n-requires
size-n-requires c =
    (c.requires.0, (linked_inside c.args.plan.now c.requires.0.sound c.args.x c.args.y c.requires.1).0)

pub counter_row-at-requires : goal.counter_row-at-requires
counter_row-at-requires c =
    linked_row c.args.plan.now c.args.cells.now c.requires.0 c.args.x c.args.y c.requires.1

-- the counter of value v is 0
abbrev lacks : After-counter_row-at → ℕ → Bool
lacks at v = eqb (mem_of at.args.cells.now COUNTERS at.counter_row-at.result v) 0

pub overflow_sub-result-2 : goal.overflow_sub-result-2
overflow_sub-result-2 c =
    omega (arith, c.power.ensures, c.row_holding.ensures, row_small c.size-n.result (lacks (goal.at.overflow_sub-result-2 c).After-counter_row-at))

pub returns : goal.returns
returns c =
    rw (← c.size-n.ensures.0, ← c.counter_row-at.ensures.0)
    (ap₂ (λ k r. k - 1 - r) c.power.ensures c.row_holding.ensures ∙ row_rest c.size-n.result (lacks (goal.at.returns c).After-counter_row-at))
