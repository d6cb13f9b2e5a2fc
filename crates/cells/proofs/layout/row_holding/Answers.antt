-- `cells::layout::row_holding` gives the row of the values whose cells hold a number. The loop's invariant: the row holds
-- those of the values passed. Assumes nothing.
use Prim.Native.Nat.{ℕ, ◌+◌, ◌^◌, ◌<◌}
use mathlib.Core.Bool.{Bool, cond}
use mathlib.Core.Path.{◌≡◌, refl, ◌∙◌, ap}
use native.Mathlib.Omega.{arith}
use lib.Dec.{eqb}
use Rattle.base.proofs.Row.{row_more, row_low}
use Rattle.base.specs.Row.{row_of}
use Rattle.cells.specs.Layout.{VALUEROOM}
use Rattle.cells.specs.Memory.{mem_of}
use Rattle.cells.proofs.layout.row_holding.Goals as goal
use Rattle.cells.proofs.layout.row_holding.Goals.{After-row_if, At-loop-v}

pub loop-v-init : goal.loop-v-init
unfolding row_of
loop-v-init c = refl

-- whether a value's cell holds the number
abbrev test : At-loop-v → ℕ → Bool
test l w = let a = l.args in eqb (mem_of a.cells.now a.g.id a.i w) a.c

-- after a value: its place in the row
module _ (c : After-row_if) where
  longer : c.loop-v.row + c.row_if.result ≡ row_of (c.loop-v.v + 1) (test (goal.at.After-row_if c).At-loop-v)
  longer =
      row_more c.loop-v.v c.loop-v.row c.row_if.result (test (goal.at.After-row_if c).At-loop-v) c.loop-v.invariant
      (c.row_if.ensures
      ∙ ap (λ (k : ℕ). cond (eqb k c.args.c) (2 ^ c.loop-v.v) 0) c.get.ensures.0)

  -- which fits
  short : c.loop-v.row + c.row_if.result < 2 ^ VALUEROOM
  short =
      omega (arith, longer, row_low VALUEROOM (c.loop-v.v + 1) (test (goal.at.After-row_if c).At-loop-v) (omega arith))

pub overflow_add-row : goal.overflow_add-row
overflow_add-row c = omega (arith, short (goal.at.overflow_add-row c).After-row_if)

pub loop-v-preserved : goal.loop-v-preserved
loop-v-preserved c = longer (goal.at.loop-v-preserved c).After-row_if
