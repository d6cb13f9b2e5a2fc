-- `sections::constraint::rows_fit` says whether all rows of a table are below 2 ^ width.
-- Invariant: those before `v` are. Assumes nothing.
use Prim.Native.Nat.{◌^◌}
use borrow.Author.Tests.{ltb-true}
use mathlib.Core.Path.{sym}
use native.Mathlib.Omega.{arith}
use Rattle.base.proofs.Below.{all_below_lem}
use Rattle.base.proofs.Bools.{refuted}
use Rattle.base.specs.Below.{all_below}
use Rattle.format.specs.Format.{table_row_at}
use Rattle.sections.proofs.constraint.rows_fit.Goals as goal
use Rattle.sections.proofs.constraint.rows_fit.Invariants.{fits}

pub returns-then-limit-table_row : goal.returns-then-limit-table_row
returns-then-limit-table_row c =
    let a = c.args in
    let b = a.plan.now in
    sym
    (refuted (all_below a.rows (fits b a.at a.width))
    (λ p.
    omega (
      arith,
      ltb-true (table_row_at b a.at c.loop-v.v) (2 ^ a.width) (all_below_lem a.rows (fits b a.at a.width) p c.loop-v.v c.loop-v-test.true),
      c.power-limit.ensures,
      c.table_row.ensures,
      c.if-limit-table_row.true,
    )))
