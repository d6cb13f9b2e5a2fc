-- `rows::table_values` reads a table's row, or its column. Assumes nothing.
use Prim.Native.Nat.{ℕ}
use mathlib.Core.Path.{ap}
use native.Mathlib.Omega.{arith}
use Rattle.base.proofs.Row.{row_held}
use Rattle.base.specs.Row.{bit}
use Rattle.format.proofs.Widths.{words_range}
use Rattle.rows.specs.Permits.{table_permits, in_column}
use Rattle.rows.proofs.table_values.Goals as goal

pub table_row-requires : goal.table_row-requires
table_row-requires c =
    (c.requires.0, c.requires.1.section, omega (arith, c.requires.1.in_row, words_range c.args.plan.now))

pub returns-then-leads : goal.returns-then-leads
unfolding table_permits
returns-then-leads c w h = rw c.if-leads.true (ap (λ (r : ℕ). bit r w) c.table_row.ensures)

pub returns-else-leads : goal.returns-else-leads
unfolding table_permits
returns-else-leads c w h =
    let a = c.args in
    rw c.if-leads.false (row_held a.values _ (in_column a.plan.now a.at a.v) c.table_column.ensures w h)
