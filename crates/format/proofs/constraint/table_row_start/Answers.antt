-- `format::constraint::table_row_start`: a table's rows are short. Assumes nothing.
use Prim.Native.Nat.{ℕ, ◌+◌, ◌*◌, ◌≤◌}
use mathlib.Core.Path.{ap}
use native.Mathlib.Omega.{arith}
use borrow.Author.Rules.{rules}
use Rattle.format.proofs.Widths.{words_range, rows_short}
use Rattle.format.specs.Format.{rows_room}
use Rattle.format.specs.Limits.{word_bytes}
use Rattle.format.proofs.constraint.table_row_start.Goals as goal
use Rattle.format.proofs.constraint.table_row_start.Goals.{Start}

pub overflow_add-result : goal.overflow_add-result
overflow_add-result c = search rules

pub overflow_mul-result : goal.overflow_mul-result
overflow_mul-result c = omega (arith, c.requires.0, words_range c.args.plan.now)

-- the rows before the wanted one
short : (s : Start) → word_bytes * s.args.words * s.args.v ≤ rows_room
short s = rows_short s.args.plan.now (word_bytes * s.args.words) s.args.v (ap (λ (n : ℕ). word_bytes * n) s.requires.0) s.requires.2

pub overflow_mul-result-2 : goal.overflow_mul-result-2
overflow_mul-result-2 c = omega (arith, short (goal.at.overflow_mul-result-2 c).Start)

pub overflow_add-result-2 : goal.overflow_add-result-2
overflow_add-result-2 c = omega (arith, short (goal.at.overflow_add-result-2 c).Start, overflow_add-result (goal.at.overflow_add-result-2 c).Start)

pub returns : goal.returns
returns c = (ap (λ (n : ℕ). c.args.at + 5 + word_bytes * n * c.args.v) c.requires.0, omega (arith, short (goal.at.returns c).Start, c.requires.1))
